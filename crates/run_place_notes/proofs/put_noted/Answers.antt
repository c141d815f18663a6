use Prim.Native.Nat.{ℕ, ◌-◌, ◌≤◌}
use native.Mathlib.Omega.{arith}
use mathlib.Core.Path.{subst as along}
use borrow.Author.Rules.{rules}
use Rattle.run_place_notes.specs.Inner.Notes.{PutNoted}
use Rattle.run_place_notes.proofs.Put.{put_none, put_one_lem}
use Rattle.run_place_notes.proofs.put_noted.Goals as goal

pub loop-place-init : goal.loop-place-init
loop-place-init c = put_none c.args.notes.now c.args.from c.args.area.now

pub loop-place-preserved : goal.loop-place-preserved
loop-place-preserved c =
    put_one_lem c.args.notes.now c.args.from c.args.area.now c.loop-place.place c.loop-place.area c.loop-place.invariant (omega arith)
    (omega (arith, c.loop-place.invariant.kept, c.requires.room))

pub shape_of-area : goal.shape_of-area
shape_of-area c = c.loop-place.invariant.kept

pub returns : goal.returns
returns c =
    along (λ (k : ℕ). PutNoted c.args.notes.now k c.args.from c.args.area.now c.loop-place.area)
    (omega (arith, c.requires.behind)) c.loop-place.invariant
