-- `put_noted` meets its contract. Assumes nothing.
use Prim.Native.Nat.{ℕ, ◌-◌, ◌≤◌}
use native.Mathlib.Omega.{arith}
use mathlib.Core.Path.{subst as along}
use borrow.Author.Rules.{rules}
use Rattle.run_place_notes.specs.Inner.Notes.{PutNoted}
use Rattle.run_place_notes.proofs.Put.{put_none, put_one_lem}
use Rattle.run_place_notes.proofs.put_noted.Given as goal

abbrev pub invariant-loop-place : goal.invariant-loop-place
invariant-loop-place l = PutNoted l.notes l.place l.from l.initial.area l.area
