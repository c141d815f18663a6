-- `following` meets its contract. Assumes nothing.
use Prim.Native.Nat.{ℕ, ◌+◌, ◌-◌, ◌≤◌}
use native.Mathlib.Omega.{arith}
use mathlib.Core.Path.{refl, subst as along}
use mathlib.Core.List.{[], ◌∷◌, ◌++◌}
use lib.ListN.{length, take}
use borrow.Author.Rules.{rules}
use Rattle.plan_packed.specs.Syntax.{Program}
use Rattle.plan_packed.specs.Trees.{program_of}
use Rattle.text.specs.Inner.Wrote.{Wrote}
use Rattle.text.proofs.Added.{added_more}
use Rattle.run_place_notes.specs.Inner.Notes.{LastDeparture}
use Rattle.interleavings.specs.Inner.Steps.{TurnsAt}
use Rattle.interleavings.proofs.GoingBack.{none_higher_at, turns_at, over}
use Rattle.interleavings.proofs.Answers.{turn_fits, begins, followed}
use Rattle.interleavings.proofs.following.Goals as goal
use Rattle.interleavings.proofs.following.Goals.{After-put_byte-from, In_ok-departure}

abbrev g : (c : In_ok-departure) → Program
g c = program_of c.args.plan.now

abbrev place : (c : In_ok-departure) → ℕ
place c = c.in_ok-departure.departure.place

abbrev pick : (c : In_ok-departure) → ℕ
pick c = c.in_ok-departure.departure.pick

turns : (c : In_ok-departure) → TurnsAt (g c) c.args.schedule.now (place c) (pick c)
turns c =
    turns_at (g c) c.args.schedule.now c.args.notes.now c.requires.noted (place c) (pick c)
    c.in_ok-departure.ensures

room : (c : In_ok-departure) → length (take ((place c) - 0) c.args.schedule.now) + 1 ≤ length c.args.area.now
room c = turn_fits (g c) c.args.n c.args.schedule.now c.requires.listed c.args.area.now c.requires.long (place c) (pick c) (turns c)

abbrev place_after_put_byte_from : (c : After-put_byte-from) → ℕ
place_after_put_byte_from c = c.in_ok-departure.departure.place

abbrev pick_after_put_byte_from : (c : After-put_byte-from) → ℕ
pick_after_put_byte_from c = c.in_ok-departure.departure.pick

first_picks : (c : After-put_byte-from) → Wrote c.args.area.now 0 (take (place_after_put_byte_from c - 0) c.args.schedule.now ++ (pick_after_put_byte_from c ∷ []))
    c.put_byte-from.new.area c.put_byte-from.result
first_picks c = added_more c.put_word-end.ensures c.put_byte-from.ensures

pub slice_bounds-put_word-end : goal.slice_bounds-put_word-end
slice_bounds-put_word-end c = omega (arith, (turns (goal.at.slice_bounds-put_word-end c).In_ok-departure).inside)

pub put_word-end-requires : goal.put_word-end-requires
put_word-end-requires c = omega (arith, room (goal.at.put_word-end-requires c).In_ok-departure)

pub overflow_cast-departure : goal.overflow_cast-departure
overflow_cast-departure c = record { fits = omega (arith, (turns (goal.at.overflow_cast-departure c).In_ok-departure).of_eight) }

pub put_byte-from-requires : goal.put_byte-from-requires
put_byte-from-requires c =
    omega (
      arith,
      room (goal.at.put_byte-from-requires c).In_ok-departure,
      c.put_word-end.ensures.next,
      c.put_word-end.ensures.kept,
    )

pub go_on-requires : goal.go_on-requires
go_on-requires c =
    begins (g (goal.at.go_on-requires c).In_ok-departure) c.args.n c.args.schedule.now c.requires.listed c.args.area.now c.requires.long (place (goal.at.go_on-requires c).In_ok-departure) (pick (goal.at.go_on-requires c).In_ok-departure) (turns (goal.at.go_on-requires c).In_ok-departure) _ _ (first_picks (goal.at.go_on-requires c).After-put_byte-from)
    c.args.plan.now c.args.words.now refl c.requires.accepted c.requires.bound

pub returns-in_err-departure : goal.returns-in_err-departure
returns-in_err-departure c =
    let g = program_of c.args.plan.now in
    rw c.from_residual.ensures (
      over g c.args.n c.args.schedule.now c.requires.listed
          (λ i h. none_higher_at g c.args.schedule.now c.args.notes.now c.requires.noted i h (c.in_err-departure.ensures i h)),
      refl,
    )

pub returns : goal.returns
returns c =
    followed (g (goal.at.returns c).In_ok-departure) c.args.n c.args.schedule.now c.requires.listed c.args.area.now c.requires.long (place (goal.at.returns c).In_ok-departure) (pick (goal.at.returns c).In_ok-departure) (turns (goal.at.returns c).In_ok-departure) _ _ (first_picks (goal.at.returns c).After-put_byte-from)
    _ c.go_on.result c.go_on.ensures
