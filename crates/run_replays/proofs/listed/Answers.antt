-- `listed` meets its contract. Assumes nothing.
use Prim.Native.Nat.{ℕ, ◌-◌, ◌≤◌}
use native.Mathlib.Nat.{sub-zero}
use native.Mathlib.Omega.{arith}
use mathlib.Core.Path.{◌≡◌, ◌∙◌}
use mathlib.Core.List.{List, []}
use lib.ListN.{length, take}
use lib.Seq.{length-take-le}
use borrow.Author.Rules.{rules}
use Rattle.plan_packed.specs.Trees.{program_of}
use Rattle.run_replays.proofs.Told.{few_counts, too_long, its_outcome, by_count, not_all}
use Rattle.run_replays.proofs.listed.Goals as goal
use Rattle.run_replays.proofs.listed.Goals.{After-explore-explored}

-- the notes that the run is given
notes_length : (n : ℕ) (notes : List ℕ) → n ≤ length notes → length (take (n - 0) notes) ≡ n
notes_length n notes h = length-take-le (n - 0) notes (omega arith) ∙ sub-zero n

abbrev most : (c : After-explore-explored) → length c.args.schedule.now ≤ c.args.n
most c = c.if-n-schedule.false

abbrev long : (c : After-explore-explored) → length (take (c.args.n - 0) c.args.notes.now) ≡ c.args.n
long c = notes_length c.args.n c.args.notes.now c.requires.room

pub returns-then-n-schedule : goal.returns-then-n-schedule
returns-then-n-schedule c = too_long (program_of c.args.plan.now) c.args.n c.args.schedule.now _ c.if-n-schedule.true

pub explore-explored-requires : goal.explore-explored-requires
explore-explored-requires c =
    let m = notes_length c.args.n c.args.notes.now c.requires.room in
    let b = c.if-n-schedule.false in
    record { accepted = c.requires.accepted; of_eight = c.requires.of_eight; room = omega (arith, m, b); few = omega (arith, m, c.requires.bound) }

pub returns-then-explored-schedule : goal.returns-then-explored-schedule
returns-then-explored-schedule c =
    not_all c.args.n c.explore-explored.ensures (most (goal.at.returns-then-explored-schedule c).After-explore-explored) (long (goal.at.returns-then-explored-schedule c).After-explore-explored) _ c.if-explored-schedule.true

pub all_counted-requires : goal.all_counted-requires
all_counted-requires c =
    let o = its_outcome c.args.n c.explore-explored.ensures (most (goal.at.all_counted-requires c).After-explore-explored) (long (goal.at.all_counted-requires c).After-explore-explored) [] c.if-explored-schedule.false in
    omega (arith, few_counts _ _ _ o, most (goal.at.all_counted-requires c).After-explore-explored, c.requires.bound)

pub returns : goal.returns
returns c =
    rw c.all_counted.ensures
    (by_count c.args.n c.explore-explored.ensures (most (goal.at.returns c).After-explore-explored) (long (goal.at.returns c).After-explore-explored) _ c.if-explored-schedule.false c.requires.of_eight)
