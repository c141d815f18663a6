-- Plan P with its race, by computation: the five moves of thread 0 stay, the write goes. Assumes nothing.
use Prim.Native.Nat.{ℕ}
use mathlib.Core.Path.{◌≡◌, refl}
use mathlib.Core.List.{List, [], ◌∷◌, reverse}
use Rattle.plan_packed.specs.Trees.{program_of}
use Rattle.log_records.specs.Record.{Kind, Record, entry}
use Rattle.rules.specs.ShotList.{plan_p}
use Rattle.side_by_side.specs.Moves.{moves_of}
use Rattle.side_by_side.specs.Schedule.{picks_of}
use Rattle.side_by_side.proofs.Marks.{marks_of}

raced : List Record
unfolding moves_of program_of plan_p
raced = moves_of (program_of plan_p) (0 ∷ 0 ∷ 0 ∷ 0 ∷ 0 ∷ 1 ∷ 0 ∷ [])

its_moves : raced ≡ (entry Kind.new 0 0 0 0 ∷ entry Kind.new 0 1 0 0 ∷ entry Kind.new 0 0 0 0 ∷ entry Kind.fork 0 2 1 0 ∷ entry Kind.new 0 0 0 0
    ∷ entry Kind.write 1 1 1 0 ∷ entry Kind.lacks_read 0 1 1 0 ∷ [])
unfolding raced moves_of
its_moves = refl

its_schedule : picks_of (marks_of (reverse raced) 6 5) raced ≡ (0 ∷ 0 ∷ 0 ∷ 0 ∷ 0 ∷ [])
unfolding raced moves_of picks_of marks_of
its_schedule = refl
