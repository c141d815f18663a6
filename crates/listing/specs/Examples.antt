-- Worked examples of lists (document 02, E11). Assumes nothing.
use Rattle.std.specs.Prelude.{ℕ, List, [], ◌∷◌}
use Rattle.rules.specs.ShotList.{plan_p, join_null}

-- an example: a plan, a bound, and the schedules that are listed, in their order
pub record Example : Type 0 where
  pub plan : List ℕ
  pub bound : ℕ
  pub schedules : List (List ℕ)

-- the rows
unfoldable pub examples : List Example
unfolding plan_p join_null
examples =
    -- P: no thread can move after the first, whose two threads are finished; the last pick of the others, a read and a write, stops the run
    record {
      plan = plan_p;
      bound = 64;
      schedules =
          (0 ∷ 0 ∷ 0 ∷ 0 ∷ 0 ∷ 0 ∷ 1 ∷ [])
          ∷ (0 ∷ 0 ∷ 0 ∷ 0 ∷ 0 ∷ 1 ∷ 0 ∷ [])
          ∷ (0 ∷ 0 ∷ 0 ∷ 0 ∷ 1 ∷ 0 ∷ 0 ∷ [])
          ∷ [];
    }
    -- "it has n picks"
    ∷ record {
      plan = plan_p;
      bound = 6;
      schedules =
          (0 ∷ 0 ∷ 0 ∷ 0 ∷ 0 ∷ 0 ∷ [])
          ∷ (0 ∷ 0 ∷ 0 ∷ 0 ∷ 0 ∷ 1 ∷ [])
          ∷ (0 ∷ 0 ∷ 0 ∷ 0 ∷ 1 ∷ 0 ∷ [])
          ∷ [];
    }
    -- "n = 0 lists the empty schedule only."
    ∷ record { plan = plan_p; bound = 0; schedules = [] ∷ [] }
    -- "no thread can move or stop after it": the one thread waits for itself
    ∷ record { plan = join_null; bound = 64; schedules = (0 ∷ []) ∷ [] }
    ∷ []
