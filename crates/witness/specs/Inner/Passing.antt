-- A plan, its words and a schedule that nothing refuses before 16. No reader of the entry's promise needs it. Assumes nothing.
use Rattle.std.specs.Prelude.{ℕ, ◌≡◌, false, List}
use Rattle.std.proofs.Math.Option.{none}
use Rattle.rules.specs.Play.{schedule_refusal}
use Rattle.side_by_side.specs.LeftOut.{left_out}
use Rattle.plan_left_out.specs.Inner.Loads.{Loads}

-- a plan that passes and is not left out, its words, and a schedule
pub record Passing (plan words schedule : List ℕ) : Type 0 where
  pub loads : Loads plan words
  pub scheduled : schedule_refusal plan schedule ≡ none
  pub not_left_out : left_out plan ≡ false
