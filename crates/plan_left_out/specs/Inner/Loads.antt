-- A plan and its words. No reader of the entry's promise needs it. Assumes nothing.
use Rattle.std.specs.Prelude.{ℕ, ◌≡◌, List}
use Rattle.std.proofs.Math.Option.{none}
use Rattle.plan_packed.specs.Format.{terms}
use Rattle.plan_packed.specs.Check.{refusal}
use Rattle.plan_packed.specs.Inner.Steps.{Loaded}

-- a plan that passes, and its words
pub record Loads (plan words : List ℕ) : Type 0 where
  pub passes : refusal plan ≡ none
  pub loaded : Loaded plan (terms plan) words
