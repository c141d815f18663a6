-- Procedures whose calls and costs are known, for inner contracts: no reader of the entry's promise needs them. A set of procedures is a number, as a set of
-- keys is. Assumes nothing.
use Rattle.std.specs.Prelude.{ℕ, ◌^◌, ◌<◌, ◌≡◌, true, false, List, length, get_or}
use Rattle.std.proofs.Math.Option.{none}
use Rattle.run_keys.specs.Keys.{singleton, holds, subset}
use Rattle.plan_packed.specs.Format.{procedures, terms}
use Rattle.plan_packed.specs.Trees.{program_of}
use Rattle.plan_packed.specs.Check.{refusal}
use Rattle.plan_packed.specs.Inner.Steps.{Loaded}
use Rattle.costs.specs.Cost.{body_cost}
use Rattle.costs.specs.Calls.{called}
use Rattle.costs.specs.Inner.Leading.{leads_on}
use Rattle.plan_cost_walk.specs.Inner.Walked.{capped}

-- an accepted plan with so many procedures, its terms' 40 bits in an array
pub record Loads (b : List ℕ) (n : ℕ) (words : List ℕ) : Type 0 where
  pub passes : refusal b ≡ none
  pub procedures_are : n ≡ procedures b
  pub loaded : Loaded b (terms b) words

-- the first n entries are the sets of each procedure alone, and there are 32
pub record Bits (n : ℕ) (bits : List ℕ) : Type 0 where
  pub each : (q : ℕ) → q < n → get_or bits q 0 ≡ singleton q
  pub size : length bits ≡ 32

-- the sets of the procedures that each of the first n calls
pub record Called (b : List ℕ) (n : ℕ) (calls : List ℕ) : Type 0 where
  pub each : (p : ℕ) → p < n → (q : ℕ) → q < 32 → holds (get_or calls p 0) q ≡ called (program_of b) p q
  pub small : (p : ℕ) → p < n → get_or calls p 0 < 2 ^ 32

-- the costs of the procedures of a set, from each of which k calls do not lead on
pub record SettledBy (b : List ℕ) (k done : ℕ) (costs : List ℕ) : Type 0 where
  pub ends : (p : ℕ) → p < procedures b → holds done p ≡ true → leads_on (program_of b) k p ≡ false
  pub costs_are : (p : ℕ) → p < procedures b → holds done p ≡ true → get_or costs p 0 ≡ capped (body_cost (program_of b) k p)

-- the costs of the procedures of a set, from none of which calls lead on for ever
pub record Settled (b : List ℕ) (done : ℕ) (costs : List ℕ) : Type 0 where
  pub depth : ℕ
  pub by_depth : SettledBy b depth done costs
  pub small : done < 2 ^ 32
  pub size : length costs ≡ 32

-- every other procedure of the plan calls one that is not in the set
abbrev pub Stuck : List ℕ → List ℕ → ℕ → Type 0
Stuck b calls done = (p : ℕ) → p < procedures b → holds done p ≡ false → subset (get_or calls p 0) done ≡ false
