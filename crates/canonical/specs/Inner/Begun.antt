-- Names for what is written of a plan, and for what is left: no reader of the entry's promise needs them. Assumes nothing.
use Rattle.std.specs.Prelude.{ℕ, ◌+◌, ◌-◌, ◌*◌, ◌≤◌, ◌≡◌, List, length}
use Rattle.std.proofs.Math.Option.{Option, none}
use Rattle.std.proofs.lemmas.List.Edits.{sets}
use Rattle.format.specs.Refusal.{Refusal}
use Rattle.plan_packed.specs.Syntax.{Procedure}
use Rattle.plan_packed.specs.Format
use Rattle.plan_packed.specs.Format.{terms}
use Rattle.plan_packed.specs.Inner.Steps.{Loaded}
use Rattle.plan_packed.specs.Trees.{procedures_from}
use Rattle.plan_packed.specs.Check.{refusal}
use Rattle.plan_written.specs.Written.{procedure_bytes, term_words, word_bytes}
use Rattle.canonical.specs.Canonical.{canonical_refusal}

-- of any area of n bytes
abbrev pub RefusedAs : List ℕ → ℕ → Option Refusal → Type 0
RefusedAs plan n r = (a : List ℕ) → length a ≡ n → r ≡ canonical_refusal plan a

-- an accepted plan with its terms in an array, and an area that is long enough
pub record Ready (plan words area : List ℕ) : Type 0 where
  pub passes : refusal plan ≡ none
  pub loaded : Loaded plan (terms plan) words
  pub long : length plan ≤ length area

-- the procedures from procedure p on
abbrev pub rest_from : List ℕ → ℕ → List Procedure
rest_from plan p = procedures_from plan p (Format.procedures plan - p)

-- an area once the procedures from procedure p on are written, whose first term has number n
abbrev pub trees_written : List ℕ → ℕ → ℕ → List ℕ → List ℕ
trees_written plan p n area =
    sets (sets area (8 + 2 * p) (procedure_bytes n (rest_from plan p))) (8 + 2 * Format.procedures plan + 5 * n) (word_bytes (term_words n (rest_from plan p)))
