-- What is given to the writing of a plan's tokens, and what is left of it: no reader of the entry's promise needs it. Assumes nothing.
use Rattle.std.specs.Prelude.{ℕ, ◌-◌, ◌<◌, ◌≡◌, List, [], ◌∷◌, ◌++◌}
use Rattle.std.proofs.Math.Option.{none}
use Rattle.plan_packed.specs.Syntax.{Procedure}
use Rattle.plan_packed.specs.Format
use Rattle.plan_packed.specs.Format.{version, terms, volatiles, parameters, root, mask_bit, fields_from}
use Rattle.plan_packed.specs.Inner.Steps.{Loaded}
use Rattle.plan_packed.specs.Trees.{tree_at, procedures_from}
use Rattle.plan_packed.specs.Check.{refusal}
use Rattle.plan_notation.specs.Tokens.{version_word, procedure_word, opening, closing, equals}
use Rattle.plan_notation.specs.Shown.{loose, shown, volatile_tokens, procedure_tokens}

-- an accepted plan with its terms in an array
pub record Given (plan words : List ℕ) : Type 0 where
  pub passes : refusal plan ≡ none
  pub loaded : Loaded plan (terms plan) words

-- `procedure 1 (2) =`
unfoldable pub procedure_head : ℕ → ℕ → List ℕ
procedure_head p k = procedure_word ∷ p ∷ opening ∷ k ∷ closing ∷ equals ∷ []

-- procedure p, which is not main
unfoldable pub procedure_alone : List ℕ → ℕ → List ℕ
unfolding procedure_head shown
procedure_alone plan p = procedure_head p (parameters plan p) ++ shown loose (tree_at plan (root plan p))

-- `version 1`, `volatile 2 3`
unfoldable pub header_tokens : List ℕ → List ℕ
unfolding volatile_tokens fields_from
header_tokens plan = version_word ∷ version plan ∷ volatile_tokens (fields_from (volatiles plan) 1 31)

-- the procedures from procedure p on
abbrev pub rest_from : List ℕ → ℕ → List Procedure
rest_from plan p = procedures_from plan p (Format.procedures plan - p)

-- all procedures behind main
unfoldable pub procedures_behind : List ℕ → List ℕ
unfolding procedure_tokens procedures_from
procedures_behind plan = procedure_tokens 1 (rest_from plan 1)

-- the first field from field 1 on that a mask has
pub record FirstField (m r : ℕ) : Type 0 where
  pub same : fields_from m 1 31 ≡ fields_from m r (32 - r)
  pub small : r < 32
  pub there : mask_bit m r ≡ 1
