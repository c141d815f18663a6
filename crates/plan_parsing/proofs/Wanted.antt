-- What goals want of the values, so that all that is made is an expression that a plan can have. Assumes nothing.
use Prim.Native.Nat.{ℕ, suc, ◌+◌, ◌≤◌}
use mathlib.Core.Path.{◌≡◌, refl, ap, ◌∙◌}
use mathlib.Core.List.{List, [], ◌∷◌, ◌++◌}
use lib.ListN.{length, drop}
use borrow.Author.Tests.{ne_eqb}
use Rattle.plan_packed.specs.Syntax.{Expression, Condition, Arguments}
use Rattle.plan_packed.proofs.WellFormed.{count}
use Rattle.plan_written.specs.Terms.{terms_of, terms_ofᶜ, terms_ofᵃ, size, mask_of}
use Rattle.plan_written.proofs.Right.{Ascending, RightCall, Right, Rightᶜ, Rightᵃ}
use Rattle.plan_notation.specs.Tokens.{procedure_word}
use Rattle.plan_notation.proofs.TextEnd.{Ended}
use Rattle.plan_parsing.specs.Goals.{Sort, either, expression, condition, Goal, expect, operand, more, make, binder, fields, procedure, further, Value}
use Rattle.plan_parsing.specs.Goals.{number, of_expression, of_condition, of_arguments, made}
use Rattle.plan_parsing.specs.Goals as goals
use Rattle.plan_parsing.specs.Parser.{ahead}
use Rattle.plan_parsing.specs.Plan.{counts_from}

-- ---- how many terms values have

abbrev pub weight : Value → ℕ
weight (number n) = 0
weight (of_expression e) = size (terms_of e)
weight (of_condition c) = size (terms_ofᶜ c)
weight (of_arguments es) = size (terms_ofᵃ es)

abbrev pub weights : List Value → ℕ
weights [] = 0
weights (v ∷ vs) = weight v + weights vs

-- ---- what goals want

-- where K is wanted behind them
module _ (counts : List ℕ) where
  -- an expression or a condition that a plan can have
  abbrev pub RightOperand : Value → Type 0
  RightOperand (number n) = ⊥
  RightOperand (of_expression e) = Right counts e
  RightOperand (of_condition c) = Rightᶜ counts c
  RightOperand (of_arguments es) = ⊥

  -- any of a sort
  abbrev pub Ready : Sort → (List Value → Type 0) → List Value → Type 0
  Ready either K vs = ((e : Expression) → Right counts e → K (of_expression e ∷ vs)) × ((c : Condition) → Rightᶜ counts c → K (of_condition c ∷ vs))
  Ready expression K vs = (e : Expression) → Right counts e → K (of_expression e ∷ vs)
  Ready condition K vs = (c : Condition) → Rightᶜ counts c → K (of_condition c ∷ vs)

  -- the fields that were read are in a number
  abbrev WantedFields : ℕ → ℕ → (List Value → Type 0) → Value → List Value → Type 0
  WantedFields k f K (number a) vs = (fs : List ℕ) → Ascending f fs → length fs ≤ k → K (number (a + mask_of fs) ∷ vs)
  WantedFields k f K (of_expression e) vs = ⊥
  WantedFields k f K (of_condition c) vs = ⊥
  WantedFields k f K (of_arguments es) vs = ⊥

  abbrev pub Wanted : Goal → (List Value → Type 0) → List Value → Type 0
  Wanted (expect t) K vs = (t ≡ procedure_word → ⊥) × K vs
  Wanted (operand d s) K vs = Ready s K vs
  Wanted (more d s) K [] = ⊥
  Wanted (more d s) K (v ∷ vs) = RightOperand v × Ready s K vs
  Wanted (make k) K vs = (weights (made k vs) ≡ suc (weights vs)) × K (made k vs)
  Wanted binder K vs = (x : ℕ) → ((x ≡ 15 → ⊥) → x ≤ 7) → K (number x ∷ vs)
  Wanted (fields k f) K [] = ⊥
  Wanted (fields k f) K (v ∷ vs) = WantedFields k f K v vs
  Wanted procedure K vs = (p : ℕ) (es : Arguments) → RightCall counts p es → Rightᵃ counts es → K (of_arguments es ∷ number p ∷ vs)
  Wanted (further k) K vs = (es : Arguments) → count es ≡ k → Rightᵃ counts es → K (of_arguments es ∷ vs)
  Wanted goals.count K vs = (k : ℕ) → k ≤ 8 → K (number k ∷ vs)

  abbrev pub Wants : List Goal → (List Value → Type 0) → List Value → Type 0
  Wants [] K vs = K vs
  Wants (g ∷ gs) K vs = Wanted g (Wants gs K) vs

  -- those of two lists
  pub wants_append : (gs gs' : List Goal) (K : List Value → Type 0) → Wants (gs ++ gs') K ≡ Wants gs (Wants gs' K)
  wants_append [] gs' K = refl
  wants_append (g ∷ gs) gs' K = ap (Wanted g) (wants_append gs gs' K)

-- ---- the tokens that are left

-- tokens that are left of others, where no `procedure` was taken
pub record Passed (ts ts' : List ℕ) : Type 0 where
  pub same_counts : counts_from ts' ≡ counts_from ts
  pub still_ended : Ended ts → Ended ts'

pub passed_none : (ts : List ℕ) → Passed ts ts
passed_none ts = record { same_counts = refl; still_ended = λ h. h }

pub passed_both : (ts ts' ts'' : List ℕ) → Passed ts ts' → Passed ts' ts'' → Passed ts ts''
passed_both ts ts' ts'' p q = record { same_counts = q.same_counts ∙ p.same_counts; still_ended = λ h. q.still_ended (p.still_ended h) }

pub passed_token : (t : ℕ) (ts : List ℕ) → (t ≡ procedure_word → ⊥) → Passed (t ∷ ts) ts
unfolding counts_from
passed_token t ts h = record { same_counts = rw (ne_eqb t 42 h); still_ended = λ e. e.1 }

pub passed_one : (ts : List ℕ) → (ahead ts 0 ≡ procedure_word → ⊥) → Passed ts (drop 1 ts)
passed_one [] h = passed_none []
passed_one (t ∷ ts) h = passed_token t ts h

pub passed_two : (ts : List ℕ) → (ahead ts 0 ≡ procedure_word → ⊥) → (ahead ts 1 ≡ procedure_word → ⊥) → Passed ts (drop 2 ts)
passed_two [] h k = passed_none []
passed_two (t ∷ ts) h k = passed_both (t ∷ ts) ts (drop 1 ts) (passed_token t ts h) (passed_one ts k)

pub passed_three : (ts : List ℕ) → (ahead ts 0 ≡ procedure_word → ⊥) → (ahead ts 1 ≡ procedure_word → ⊥) → (ahead ts 2 ≡ procedure_word → ⊥)
    → Passed ts (drop 3 ts)
passed_three [] h k l = passed_none []
passed_three (t ∷ ts) h k l = passed_both (t ∷ ts) ts (drop 2 ts) (passed_token t ts h) (passed_two ts k l)
