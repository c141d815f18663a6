-- The terms of a plan as trees of terms: what a term heads, whatever its sort. Assumes nothing.
use Prim.Native.Nat.{ℕ, zero, suc, ◌+◌, ◌≤◌, ◌<◌}
use native.Mathlib.Decide.{ℕ_discrete}
use native.Mathlib.Omega.{arith}
use mathlib.Core.Path.{◌≡◌, sym, ap, ◌∙◌}
use mathlib.Core.Bool.{true, false, cond, true≢false}
use mathlib.Core.List.{List}
use lib.Dec.{eqb}
use borrow.Author.Tests.{eq-eqb, ne_eqb}
use Rattle.plan_packed.specs.Format.{terms, Operand, table, layout, term_at, tag_at}
use Rattle.plan_packed.specs.Refusals.{is_child, list_length}
use Rattle.plan_packed.proofs.ListLaws.{list_step, list_stop}
use Rattle.plan_written.specs.Terms.{TermTree, term, Part, value, child}

-- term t of a plan heads this tree of terms, in which children come after their parents
abbrev mutual
  pub Heads : List ℕ → ℕ → TermTree → Type 0
  Heads b t (term k p q r) =
      (t < terms b) × (tag_at b t ≡ k) × Holds b t (layout k).first (term_at b t).value₁ p × Holds b t (layout k).second (term_at b t).value₂ q × Holds b t
      (layout k).third (term_at b t).value₃ r

  -- value v at an operand of term t
  pub Holds : List ℕ → ℕ → Operand → ℕ → Part → Type 0
  Holds b t kind v (value x) = (is_child kind ≡ false) × (v ≡ x)
  Holds b t kind v (child e) = (is_child kind ≡ true) × (t < v) × Heads b v e

-- ---- lists

-- a list's rest is a child
list_child : (k : ℕ) → k ≡ 16 → true ≡ is_child (layout k).second
unfolding layout table
list_child k d = rw d

-- how long a list is: "counted in terms of tag 16, up to the first other tag"
unfoldable mutual
  pub length_of : TermTree → ℕ
  length_of (term k p q r) = cond (eqb k 16) (suc (length_in q)) 0

  pub length_in : Part → ℕ
  length_in (value v) = 0
  length_in (child e) = length_of e

module _ (b : List ℕ) where
  mutual
    unfolding length_of

    pub list_length_lem : (e : TermTree) (t n : ℕ) → Heads b t e → terms b ≤ t + n → list_length b n t ≡ length_of e
    list_length_lem (term k p q r) t zero h f = let s = h.0 in absurd (omega arith)
    list_length_lem (term k p q r) t (suc n) h f = go (ℕ_discrete k 16) (λ d. list_part q t n k h.3 f d)
      where
        go : Dec (k ≡ 16) → (k ≡ 16 → list_length b n (term_at b t).value₂ ≡ length_in q) → list_length b (suc n) t ≡ cond (eqb k 16) (suc (length_in q)) 0
        go (no d) g = rw (ne_eqb k 16 d) (list_stop b (suc n) t (λ z. d (sym h.1 ∙ z)))
        go (yes d) g = rw (eq-eqb k 16 d) (list_step b n t (h.1 ∙ d) ∙ ap suc (g d))

    list_part : (q : Part) (t n k : ℕ) → Holds b t (layout k).second (term_at b t).value₂ q → terms b ≤ t + suc n → k ≡ 16
        → list_length b n (term_at b t).value₂ ≡ length_in q
    list_part (value v) t n k h f d = absurd (true≢false (list_child k d ∙ h.0))
    list_part (child e) t n k h f d = let a = h.1 in list_length_lem e _ n h.2 (omega arith)
