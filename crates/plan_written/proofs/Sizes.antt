-- The trees of an accepted plan have as many terms as the plan: every term is named exactly once, so that the sizes of all terms' trees are those of the
-- roots and those of all children, and a tree has one term more than its children's. Assumes nothing.
use Prim.Native.Nat.{ℕ, zero, suc, ◌+◌, ◌*◌, ◌≤◌, ◌<◌}
use native.Mathlib.Nat.{mul-one, mul-add}
use native.Mathlib.Decide.{dec_lt}
use native.Mathlib.Omega.{arith}
use mathlib.Core.Path.{◌≡◌, refl, sym, ap, ◌∙◌}
use mathlib.Core.Bool.{Bool, true, false, cond, ◌&&◌}
use mathlib.Core.List.{List}
use mathlib.Core.Logic.{inl, inr}
use lib.Dec.{eqb}
use Rattle.plan_packed.specs.Format.{procedures, terms, root, Operand, expression, condition, list, layout, laid_out, Term, term_at, tag_at}
use Rattle.plan_packed.specs.Trees.{tree_at, procedure_at, procedures_from, program_of}
use Rattle.plan_packed.specs.Refusals.{sum_below, one_if, is_child, times_in, times_named}
use Rattle.plan_packed.proofs.Accepted.{OfSort, Readable}
use Rattle.plan_packed.proofs.Passing.{SixRight}
use Rattle.plan_packed.proofs.SingleTerm.{children_between, first_is, second_is}
use Rattle.plan_written.specs.Terms.{TermTree, term, Part, value, child, terms_of, size, size_of}
use Rattle.plan_written.specs.Written.{size_of_all}
use Rattle.plan_written.proofs.Heads.{Heads, Holds}
use Rattle.plan_written.proofs.Original.{any_heads, root_heads}
use Rattle.plan_written.proofs.Sums.{sum_cong, sum_none, sum_more, sum_one, sum_add, sum_mul, sum_swap, sum_at}

-- the weight of what a term's operands name
abbrev below : (ℕ → ℕ) → Term → ℕ
below s m = cond (is_child m.first) (s m.value₁) 0 + cond (is_child m.second) (s m.value₂) 0 + cond (is_child m.third) (s m.value₃) 0

mul_three : (x y z w : ℕ) → x * (y + z + w) ≡ x * y + x * z + x * w
mul_three x y z w = omega (arith, mul-add x (y + z) w, mul-add x y z)

third_is : (b : List ℕ) (t k : ℕ) → tag_at b t ≡ k → (term_at b t).third ≡ (layout k).third
unfolding term_at laid_out
third_is b t k e = ap (λ (x : ℕ). (layout x).third) e

module _ (b : List ℕ) where
  -- how many terms the tree at term t has, looked at n deep
  size_at : ℕ → ℕ → ℕ
  size_at zero t = 0
  size_at (suc n) t = suc (below (size_at n) (term_at b t))

  -- by the tag's row
  below_by : (s : ℕ → ℕ) (t k x y z : ℕ) → tag_at b t ≡ k
      → cond (is_child (layout k).first) (s (term_at b t).value₁) 0 ≡ x
      → cond (is_child (layout k).second) (s (term_at b t).value₂) 0 ≡ y
      → cond (is_child (layout k).third) (s (term_at b t).value₃) 0 ≡ z
      → below s (term_at b t) ≡ x + y + z
  below_by s t k x y z e f g h = rw (first_is b t k e, second_is b t k e, third_is b t k e) (omega (arith, f, g, h))

  mutual
    unfolding size_at size

    tree_size : (e : TermTree) (t n : ℕ) → Heads b t e → terms b ≤ t + n → size_at n t ≡ size e
    tree_size (term k p q r) t zero h f = let s = h.0 in absurd (omega arith)
    tree_size (term k p q r) t (suc n) h f =
        ap suc (below_by (size_at n) t k _ _ _ h.1 (part_size p t n _ _ h.2 f) (part_size q t n _ _ h.3 f) (part_size r t n _ _ h.4 f))

    part_size : (p : Part) (t n : ℕ) (kind : Operand) (v : ℕ) → Holds b t kind v p → terms b ≤ t + suc n → cond (is_child kind) (size_at n v) 0 ≡ size_of p
    part_size (value x) t n kind v h f = rw h.0
    part_size (child e) t n kind v h f = let a = h.1 in rw h.0 (tree_size e v n h.2 (omega arith))

  -- a tree has one term more than its children's
  one_more_lem : (n t : ℕ) (e : TermTree) → Heads b t e → terms b ≤ t + n → size_at n t ≡ suc (below (size_at n) (term_at b t))
  unfolding size
  one_more_lem n t (term k p q r) h f =
      tree_size (term k p q r) t n h f
      ∙ sym (ap suc (below_by (size_at n) t k _ _ _ h.1 (part_size p t n _ _ h.2 (omega arith)) (part_size q t n _ _ h.3 (omega arith))
      (part_size r t n _ _ h.4 (omega arith))))

  pub times_are : (t : ℕ) → times_named b t ≡ sum_below (procedures b) (λ p. one_if (eqb (root b p) t)) + sum_below (terms b) (λ u. times_in (term_at b u) t)
  unfolding times_named
  times_are t = refl

  times_in_lem : (m : Term) (t : ℕ) → times_in m t ≡ one_if (is_child m.first && eqb m.value₁ t) + one_if (is_child m.second && eqb m.value₂ t) + one_if
      (is_child m.third && eqb m.value₃ t)
  unfolding times_in
  times_in_lem m t = refl

  -- the procedures from procedure p on
  size_none : (p : ℕ) → size_of_all (procedures_from b p 0) ≡ 0
  unfolding size_of_all procedures_from
  size_none p = refl

  size_more : (p n : ℕ) → size_of_all (procedures_from b p (suc n)) ≡ size (terms_of (tree_at b (root b p))) + size_of_all (procedures_from b (suc p) n)
  unfolding size_of_all procedures_from
  size_more p n = refl

  pub program_procedures : (program_of b).procedures ≡ procedures_from b 0 (procedures b)
  unfolding program_of
  program_procedures = refl

module _ (b : List ℕ) (six : SixRight b) (a : Readable b) where
  -- every term's
  abbrev s : ℕ → ℕ
  s t = size_at b (terms b) t

  each_more : (t : ℕ) → t < terms b → s t ≡ suc (below s (term_at b t))
  each_more t h = let e = any_heads b a t h in one_more_lem b (terms b) t e.0 e.1 (omega arith)

  -- each is named once
  once : sum_below (terms b) s ≡ sum_below (terms b) (λ t. s t * times_named b t)
  once = sum_cong (terms b) s _ (λ t h. sym (mul-one (s t)) ∙ ap (λ (n : ℕ). s t * n) (sym (a.each_term t h).named_once))

  by_roots : sum_below (terms b) (λ t. s t * sum_below (procedures b) (λ p. one_if (eqb (root b p) t))) ≡ sum_below (procedures b) (λ p. s (root b p))
  by_roots =
      sum_cong (terms b) _ (λ t. sum_below (procedures b) (λ p. s t * one_if (eqb (root b p) t)))
      (λ t h. sum_mul (procedures b) (s t) (λ p. one_if (eqb (root b p) t)))
      ∙ sum_swap (terms b) (procedures b) (λ t p. s t * one_if (eqb (root b p) t))
      ∙ sum_cong (procedures b) _ (λ p. s (root b p)) (λ p h. sum_at (root b p) s (terms b) true (λ e. (a.each_root p h).0))

  in_operand : (v : ℕ) (x : Bool) → (x ≡ true → v < terms b) → sum_below (terms b) (λ t. s t * one_if (x && eqb v t)) ≡ cond x (s v) 0
  in_operand v x h = sum_at v s (terms b) x h

  in_term : (u : ℕ) → u < terms b → sum_below (terms b) (λ t. s t * times_in (term_at b u) t) ≡ below s (term_at b u)
  in_term u h =
      let m = term_at b u in
      let f : ℕ → ℕ = λ t. s t * one_if (is_child m.first && eqb m.value₁ t) in
      let g : ℕ → ℕ = λ t. s t * one_if (is_child m.second && eqb m.value₂ t) in
      let k : ℕ → ℕ = λ t. s t * one_if (is_child m.third && eqb m.value₃ t) in
      let c = children_between b u (six.right₄ u h) in
      let e₁ = in_operand m.value₁ (is_child m.first) (λ d. (c.0 (ap is_child (sym (first_is b u _ refl)) ∙ d)).1) in
      let e₂ = in_operand m.value₂ (is_child m.second) (λ d. (c.1 (ap is_child (sym (second_is b u _ refl)) ∙ d)).1) in
      let e₃ = in_operand m.value₃ (is_child m.third) (λ d. (c.2 (ap is_child (sym (third_is b u _ refl)) ∙ d)).1) in
      sum_cong (terms b) _ (λ t. f t + g t + k t) (λ t q. ap (λ (n : ℕ). s t * n) (times_in_lem b m t) ∙ mul_three (s t) _ _ _)
      ∙ omega (arith, sum_add (terms b) (λ t. f t + g t) k, sum_add (terms b) f g)

  by_terms : sum_below (terms b) (λ t. s t * sum_below (terms b) (λ u. times_in (term_at b u) t)) ≡ sum_below (terms b) (λ u. below s (term_at b u))
  by_terms =
      sum_cong (terms b) _ (λ t. sum_below (terms b) (λ u. s t * times_in (term_at b u) t)) (λ t h. sum_mul (terms b) (s t) (λ u. times_in (term_at b u) t))
      ∙ sum_swap (terms b) (terms b) (λ t u. s t * times_in (term_at b u) t)
      ∙ sum_cong (terms b) _ (λ u. below s (term_at b u)) in_term

  roots_size : sum_below (procedures b) (λ p. s (root b p)) ≡ terms b
  roots_size =
      let named : ℕ → ℕ = λ t. s t * sum_below (procedures b) (λ p. one_if (eqb (root b p) t)) in
      let within : ℕ → ℕ = λ t. s t * sum_below (terms b) (λ u. times_in (term_at b u) t) in
      let under : ℕ → ℕ = λ t. below s (term_at b t) in
      let all : sum_below (terms b) s ≡ sum_below (terms b) named + sum_below (terms b) within =
      once ∙ sum_cong (terms b) _ (λ t. named t + within t) (λ t h. ap (λ (n : ℕ). s t * n) (times_are b t) ∙ mul-add (s t) _ _)
      ∙ sum_add (terms b) named within in
      let more : sum_below (terms b) s ≡ sum_below (terms b) (λ t. 1) + sum_below (terms b) under =
      sum_cong (terms b) s (λ t. 1 + under t) (λ t h. each_more t h ∙ omega arith) ∙ sum_add (terms b) (λ t. 1) under in
      omega (arith, by_roots, by_terms, sum_one (terms b))

  -- the procedures' trees, one by one
  from_roots : (p n : ℕ) → p + n ≤ procedures b → sum_below p (λ i. s (root b i)) + size_of_all (procedures_from b p n) ≡ sum_below (p + n) (λ i. s (root b i))
  from_roots p zero h = let e : p + 0 ≡ p = omega arith in rw (e, size_none b p) (omega arith)
  from_roots p (suc n) h =
      let e : p + suc n ≡ suc p + n = omega arith in
      let here : s (root b p) ≡ size (terms_of (tree_at b (root b p))) =
      tree_size b (terms_of (tree_at b (root b p))) (root b p) (terms b) (root_heads b a p (omega arith)) (omega arith) in
      rw e (omega (arith, from_roots (suc p) n (omega arith), size_more b p n, sum_more p (λ i. s (root b i))))

  pub all_terms : size_of_all (program_of b).procedures ≡ terms b
  all_terms =
      let e : 0 + procedures b ≡ procedures b = omega arith in
      let f = rw e at (from_roots 0 (procedures b) (omega arith)) in
      ap size_of_all (program_procedures b) ∙ omega (arith, sum_none (λ i. s (root b i)), roots_size)
