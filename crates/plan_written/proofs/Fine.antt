-- The terms of trees that are right and in place pass checks 4 and 5. Assumes nothing.
use Prim.Native.Nat.{ℕ, zero, suc, ◌+◌, ◌*◌, ◌^◌, ◌≤◌, ◌<◌}
use native.Mathlib.Decide.{dec_lt, ℕ_discrete}
use native.Mathlib.Omega.{arith}
use mathlib.Core.Path.{◌≡◌, refl, sym, ap, subst, ◌∙◌}
use mathlib.Core.Bool.{Bool, true, false, cond, ◌&&◌, ◌||◌, not, true≢false}
use mathlib.Core.List.{List}
use lib.Dec.{eqb, ltb, leb}
use borrow.Author.Tests.{le-ltb, lt-leb, leb-false, eq-eqb, ne_eqb}
use Rattle.plan_packed.specs.Format.{procedures, terms, parameters, Operand, absent, slot, binder, mask, field_name, procedure, expression, condition, list}
use Rattle.plan_packed.specs.Format.{table}
use Rattle.plan_packed.specs.Format.{layout, laid_out, Term, term_at, tag_at}
use Rattle.plan_packed.specs.Refusals.{wrong_operand, some_operand, breaks_table, wrong_term, misplaced, is_child, list_length, wrong_call}
use Rattle.plan_packed.proofs.Children.{term_of}
use Rattle.plan_written.specs.Terms.{TermTree, term, Part, value, child, size, size_of, value_at}
use Rattle.plan_written.proofs.Heads.{Heads, Holds, length_of, length_in, list_length_lem}
use Rattle.plan_written.proofs.RightTrees.{RightTree, RightPart, head_tag, call_value, call_child}
use Rattle.plan_written.proofs.Placed.{Placed, PlacedPart}

-- ---- operands by their kinds

-- a child after its parent and below the count
child_operand : (kind : Operand) (count n t v : ℕ) → is_child kind ≡ true → t < v → v < n → wrong_operand count n t kind v ≡ false
child_operand absent count n t v h f g = refl
child_operand slot count n t v h f g = absurd (true≢false (sym h))
child_operand binder count n t v h f g = absurd (true≢false (sym h))
child_operand mask count n t v h f g = absurd (true≢false (sym h))
child_operand field_name count n t v h f g = absurd (true≢false (sym h))
child_operand procedure count n t v h f g = absurd (true≢false (sym h))
child_operand expression count n t v h f g = rw (lt-leb v t f, lt-leb n v g)
child_operand condition count n t v h f g = rw (lt-leb v t f, lt-leb n v g)
child_operand list count n t v h f g = rw (lt-leb v t f, lt-leb n v g)

-- no sort is asked of what is no child
plain_sort : (kind : Operand) (k : ℕ) → is_child kind ≡ false → misplaced kind k ≡ false
plain_sort absent k h = refl
plain_sort slot k h = refl
plain_sort binder k h = refl
plain_sort mask k h = refl
plain_sort field_name k h = refl
plain_sort procedure k h = refl
plain_sort expression k h = absurd (true≢false h)
plain_sort condition k h = absurd (true≢false h)
plain_sort list k h = absurd (true≢false h)

-- a term that passes check 4
passes_table : (count n t k x y z : ℕ) → k ≤ 20 → wrong_operand count n t (layout k).first x ≡ false → wrong_operand count n t (layout k).second y ≡ false
    → wrong_operand count n t (layout k).third z ≡ false
    → breaks_table count n t (term_of k x y z 0) ≡ false
unfolding breaks_table some_operand
passes_table count n t k x y z s f g h = rw (le-ltb 20 k s, f, g, h)

-- a call's procedure is one of the plan's
call_known : (k m : ℕ) → k ≡ 8 → (count : ℕ) → wrong_operand count 0 0 (layout k).first m ≡ false → leb count m ≡ false
unfolding layout table
call_known k m d count h = rw d at h

-- ---- the terms of a plan

module _ (b : List ℕ) where
  tag_is : (t k : ℕ) (m : Term) → term_at b t ≡ m → m.tag ≡ k → tag_at b t ≡ k
  unfolding term_at laid_out
  tag_is t k m e f = ap (λ (x : Term). x.tag) e ∙ f

  -- the head of a tree in place has its tag
  placed_tag : (e : TermTree) (n : ℕ) → Placed b n e → tag_at b n ≡ head_tag e
  placed_tag (term k p q r) n h = tag_is n k _ h.0 refl

  passes_four : (t : ℕ) → breaks_table (procedures b) (terms b) t (term_at b t) ≡ false → wrong_term b t ≡ false
  unfolding wrong_term
  passes_four t h = h

  passes_call : (t : ℕ) → (tag_at b t ≡ 8 → list_length b (terms b) (term_at b t).value₂ ≡ parameters b (term_at b t).value₁) → wrong_call b t ≡ false
  unfolding wrong_call
  passes_call t h = go (ℕ_discrete (tag_at b t) 8)
    where
      go : Dec (tag_at b t ≡ 8) → (eqb (tag_at b t) 8 && not (eqb (list_length b (terms b) (term_at b t).value₂) (parameters b (term_at b t).value₁))) ≡ false
      go (yes e) = rw (eq-eqb (tag_at b t) 8 e, eq-eqb _ _ (h e))
      go (no d) = rw (ne_eqb (tag_at b t) 8 d)

  -- what passes checks 4 and 5 of term t, but for its own place
  pub record Fine (t : ℕ) : Type 0 where
    pub in_table : wrong_term b t ≡ false
    pub first_sorted : misplaced (term_at b t).first (tag_at b (term_at b t).value₁) ≡ false
    pub second_sorted : misplaced (term_at b t).second (tag_at b (term_at b t).value₂) ≡ false
    pub third_sorted : misplaced (term_at b t).third (tag_at b (term_at b t).value₃) ≡ false
    pub call_counts : wrong_call b t ≡ false

  module _ (counts : ℕ → ℕ) (agree : (m : ℕ) → m < procedures b → parameters b m ≡ counts m) where
    -- a tree in place is headed by its first term
    mutual
      unfolding value_at size

      pub heads_placed : (e : TermTree) (n : ℕ) → RightTree (procedures b) counts e → n + size e ≤ terms b → Placed b n e → Heads b n e
      heads_placed (term k p q r) n h f g = (
        omega arith,
        tag_is n k _ g.0 refl,
        holds_placed p n (suc n) _ _ h.1 (omega arith) (omega arith) g.1 (ap (λ (m : Term). m.value₁) g.0),
        holds_placed q n (suc n + size_of p) _ _ h.2 (omega arith) (omega arith) g.2 (ap (λ (m : Term). m.value₂) g.0),
        holds_placed r n (suc n + size_of p + size_of q) _ _ h.3 (omega arith) (omega arith) g.3 (ap (λ (m : Term). m.value₃) g.0),
      )

      holds_placed : (p : Part) (n m : ℕ) (kind : Operand) (v : ℕ) → RightPart (procedures b) counts kind p → n < m → m + size_of p ≤ terms b
          → PlacedPart b m p → v ≡ value_at m p → Holds b n kind v p
      holds_placed (value x) n m kind v h o f g e = (h.0, e)
      holds_placed (child t) n m kind v h o f g e = rw e (h.0, o, heads_placed t m h.2 f g)

    -- an operand of a tree in place
    operand_right : (p : Part) (n m : ℕ) (kind : Operand) → RightPart (procedures b) counts kind p → n < m → m + size_of p ≤ terms b
        → wrong_operand (procedures b) (terms b) n kind (value_at m p) ≡ false
    unfolding value_at size
    operand_right (value x) n m kind h o f = h.2 (terms b) n
    operand_right (child (term k p q r)) n m kind h o f = child_operand kind (procedures b) (terms b) n m h.0 o (omega arith)

    operand_sorted : (p : Part) (m : ℕ) (kind : Operand) → RightPart (procedures b) counts kind p → PlacedPart b m p
        → misplaced kind (tag_at b (value_at m p)) ≡ false
    unfolding value_at
    operand_sorted (value x) m kind h g = plain_sort kind (tag_at b x) h.0
    operand_sorted (child e) m kind h g = ap (misplaced kind) (placed_tag e m g) ∙ h.1

    -- a call whose list is as long as the parameters
    counted : (p q r : Part) (k n : ℕ) → RightTree (procedures b) counts (term k p q r) → Heads b n (term k p q r) → k ≡ 8
        → list_length b (terms b) (term_at b n).value₂ ≡ parameters b (term_at b n).value₁
    unfolding length_of value_at
    counted (value m) (child e) r k n h g d =
        list_length_lem b e (term_at b n).value₂ (terms b) g.3.2 (omega arith)
        ∙ h.4 d
        ∙ sym (agree m (leb-false (procedures b) m (call_known k m d (procedures b) (h.1.2 0 0))))
        ∙ ap (parameters b) (sym g.2.1)
    counted (child e) q r k n h g d = absurd (true≢false (sym h.1.0 ∙ call_value k d))
    counted (value m) (value v) r k n h g d = absurd (true≢false (sym (call_child k d) ∙ h.2.0))

    call_fine : (e : TermTree) (n : ℕ) → RightTree (procedures b) counts e → Heads b n e → wrong_call b n ≡ false
    call_fine (term k p q r) n h g = passes_call n (λ e. counted p q r k n h g (sym g.1 ∙ e))

    root_fine : (e : TermTree) (n : ℕ) → RightTree (procedures b) counts e → n + size e ≤ terms b → Placed b n e → Fine n
    unfolding size
    root_fine (term k p q r) n h f g =
        record {
          in_table = passes_four n
              (ap (breaks_table (procedures b) (terms b) n) g.0
              ∙ passes_table (procedures b) (terms b) n k _ _ _ h.0 (operand_right p n (suc n) _ h.1 (omega arith) (omega arith))
              (operand_right q n (suc n + size_of p) _ h.2 (omega arith) (omega arith))
              (operand_right r n (suc n + size_of p + size_of q) _ h.3 (omega arith) (omega arith)));
          first_sorted = rw g.0 (operand_sorted p _ _ h.1 g.1);
          second_sorted = rw g.0 (operand_sorted q _ _ h.2 g.2);
          third_sorted = rw g.0 (operand_sorted r _ _ h.3 g.3);
          call_counts = call_fine (term k p q r) n h (heads_placed (term k p q r) n h f g);
        }

    -- every term of a tree in place
    mutual
      unfolding size

      pub all_fine : (e : TermTree) (n : ℕ) → RightTree (procedures b) counts e → n + size e ≤ terms b → Placed b n e → (u : ℕ) → n ≤ u → u < n + size e
          → Fine u
      all_fine (term k p q r) n h f g u a z =
          split (root_fine (term k p q r) n h f g) (λ x y. part_fine p (suc n) _ h.1 (omega arith) g.1 u x y)
          (λ x y. part_fine q (suc n + size_of p) _ h.2 (omega arith) g.2 u x y)
          (λ x y. part_fine r (suc n + size_of p + size_of q) _ h.3 (omega arith) g.3 u x y)
          (ℕ_discrete n u) (dec_lt u (suc n + size_of p)) (dec_lt u (suc n + size_of p + size_of q))
        where
          split : Fine n → (suc n ≤ u → u < suc n + size_of p → Fine u) → (suc n + size_of p ≤ u → u < suc n + size_of p + size_of q → Fine u)
              → (suc n + size_of p + size_of q ≤ u → u < suc n + size_of p + size_of q + size_of r → Fine u)
              → Dec (n ≡ u) → Dec (u < suc n + size_of p) → Dec (u < suc n + size_of p + size_of q) → Fine u
          split here first second third (yes e) y x = subst Fine e here
          split here first second third (no e) (yes y) x = first (omega (arith, e)) y
          split here first second third (no e) (no y) (yes x) = second (omega (arith, y)) x
          split here first second third (no e) (no y) (no x) = third (omega (arith, x)) (omega arith)

      part_fine : (p : Part) (m : ℕ) (kind : Operand) → RightPart (procedures b) counts kind p → m + size_of p ≤ terms b → PlacedPart b m p → (u : ℕ) → m ≤ u
          → u < m + size_of p → Fine u
      part_fine (value v) m kind h f g u a z = absurd (omega arith)
      part_fine (child e) m kind h f g u a z = all_fine e m h.2 f g u a z
