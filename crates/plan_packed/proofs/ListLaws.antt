-- Check 5, calls: a list is counted no further than nine, and what a call names. Assumes nothing.
use mathlib.Core.Path.{◌≡◌, refl, ap, sym, ◌∙◌}
use mathlib.Core.Logic.{◌⊎◌, inl, inr, ⊎_elim}
use mathlib.Core.Bool.{not}
use mathlib.Core.List.{List}
use Prim.Native.Nat.{ℕ, zero, suc, ◌+◌, ◌-◌, ◌≤◌, ◌<◌}
use native.Mathlib.Nat.{suc-add}
use native.Mathlib.Decide.{dec_lt, ℕ_discrete}
use native.Mathlib.Omega.{arith}
use lib.Dec.{eqb}
use borrow.Author.Tests.{eq-eqb, ne_eqb, leb-false}
use Rattle.plan_packed.specs.Format
use Rattle.plan_packed.specs.Format.{terms, parameters, Operand, table, layout, term_at, tag_at}
use Rattle.plan_packed.specs.Inner.Operands.{tag_of, second_of, procedure_bits, list_bits}
use Rattle.plan_packed.specs.Refusals.{wrong_operand, is_child, wrong_call, list_length}
use Rattle.plan_packed.specs.Inner.Steps.{Right, word_at}
use Rattle.plan_packed.proofs.Reading.{tag_in_lem, tag_was, first_was, second_was}
use Rattle.plan_packed.proofs.Shown.{parameters_small}
use Rattle.plan_packed.proofs.SingleTerm.{passes, second_between, first_is, second_is}

-- ---- lists

list_none : (b : List ℕ) (t : ℕ) → list_length b zero t ≡ 0
unfolding list_length
list_none b t = refl

pub list_stop : (b : List ℕ) (k t : ℕ) → (tag_at b t ≡ 16 → ⊥) → list_length b k t ≡ 0
unfolding list_length
list_stop b zero t h = refl
list_stop b (suc k) t h = rw (ne_eqb (tag_at b t) 16 h)

pub list_step : (b : List ℕ) (k t : ℕ) → tag_at b t ≡ 16 → list_length b (suc k) t ≡ suc (list_length b k (term_at b t).value₂)
unfolding list_length
list_step b k t h = rw (eq-eqb (tag_at b t) 16 h)

-- f of a list's terms are all of them, or f
counted : (b : List ℕ) (f g t : ℕ) → (list_length b f t ≡ list_length b (f + g) t) ⊎ ((list_length b f t ≡ f) × (f ≤ list_length b (f + g) t))
counted b zero g t = inr (list_none b t, omega arith)
counted b (suc f) g t = rw suc-add (go (counted b f g (term_at b t).value₂) (ℕ_discrete (tag_at b t) 16))
  where
    go : (list_length b f (term_at b t).value₂ ≡ list_length b (f + g) (term_at b t).value₂) ⊎
        ((list_length b f (term_at b t).value₂ ≡ f) × (f ≤ list_length b (f + g) (term_at b t).value₂))
        → Dec (tag_at b t ≡ 16)
        → (list_length b (suc f) t ≡ list_length b (suc (f + g)) t) ⊎ ((list_length b (suc f) t ≡ suc f) × (suc f ≤ list_length b (suc (f + g)) t))
    go i (yes e) =
        rw (list_step b f t e, list_step b (f + g) t e)
        (⊎_elim (λ q. inl (ap suc q)) (λ q. inr (ap suc q.0, omega (arith, q.1))) i)
    go i (no n) = inl (list_stop b (suc f) t n ∙ sym (list_stop b (suc (f + g)) t n))

module _ (b : List ℕ) (procedures n : ℕ) (r : Right b procedures n) where
  -- the rest of a list begins further on
  pub rest_between : (t : ℕ) → t < n → tag_at b t ≡ 16 → (t < (term_at b t).value₂) × ((term_at b t).value₂ < n)
  unfolding layout table
  rest_between t h e = second_between b procedures n t r.headed.sized (r.terms_right t h) (ap is_child (second_is b t 16 e))

  -- a list has no more terms than there are from its first on
  within : (f g t : ℕ) → t < n → n ≤ t + f → list_length b f t ≡ list_length b (f + g) t
  within zero g t h q = absurd (omega arith)
  within (suc f) g t h q = rw suc-add (go (within f g (term_at b t).value₂) (ℕ_discrete (tag_at b t) 16))
    where
      go : ((term_at b t).value₂ < n → n ≤ (term_at b t).value₂ + f → list_length b f (term_at b t).value₂ ≡ list_length b (f + g) (term_at b t).value₂)
          → Dec (tag_at b t ≡ 16) → list_length b (suc f) t ≡ list_length b (suc (f + g)) t
      go i (yes e) =
          let y = rest_between t h e in
          rw (list_step b f t e, list_step b (f + g) t e) (ap suc (i y.1 (omega (arith, y.0))))
      go i (no x) = list_stop b (suc f) t x ∙ sym (list_stop b (suc (f + g)) t x)

  same_test : (x y k : ℕ) → k ≤ 8 → (x ≡ y) ⊎ ((x ≡ 9) × (9 ≤ y)) → eqb x k ≡ eqb y k
  same_test x y k h (inl e) = ap (λ (n : ℕ). eqb n k) e
  same_test x y k h (inr e) = ne_eqb x k (λ q. omega (arith, e.0, e.1, q)) ∙ sym (ne_eqb y k (λ q. omega (arith, e.0, e.1, q)))

  -- against at most eight parameters, nine of a list's terms are enough
  pub nine : (t k : ℕ) → t < n → k ≤ 8 → eqb (list_length b 9 t) k ≡ eqb (list_length b (terms b) t) k
  nine t k h q = rw (← r.headed.sized.terms_are) (go (dec_lt n 9))
    where
      go : Dec (n < 9) → eqb (list_length b 9 t) k ≡ eqb (list_length b n t) k
      go (yes p) =
          let e : n + (9 - n) ≡ 9 = omega arith in
          ap (λ (x : ℕ). eqb x k) (sym (within n (9 - n) t h (omega arith) ∙ ap (λ (m : ℕ). list_length b m t) e))
      go (no p) =
          let e : 9 + (n - 9) ≡ n = omega (arith, p) in
          same_test (list_length b 9 t) (list_length b n t) k q (rw e at (counted b 9 (n - 9) t))

-- ---- what a call names

call_is : (b : List ℕ) (t : ℕ) → tag_at b t ≡ 8 → wrong_call b t ≡ not (eqb (list_length b (terms b) (term_at b t).value₂) (parameters b (term_at b t).value₁))
unfolding wrong_call
call_is b t h = rw (eq-eqb (tag_at b t) 8 h)

module _ (b : List ℕ) (procedures n t : ℕ) (r : Right b procedures n) (h : t < n) (w : ℕ) (e : w ≡ word_at b t) (k : tag_at b t ≡ 8) where
  key : tag_of w ≡ 8
  key = ap tag_of e ∙ sym (tag_in_lem b t) ∙ k

  list_at : list_bits w ≡ (term_at b t).value₂
  unfolding layout table
  list_at = second_was b t w e 8 key

  pub list_below : list_bits w < n
  unfolding layout table
  list_below = rw list_at (second_between b procedures n t r.headed.sized (r.terms_right t h) (ap is_child (second_is b t 8 k))).1

  callee_at : procedure_bits w ≡ (term_at b t).value₁
  unfolding layout table
  callee_at = first_was b t w e 8 key

  pub callee_below : procedure_bits w < procedures
  unfolding layout table
  callee_below =
      let f = (passes b t (r.terms_right t h)).first_right in
      rw (callee_at, r.headed.sized.procedures_are)
      (leb-false (Format.procedures b) (term_at b t).value₁
      (sym (ap (λ (o : Operand). wrong_operand (Format.procedures b) (terms b) t o (term_at b t).value₁) (first_is b t 8 k)) ∙ f))

  -- counted to nine, against the parameters
  pub called : (l p : ℕ) → l ≡ list_length b 9 (list_bits w) → p ≡ parameters b (procedure_bits w) → not (eqb l p) ≡ wrong_call b t
  called l p el ep =
      let v = list_bits w in
      let m = procedure_bits w in
      let q : parameters b m ≤ 8 = parameters_small b procedures n m r.headed callee_below in
      let x : eqb l p ≡ eqb (list_length b (terms b) v) (parameters b m) = rw (el, ep) (nine b procedures n r v (parameters b m) list_below q) in
      let y : eqb (list_length b (terms b) v) (parameters b m) ≡ eqb (list_length b (terms b) (term_at b t).value₂) (parameters b (term_at b t).value₁) =
      rw (list_at, callee_at) in
      ap not (x ∙ y) ∙ sym (call_is b t k)

-- the next term of a list, of its 40 bits
module _ (b : List ℕ) (t w : ℕ) (e : w ≡ word_at b t) where
  pub next_is : tag_of w ≡ 16 → (tag_at b t ≡ 16) × (second_of w ≡ (term_at b t).value₂)
  unfolding layout table
  next_is k = (tag_was b t w e 16 k, second_was b t w e 16 k)

  pub no_next : (tag_of w ≡ 16 → ⊥) → tag_at b t ≡ 16 → ⊥
  no_next h q = h (ap tag_of e ∙ sym (tag_in_lem b t) ∙ q)
