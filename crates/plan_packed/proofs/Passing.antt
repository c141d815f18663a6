-- What each check of a plan says where it finds nothing wrong, test by test. Assumes nothing.
use Prim.Native.Nat.{ℕ, zero, suc, ◌≤◌, ◌<◌}
use native.Mathlib.Decide.{ℕ_discrete}
use native.Mathlib.Omega.{arith}
use mathlib.Core.Path.{◌≡◌, refl, ap, ◌∙◌}
use mathlib.Core.Bool.{Bool, true, false, ◌&&◌, ◌||◌, not}
use mathlib.Core.List.{List, [], ◌++◌}
use mathlib.Core.Option.{some, none}
use lib.Dec.{eqb, ltb, leb, lit<}
use lib.ListN.{length, take, drop}
use borrow.Author.Tests.{ltb-false, leb-false, eqb-true, eq-eqb, not-false}
use Rattle.format.specs.Refusal.{Check, first_refusal}
use Rattle.format.proofs.RefusalLaws.{AllPass, none_left, and_then, head_pass, tail_pass, some_is_first, none_is_pass, other_number_lem, last_refuses, neither}
use Rattle.plan_packed.specs.Format
use Rattle.plan_packed.specs.Format.{version, terms, header_spare, volatiles, mask_bit, parameters, root, plan_length, Operand, expression, Term, tag_at}
use Rattle.plan_packed.specs.Format.{term_at}
use Rattle.plan_packed.specs.Refusals.{any_below, wrong_length, wrong_header, wrong_procedure, wrong_operand, some_operand, breaks_table, wrong_term, misplaced}
use Rattle.plan_packed.specs.Refusals.{list_length, wrong_call, wrongly_sorted, not_named_once, uses_unbound_slot}
use Rattle.plan_packed.specs.Check.{checks, refusal}

-- ---- 1 to 3: sizes, header, procedures

pub length_of_lem : (b : List ℕ) → wrong_length b ≡ false → length b ≡ plan_length b
unfolding wrong_length
length_of_lem b h =
    let x = eqb (length b) (plan_length b) in
    eqb-true _ _ (not-false x (neither (ltb (length b) 8) (not x) h).1)

header_tests_lem : (v p n s m : ℕ) → (ltb 1 v || ltb p 1 || ltb 32 p || ltb n 1 || ltb 1024 n || not (eqb s 0) || not (eqb m 1)) ≡ false
    → (v ≤ 1) × (1 ≤ p) × (p ≤ 32) × (1 ≤ n) × (n ≤ 1024) × (s ≡ 0) × (m ≡ 1)
header_tests_lem v p n s m h =
    let x₁ = ltb 1 v in
    let x₂ = x₁ || ltb p 1 in
    let x₃ = x₂ || ltb 32 p in
    let x₄ = x₃ || ltb n 1 in
    let x₅ = x₄ || ltb 1024 n in
    let x₆ = x₅ || not (eqb s 0) in
    let h₇ = neither x₆ (not (eqb m 1)) h in
    let h₆ = neither x₅ (not (eqb s 0)) h₇.0 in
    let h₅ = neither x₄ (ltb 1024 n) h₆.0 in
    let h₄ = neither x₃ (ltb n 1) h₅.0 in
    let h₃ = neither x₂ (ltb 32 p) h₄.0 in
    let h₂ = neither x₁ (ltb p 1) h₃.0 in (
      ltb-false 1 v h₂.0,
      ltb-false p 1 h₂.1,
      ltb-false 32 p h₃.1,
      ltb-false n 1 h₄.1,
      ltb-false 1024 n h₅.1,
      eqb-true s 0 (not-false (eqb s 0) h₆.1),
      eqb-true m 1 (not-false (eqb m 1) h₇.1),
    )

pub header_of_lem : (b : List ℕ) → wrong_header b ≡ false
    → (version b ≤ 1) × (1 ≤ Format.procedures b) × (Format.procedures b ≤ 32) × (1 ≤ terms b) × (terms b ≤ 1024) × (header_spare b ≡ 0) ×
    (mask_bit (volatiles b) 0 ≡ 1)
unfolding wrong_header
header_of_lem b h = header_tests_lem (version b) (Format.procedures b) (terms b) (header_spare b) (mask_bit (volatiles b) 0) h

pub procedure_of_lem : (b : List ℕ) (p : ℕ) → wrong_procedure b p ≡ false
    → (parameters b p ≤ 8) × ((eqb p 0 && ltb 0 (parameters b p)) ≡ false) × (root b p < terms b)
unfolding wrong_procedure
procedure_of_lem b p h =
    let k = parameters b p in
    let h₂ = neither (ltb 8 k || (eqb p 0 && ltb 0 k)) (leb (terms b) (root b p)) h in
    let h₁ = neither (ltb 8 k) (eqb p 0 && ltb 0 k) h₂.0 in
    (ltb-false 8 k h₁.0, h₁.1, leb-false (terms b) (root b p) h₂.1)

-- ---- 4: single terms

-- the tests of check 4 that term m passes as term t
pub record PassesTable (procedures n t : ℕ) (m : Term) : Type 0 where
  pub tag_small : m.tag ≤ 20
  pub first_right : wrong_operand procedures n t m.first m.value₁ ≡ false
  pub second_right : wrong_operand procedures n t m.second m.value₂ ≡ false
  pub third_right : wrong_operand procedures n t m.third m.value₃ ≡ false
  pub spare_zero : m.spare ≡ 0

-- no operand of term m passes a test
abbrev pub NoOperand : (Operand → ℕ → Bool) → Term → Type 0
NoOperand f m = (f m.first m.value₁ ≡ false) × (f m.second m.value₂ ≡ false) × (f m.third m.value₃ ≡ false)

pub of_operands_lem : (f : Operand → ℕ → Bool) (m : Term) → some_operand f m ≡ false → NoOperand f m
unfolding some_operand
of_operands_lem f m h =
    let h₂ = neither (f m.first m.value₁ || f m.second m.value₂) (f m.third m.value₃) h in
    let h₁ = neither (f m.first m.value₁) (f m.second m.value₂) h₂.0 in
    (h₁.0, h₁.1, h₂.1)

pub table_of : (procedures n t : ℕ) (m : Term) → breaks_table procedures n t m ≡ false → PassesTable procedures n t m
unfolding breaks_table
table_of procedures n t m h =
    let x = some_operand (wrong_operand procedures n t) m in
    let h₂ = neither (ltb 20 m.tag || x) (not (eqb m.spare 0)) h in
    let h₁ = neither (ltb 20 m.tag) x h₂.0 in
    let f = of_operands_lem (wrong_operand procedures n t) m h₁.1 in
    record {
      tag_small = ltb-false 20 m.tag h₁.0;
      first_right = f.0;
      second_right = f.1;
      third_right = f.2;
      spare_zero = eqb-true m.spare 0 (not-false (eqb m.spare 0) h₂.1);
    }

-- ---- 5: sorts

pub none_of : (n : ℕ) (f : ℕ → Bool) → any_below n f ≡ false → (k : ℕ) → k < n → f k ≡ false
unfolding any_below
none_of zero f h k q = absurd (omega arith)
none_of (suc n) f h k q = go (λ p. none_of n f (neither (any_below n f) (f n) h).0 k p) (ℕ_discrete k n)
  where
    go : (k < n → f k ≡ false) → Dec (k ≡ n) → f k ≡ false
    go i (yes e) = ap f e ∙ (neither (any_below n f) (f n) h).1
    go i (no e) = i (omega (arith, e))

pub at_itself : (v : ℕ) (x : Bool) → (eqb v v && x) ≡ false → x ≡ false
at_itself v x h = rw (eq-eqb v v refl) at h

-- the three tests of check 5 that term t passes
pub record Sorted (b : List ℕ) (t : ℕ) : Type 0 where
  pub as_root : (p : ℕ) → p < Format.procedures b → (eqb (root b p) t && misplaced expression (tag_at b t)) ≡ false
  pub as_child : (u : ℕ) → u < terms b → some_operand (λ kind v. eqb v t && misplaced kind (tag_at b t)) (term_at b u) ≡ false
  pub as_call : wrong_call b t ≡ false

pub sorted_of : (b : List ℕ) (t : ℕ) → wrongly_sorted b t ≡ false → Sorted b t
unfolding wrongly_sorted
sorted_of b t h =
    let x = any_below (Format.procedures b) (λ p. eqb (root b p) t && misplaced expression (tag_at b t)) in
    let y = any_below (terms b) (λ u. some_operand (λ kind v. eqb v t && misplaced kind (tag_at b t)) (term_at b u)) in
    let h₂ = neither (x || y) (wrong_call b t) h in
    let h₁ = neither x y h₂.0 in
    record { as_root = none_of _ _ h₁.0; as_child = none_of _ _ h₁.1; as_call = h₂.1 }

pub call_of_lem : (b : List ℕ) (t : ℕ) → wrong_call b t ≡ false → tag_at b t ≡ 8 → list_length b (terms b) (term_at b t).value₂ ≡ parameters b (term_at b t).value₁
unfolding wrong_call
call_of_lem b t h e =
    let x = eqb (list_length b (terms b) (term_at b t).value₂) (parameters b (term_at b t).value₁) in
    let z : not x ≡ false = rw (eq-eqb (tag_at b t) 8 e) at h in
    eqb-true _ _ (not-false x z)

-- ---- all checks

-- none of checks 1 to 6 is wrong at any place
pub record SixRight (b : List ℕ) : Type 0 where
  pub right₁ : wrong_length b ≡ false
  pub right₂ : wrong_header b ≡ false
  pub right₃ : (p : ℕ) → p < Format.procedures b → wrong_procedure b p ≡ false
  pub right₄ : (t : ℕ) → t < terms b → wrong_term b t ≡ false
  pub right₅ : (t : ℕ) → t < terms b → wrongly_sorted b t ≡ false
  pub right₆ : (t : ℕ) → t < terms b → not_named_once b t ≡ false

-- the first six checks, whatever is asked after them
six_of : (b : List ℕ) (cs : List Check) → AllPass (take 6 (checks b) ++ cs) → SixRight b
unfolding checks
six_of b cs a₁ =
    let a₂ = tail_pass a₁ in
    let a₃ = tail_pass a₂ in
    let a₄ = tail_pass a₃ in
    let a₅ = tail_pass a₄ in
    let a₆ = tail_pass a₅ in
    record {
      right₁ = (head_pass a₁).right 0 (lit< tt);
      right₂ = (head_pass a₂).right 0 (lit< tt);
      right₃ = (head_pass a₃).right;
      right₄ = (head_pass a₄).right;
      right₅ = (head_pass a₅).right;
      right₆ = (head_pass a₆).right;
    }

pub six_right : (b : List ℕ) → first_refusal (take 6 (checks b)) ≡ none → SixRight b
unfolding checks
six_right b h = six_of b [] ((none_is_pass (take 6 (checks b))).0 h)

-- no check is wrong at any place
pub record AllRight (b : List ℕ) : Type 0 where
  pub six : SixRight b
  pub right₇ : (p : ℕ) → p < Format.procedures b → uses_unbound_slot b p ≡ false

pub all_right : (b : List ℕ) → refusal b ≡ none → AllRight b
unfolding refusal checks
all_right b h =
    let a = (none_is_pass (checks b)).0 h in
    record {
      six = six_of b (drop 6 (checks b)) a;
      right₇ = (head_pass (tail_pass (tail_pass (tail_pass (tail_pass (tail_pass (tail_pass a))))))).right;
    }

-- a refusal of number 7: checks 1 to 6 find nothing, and this procedure is the lowest of those that use an unbound slot
pub seventh : (b : List ℕ) (p : ℕ) → refusal b ≡ some (record { number = 7; place = p })
    → (first_refusal (take 6 (checks b)) ≡ none) × (p < Format.procedures b) × (uses_unbound_slot b p ≡ true)
unfolding refusal checks
seventh b p h =
    let a₁ = other_number_lem ((some_is_first (checks b) (record { number = 7; place = p })).0 h) (λ e. omega arith) in
    let a₂ = other_number_lem a₁.1 (λ e. omega arith) in
    let a₃ = other_number_lem a₂.1 (λ e. omega arith) in
    let a₄ = other_number_lem a₃.1 (λ e. omega arith) in
    let a₅ = other_number_lem a₄.1 (λ e. omega arith) in
    let a₆ = other_number_lem a₅.1 (λ e. omega arith) in
    let r = last_refuses a₆.1 in (
      (none_is_pass (take 6 (checks b))).1
          (and_then a₁.0 (and_then a₂.0 (and_then a₃.0 (and_then a₄.0 (and_then a₅.0 (and_then a₆.0 none_left)))))),
      r.inside,
      r.is_wrong,
    )
