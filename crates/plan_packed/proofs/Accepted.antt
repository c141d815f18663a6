-- What a plan that is not refused gives to whoever reads it: sizes, procedures, and each term with its operands; and what of it checks 1 to 6 give.
-- Assumes nothing.
use Prim.Native.Nat.{ℕ, ◌^◌, ◌≤◌, ◌<◌}
use native.Mathlib.Omega.{arith}
use mathlib.Core.Path.{◌≡◌, sym, ◌∙◌}
use native.Mathlib.Decide.{dec_lt}
use mathlib.Core.Bool.{true, false, ◌&&◌, ◌||◌, and-true, true≢false}
use mathlib.Core.Logic.{◌⊎◌, inl, inr}
use mathlib.Core.List.{List}
use mathlib.Core.Option.{none}
use lib.Dec.{eqb, ltb, leb}
use lib.ListN.{length}
use borrow.Author.Tests.{le-leb, lt-ltb, ltb-false, leb-false, eqb-true, eqb-false, ne_eqb, not-false}
use Rattle.format.proofs.BitLaws.{bits_below}
use Rattle.format.proofs.RefusalLaws.{neither}
use Rattle.plan_packed.specs.Format.{version, procedures, terms, header_spare, volatiles, mask_bit, fields_from, parameters, root, plan_length, Operand}
use Rattle.plan_packed.specs.Format.{absent}
use Rattle.plan_packed.specs.Format.{slot, binder, mask, field_name, procedure, expression, condition, list, width, layout, laid_out, tag_at, term_at}
use Rattle.plan_packed.specs.Trees.{tree_at}
use Rattle.plan_packed.specs.Slots.{closed}
use Rattle.plan_packed.specs.Refusals.{wrong_operand, wrong_term, misplaced, list_length, times_named, not_named_once, uses_unbound_slot}
use Rattle.plan_packed.specs.Check.{refusal}
use Rattle.plan_packed.proofs.Passing.{length_of_lem, header_of_lem, procedure_of_lem, PassesTable, NoOperand, of_operands_lem, table_of, at_itself, sorted_of, call_of_lem}
use Rattle.plan_packed.proofs.Passing.{SixRight, AllRight, all_right}

-- ---- the facts

-- a tag of the sort that the table wants at an operand
abbrev pub OfSort : Operand → ℕ → Type 0
OfSort absent k = Unit {0}
OfSort slot k = Unit {0}
OfSort binder k = Unit {0}
OfSort mask k = Unit {0}
OfSort field_name k = Unit {0}
OfSort procedure k = Unit {0}
OfSort expression k = (k ≤ 11) ⊎ ((18 ≤ k) × (k ≤ 20))
OfSort condition k = (12 ≤ k) × (k ≤ 15)
OfSort list k = (16 ≤ k) × (k ≤ 17)

-- term v as the child of term t at an operand
pub record Child (b : List ℕ) (t : ℕ) (kind : Operand) (v : ℕ) : Type 0 where
  pub above : t < v
  pub below : v < terms b
  pub sorted : OfSort kind (tag_at b v)

-- value v at an operand of term t
abbrev pub Fits : List ℕ → ℕ → Operand → ℕ → Type 0
Fits b t absent v = v ≡ 0
Fits b t slot v = v ≤ 7
Fits b t binder v = (v ≡ 15 → ⊥) → v ≤ 7
Fits b t mask v = (eqb (mask_bit v 0) 1 ≡ false) × (length (fields_from v 0 32) ≤ 8)
Fits b t field_name v = (0 < v) × (v < 32)
Fits b t procedure v = v < procedures b
Fits b t expression v = Child b t expression v
Fits b t condition v = Child b t condition v
Fits b t list v = Child b t list v

pub record RightTerm (b : List ℕ) (t : ℕ) : Type 0 where
  pub tag_small : tag_at b t ≤ 20
  pub first_fits : Fits b t (layout (tag_at b t)).first (term_at b t).value₁
  pub second_fits : Fits b t (layout (tag_at b t)).second (term_at b t).value₂
  pub third_fits : Fits b t (layout (tag_at b t)).third (term_at b t).value₃
  pub spare_zero : (term_at b t).spare ≡ 0
  pub call_counts : tag_at b t ≡ 8 → list_length b (terms b) (term_at b t).value₂ ≡ parameters b (term_at b t).value₁
  pub named_once : times_named b t ≡ 1

-- what checks 1 to 6 give of the trees
pub record Readable (b : List ℕ) : Type 0 where
  pub each_root : (p : ℕ) → p < procedures b → (root b p < terms b) × OfSort expression (tag_at b (root b p))
  pub each_term : (t : ℕ) → t < terms b → RightTerm b t

pub record RightProcedure (b : List ℕ) (p : ℕ) : Type 0 where
  pub few_parameters : parameters b p ≤ 8
  pub root_below : root b p < terms b
  pub root_sorted : OfSort expression (tag_at b (root b p))
  pub all_bound : closed (λ x. ltb x (parameters b p)) (tree_at b (root b p)) ≡ true

pub record Accepted (b : List ℕ) : Type 0 where
  pub length_right : length b ≡ plan_length b
  pub version_known : version b ≤ 1
  pub some_procedure : 1 ≤ procedures b
  pub few_procedures : procedures b ≤ 32
  pub some_term : 1 ≤ terms b
  pub few_terms : terms b ≤ 1024
  pub spare_zero : header_spare b ≡ 0
  pub monitor_volatile : mask_bit (volatiles b) 0 ≡ 1
  pub main_bare : parameters b 0 ≡ 0
  pub each_procedure : (p : ℕ) → p < procedures b → RightProcedure b p
  pub each_term : (t : ℕ) → t < terms b → RightTerm b t

-- ---- an operand that passes 4 and 5

misplaced_not : (kind : Operand) (k : ℕ) → k ≤ 20 → misplaced kind k ≡ false → OfSort kind k
misplaced_not absent k s h = tt
misplaced_not slot k s h = tt
misplaced_not binder k s h = tt
misplaced_not mask k s h = tt
misplaced_not field_name k s h = tt
misplaced_not procedure k s h = tt
misplaced_not expression k s h = go (dec_lt k 12) (dec_lt k 18)
  where
    go : Dec (k < 12) → Dec (k < 18) → (k ≤ 11) ⊎ ((18 ≤ k) × (k ≤ 20))
    go (yes a) b = inl (omega arith)
    go (no a) (no b) = inr (omega (arith, b), s)
    go (no a) (yes b) = absurd (true≢false (sym (rw (le-leb 12 k (omega (arith, a)), lt-ltb k 18 b)) ∙ h))
misplaced_not condition k s h = let p = neither (ltb k 12) (leb 16 k) h in (ltb-false k 12 p.0, omega (arith, leb-false 16 k p.1))
misplaced_not list k s h = let p = neither (ltb k 16) (leb 18 k) h in (ltb-false k 16 p.0, omega (arith, leb-false 18 k p.1))

child_of_lem : (b : List ℕ) (t : ℕ) (kind : Operand) (v : ℕ) → (leb v t || leb (terms b) v) ≡ false → (v < terms b → OfSort kind (tag_at b v)) → Child b t kind v
child_of_lem b t kind v h s =
    let p = neither (leb v t) (leb (terms b) v) h in
    let q = leb-false (terms b) v p.1 in
    record { above = leb-false v t p.0; below = q; sorted = s q }

fits_of : (b : List ℕ) (t : ℕ) (kind : Operand) (v : ℕ) → v < 2 ^ width kind → wrong_operand (procedures b) (terms b) t kind v ≡ false
    → (v < terms b → OfSort kind (tag_at b v)) → Fits b t kind v
fits_of b t absent v w h s = omega arith
fits_of b t slot v w h s = ltb-false 7 v h
fits_of b t binder v w h s = λ q. ltb-false 7 v (sym (and-true (ltb 7 v)) ∙ (rw (ne_eqb v 15 q) at h))
fits_of b t mask v w h s =
    let p = neither (eqb (mask_bit v 0) 1) (ltb 8 (length (fields_from v 0 32))) h in
    (p.0, ltb-false 8 (length (fields_from v 0 32)) p.1)
fits_of b t field_name v w h s = (omega (arith, eqb-false v 0 h), omega arith)
fits_of b t procedure v w h s = leb-false (procedures b) v h
fits_of b t expression v w h s = child_of_lem b t expression v h s
fits_of b t condition v w h s = child_of_lem b t condition v h s
fits_of b t list v w h s = child_of_lem b t list v h s

-- ---- a plan that passes checks 1 to 6

module _ (b : List ℕ) (a : SixRight b) where
  in_table : (t : ℕ) → t < terms b → PassesTable (procedures b) (terms b) t (term_at b t)
  unfolding wrong_term
  in_table t q = table_of (procedures b) (terms b) t (term_at b t) (a.right₄ t q)

  small : (t : ℕ) → t < terms b → tag_at b t ≤ 20
  unfolding term_at
  small t q = (in_table t q).tag_small

  in_sort : (kind : Operand) (v : ℕ) → v < terms b → (eqb v v && misplaced kind (tag_at b v)) ≡ false → OfSort kind (tag_at b v)
  in_sort kind v q h = misplaced_not kind (tag_at b v) (small v q) (at_itself v (misplaced kind (tag_at b v)) h)

  named_by : (u v : ℕ) → u < terms b → v < terms b → NoOperand (λ kind x. eqb x v && misplaced kind (tag_at b v)) (term_at b u)
  named_by u v p q = of_operands_lem (λ kind x. eqb x v && misplaced kind (tag_at b v)) (term_at b u) ((sorted_of b v (a.right₅ v q)).as_child u p)

  term_of_lem : (t : ℕ) → t < terms b → RightTerm b t
  unfolding term_at laid_out not_named_once
  term_of_lem t q =
      let m = in_table t q in
      let r = layout (tag_at b t) in
      let x = (term_at b t).value₁ in
      let y = (term_at b t).value₂ in
      let z = (term_at b t).value₃ in
      record {
        tag_small = m.tag_small;
        first_fits = fits_of b t r.first x (bits_below b _ _) m.first_right (λ s. in_sort r.first x s (named_by t x q s).0);
        second_fits = fits_of b t r.second y (bits_below b _ _) m.second_right (λ s. in_sort r.second y s (named_by t y q s).1);
        third_fits = fits_of b t r.third z (bits_below b _ _) m.third_right (λ s. in_sort r.third z s (named_by t z q s).2);
        spare_zero = m.spare_zero;
        call_counts = call_of_lem b t (sorted_of b t (a.right₅ t q)).as_call;
        named_once = eqb-true _ _ (not-false (eqb (times_named b t) 1) (a.right₆ t q));
      }

  root_right : (p : ℕ) → p < procedures b → (root b p < terms b) × OfSort expression (tag_at b (root b p))
  root_right p q =
      let k = (procedure_of_lem b p (a.right₃ p q)).2 in
      (k, in_sort expression (root b p) k ((sorted_of b (root b p) (a.right₅ (root b p) k)).as_root p q))

  pub readable : Readable b
  readable = record { each_root = root_right; each_term = term_of_lem }

-- ---- a plan that passes every check

procedure_right : (b : List ℕ) → AllRight b → (p : ℕ) → p < procedures b → RightProcedure b p
unfolding uses_unbound_slot
procedure_right b a p q =
    let r = root_right b a.six p q in
    record {
      few_parameters = (procedure_of_lem b p (a.six.right₃ p q)).0;
      root_below = r.0;
      root_sorted = r.1;
      all_bound = not-false (closed (λ x. ltb x (parameters b p)) (tree_at b (root b p))) (a.right₇ p q);
    }

-- a plan that is not refused has all the facts
pub accepted : (b : List ℕ) → refusal b ≡ none → Accepted b
accepted b h =
    let a = all_right b h in
    let six = a.six in
    let k = header_of_lem b six.right₂ in
    record {
      length_right = length_of_lem b six.right₁;
      version_known = k.0;
      some_procedure = k.1;
      few_procedures = k.2;
      some_term = k.3;
      few_terms = k.4;
      spare_zero = k.5;
      monitor_volatile = k.6;
      main_bare = omega (arith, ltb-false 0 (parameters b 0) (procedure_of_lem b 0 (six.right₃ 0 k.1)).1);
      each_procedure = procedure_right b a;
      each_term = term_of_lem b six;
    }

-- and so what checks 1 to 6 give
pub its_trees : (b : List ℕ) → Accepted b → Readable b
its_trees b a =
    record {
      each_root = λ p q. ((a.each_procedure p q).root_below, (a.each_procedure p q).root_sorted);
      each_term = a.each_term;
    }
