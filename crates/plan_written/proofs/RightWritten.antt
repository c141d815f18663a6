-- The bytes of a program that a plan can have pass the check, and are a plan of that program. Assumes nothing.
use Prim.Native.Nat.{ℕ, zero, suc, ◌+◌, ◌-◌, ◌*◌, ◌^◌, ◌≤◌, ◌<◌}
use native.Mathlib.Decide.{ℕ_discrete}
use native.Mathlib.Nat.{mod-lt}
use native.Mathlib.Omega.{arith}
use mathlib.Core.Path.{◌≡◌, refl, sym, ap, ap₂, subst, ◌∙◌}
use mathlib.Core.Bool.{Bool, true, false, ◌&&◌, ◌||◌, not, and-false, true≢false}
use mathlib.Core.List.{List, [], ◌∷◌}
use mathlib.Core.Option.{some, none}
use lib.Dec.{eqb, ltb, leb}
use lib.ListN.{length, get_or, get_elem?}
use borrow.Author.Tests.{le-ltb, lt-leb, eq-eqb, ne_eqb}
use Rattle.format.specs.Version.{Version, v0, v1, version_of}
use Rattle.format.proofs.RefusalLaws.{none_is_pass, none_left, and_then}
use Rattle.plan_packed.specs.Syntax.{Expression, Procedure, Program}
use Rattle.plan_packed.specs.Format
use Rattle.plan_packed.specs.Format.{mask_bit, fields_from, version, terms, volatiles, parameters, root, plan_length, Operand, expression, Term, term_at, tag_at}
use Rattle.plan_packed.specs.Slots.{closed}
use Rattle.plan_packed.specs.Trees.{tree_at, procedure_at, procedures_from, program_of}
use Rattle.plan_packed.specs.Refusals.{any_below, sum_below, one_if, wrong_length, wrong_header, wrong_procedure, misplaced, some_operand, wrong_call, wrongly_sorted}
use Rattle.plan_packed.specs.Refusals.{times_in, times_named, not_named_once, uses_unbound_slot}
use Rattle.plan_packed.specs.Check.{checks, refusal}
use Rattle.plan_packed.proofs.Passing.{AllRight}
use Rattle.plan_packed.proofs.Reading.{header_tests, header_tests_lem, procedure_tests}
use Rattle.plan_written.specs.Terms.{TermTree, term, terms_of, mask_of}
use Rattle.plan_written.specs.Written.{size_of_all, term_words, version_number, written}
use Rattle.plan_written.proofs.Heads.{Heads}
use Rattle.plan_written.proofs.RightTrees.{RightTree, head_tag}
use Rattle.plan_written.proofs.Sums.{sum_cong, sum_none}
use Rattle.plan_written.proofs.Sizes.{times_are}
use Rattle.plan_written.proofs.ReadBack.{version_small, Fitted, start_of, version_is, procedures_is, terms_is, spare_is, volatiles_is, length_is}
use Rattle.plan_written.proofs.ReadBack.{parameters_is, root_is, word_is}
use Rattle.plan_written.proofs.Placed.{has_own}
use Rattle.plan_written.proofs.Fine.{Fine, heads_placed}
use Rattle.plan_written.proofs.Named.{between_in, size_pos}
use Rattle.plan_written.proofs.Segments.{AllPlaced, placed_at, all_terms_fine, all_names, all_placed}
use Rattle.plan_written.proofs.Masks.{mask_from_lem}
use Rattle.plan_written.proofs.Right.{counts_in, RightDefinition, RightDefinitions, RightProgram}
use Rattle.plan_written.proofs.RightTerms.{expression_sorted, right_terms, tree_back}

-- ---- what passes each check is not refused

passed : (b : List ℕ) → AllRight b → refusal b ≡ none
unfolding refusal checks
passed b a =
    let s = a.six in
    (none_is_pass (checks b)).1
    (and_then (record { right = λ j h. s.right₁ })
    (and_then (record { right = λ j h. s.right₂ })
    (and_then (record { right = s.right₃ })
    (and_then (record { right = s.right₄ })
    (and_then (record { right = s.right₅ })
    (and_then (record { right = s.right₆ })
    (and_then (record { right = a.right₇ }) none_left)))))))

none_any : (n : ℕ) (f : ℕ → Bool) → ((k : ℕ) → k < n → f k ≡ false) → any_below n f ≡ false
unfolding any_below
none_any zero f h = refl
none_any (suc n) f h = rw (none_any n f (λ k q. h k (omega arith)), h n (omega arith))

-- a test at one place, which fails there
only_there : (v t : ℕ) (f : ℕ → Bool) → f v ≡ false → (eqb v t && f t) ≡ false
only_there v t f h = go (ℕ_discrete v t)
  where
    go : Dec (v ≡ t) → (eqb v t && f t) ≡ false
    go (yes e) = rw (eq-eqb v t e) (ap f (sym e) ∙ h)
    go (no d) = rw (ne_eqb v t d)

length_tests : (l n : ℕ) → 8 ≤ l → l ≡ n → (ltb l 8 || not (eqb l n)) ≡ false
length_tests l n h e = rw (le-ltb l 8 h, eq-eqb l n e)

three_tests : (x y z : Bool) → x ≡ false → y ≡ false → z ≡ false → (x || y || z) ≡ false
three_tests x y z e f g = rw (e, f, g)

once_tests : (n : ℕ) → n ≡ 1 → not (eqb n 1) ≡ false
once_tests n e = rw e

no_operand : (f : Operand → ℕ → Bool) (m : Term) → f m.first m.value₁ ≡ false → f m.second m.value₂ ≡ false → f m.third m.value₃ ≡ false
    → some_operand f m ≡ false
unfolding some_operand
no_operand f m h k l = rw (h, k, l)

module _ (b : List ℕ) where
  passes_length : 8 ≤ length b → length b ≡ plan_length b → wrong_length b ≡ false
  unfolding wrong_length
  passes_length h e = length_tests (length b) (plan_length b) h e

  sorts_pass : (t : ℕ) → any_below (Format.procedures b) (λ p. eqb (root b p) t && misplaced expression (tag_at b t)) ≡ false
      → any_below (terms b) (λ u. some_operand (λ kind v. eqb v t && misplaced kind (tag_at b t)) (term_at b u)) ≡ false → wrong_call b t ≡ false
      → wrongly_sorted b t ≡ false
  unfolding wrongly_sorted
  sorts_pass t x y z = three_tests _ _ _ x y z

  passes_sorts : ((p : ℕ) → p < Format.procedures b → misplaced expression (tag_at b (root b p)) ≡ false) → ((u : ℕ) → u < terms b → Fine b u) → (t : ℕ)
      → t < terms b → wrongly_sorted b t ≡ false
  passes_sorts roots fine t h =
      sorts_pass t
      (none_any (Format.procedures b) _ (λ p q. only_there (root b p) t (λ v. misplaced expression (tag_at b v)) (roots p q)))
      (none_any (terms b) _ (λ u q. no_operand (λ kind v. eqb v t && misplaced kind (tag_at b t)) (term_at b u)
      (only_there (term_at b u).value₁ t (λ v. misplaced (term_at b u).first (tag_at b v)) (fine u q).first_sorted)
      (only_there (term_at b u).value₂ t (λ v. misplaced (term_at b u).second (tag_at b v)) (fine u q).second_sorted)
      (only_there (term_at b u).value₃ t (λ v. misplaced (term_at b u).third (tag_at b v)) (fine u q).third_sorted)))
      (fine t h).call_counts

  passes_names : (t : ℕ) → times_named b t ≡ 1 → not_named_once b t ≡ false
  unfolding not_named_once
  passes_names t e = once_tests (times_named b t) e

  passes_slots : (p : ℕ) → closed (λ x. ltb x (parameters b p)) (tree_at b (root b p)) ≡ true → uses_unbound_slot b p ≡ false
  unfolding uses_unbound_slot
  passes_slots p e = ap not e

  pub plan_length_lem : plan_length b ≡ 8 + 2 * Format.procedures b + 5 * terms b
  unfolding plan_length
  plan_length_lem = refl

  -- the head of a tree has its tag
  tag_of : (t : ℕ) (e : TermTree) → Heads b t e → tag_at b t ≡ head_tag e
  tag_of t (term k p q r) h = h.1

-- the header's numbers and a procedure's
pub version_again : (v : Version) → version_of (version_number v) ≡ v
unfolding version_of version_number
version_again v0 = refl
version_again v1 = refl

passes_header : (v p n m : ℕ) → v ≤ 1 → 1 ≤ p → p ≤ 32 → 1 ≤ n → n ≤ 1024 → mask_bit m 0 ≡ 1 → header_tests v p n 0 m ≡ false
passes_header v p n m a b c d e f = rw (le-ltb 1 v a, le-ltb p 1 b, le-ltb 32 p c, le-ltb n 1 d, le-ltb 1024 n e, f)

passes_procedure : (p k n t : ℕ) → k ≤ 8 → (p ≡ 0 → k ≡ 0) → t < n → (ltb 8 k || (eqb p 0 && ltb 0 k) || leb n t) ≡ false
passes_procedure p k n t h bare l = rw (le-ltb 8 k h, lt-leb n t l, no_main (ℕ_discrete p 0))
  where
    no_main : Dec (p ≡ 0) → (eqb p 0 && ltb 0 k) ≡ false
    no_main (yes z) = rw (le-ltb 0 k (let y = bare z in omega arith), and-false (eqb p 0))
    no_main (no z) = rw (ne_eqb p 0 z)

-- ---- procedures by their numbers

-- a procedure that there is
there : (ds : List Procedure) (p : ℕ) → p < length ds → (d : Procedure) × (get_elem? ds p ≡ some d)
there [] p h = absurd (omega arith)
there (d ∷ ds) zero h = (d, refl)
there (d ∷ ds) (suc p) h = there ds p (omega arith)

pub inside : (ds : List Procedure) (p : ℕ) (d : Procedure) → get_elem? ds p ≡ some d → p < length ds
inside [] p d e = absurd (true≢false cc)
inside (d ∷ ds) zero d' e = omega arith
inside (d ∷ ds) (suc p) d' e = let h = inside ds p d' e in omega arith

counts_at_lem : (ds : List Procedure) (p : ℕ) (d : Procedure) → get_elem? ds p ≡ some d → get_or (counts_in ds) p 0 ≡ d.parameters
counts_at_lem [] p d e = absurd (true≢false cc)
counts_at_lem (d ∷ ds) zero d' e = let same : d ≡ d' = cc in rw same
counts_at_lem (d ∷ ds) (suc p) d' e = counts_at_lem ds p d' e

pub counts_length : (ds : List Procedure) → length (counts_in ds) ≡ length ds
counts_length [] = refl
counts_length (d ∷ ds) = ap suc (counts_length ds)

definition_at : (counts : List ℕ) (ds : List Procedure) (p : ℕ) (d : Procedure) → RightDefinitions counts ds → get_elem? ds p ≡ some d → RightDefinition counts d
definition_at counts [] p d r e = absurd (true≢false cc)
definition_at counts (d ∷ ds) zero d' r e = let same : d ≡ d' = cc in rw (← same) r.0
definition_at counts (d ∷ ds) (suc p) d' r e = definition_at counts ds p d' r.1 e

-- the procedures of a plan, where each is known
from_is : (b : List ℕ) (ds : List Procedure) (p : ℕ) → ((i : ℕ) (d : Procedure) → get_elem? ds i ≡ some d → procedure_at b (p + i) ≡ d)
    → procedures_from b p (length ds) ≡ ds
unfolding procedures_from
from_is b [] p h = refl
from_is b (d ∷ ds) p h =
    let z : p + 0 ≡ p = omega arith in
    ap₂ (λ (d : Procedure) (ds : List Procedure). d ∷ ds) (rw z at (h 0 d refl))
    (from_is b ds (suc p) (λ i d' e. let y : suc p + i ≡ p + suc i = omega arith in rw y (h (suc i) d' e)))

-- a plan's program, part by part
pub program_of_lem : (b : List ℕ) (g : Program) → version_of (version b) ≡ g.version → volatiles b ≡ g.volatiles
    → procedures_from b 0 (Format.procedures b) ≡ g.procedures → program_of b ≡ g
unfolding program_of
program_of_lem b g e f k = λ i. record { version = e i; volatiles = f i; procedures = k i }

-- ---- the mask

-- a mask with field 0 has 32 bits, the top one set
module _ (m : ℕ) (e : m ≡ 2 ^ 31 + mask_of (fields_from m 1 31)) where
  low_fields : mask_of (fields_from m 1 31) < 2 ^ 31
  low_fields = rw (mask_from_lem m 1 31 (omega arith)) (mod-lt m (omega arith))

  mask_fits : m < 2 ^ 32
  mask_fits = omega (arith, low_fields)

  monitor_set : mask_bit m 0 ≡ 1
  unfolding mask_bit
  monitor_set = let h = low_fields in omega arith

-- ---- a program that a plan can have, written

module _ (g : Program) (r : RightProgram g) where
  abbrev ds : List Procedure
  ds = g.procedures

  abbrev w : List ℕ
  w = written g

  abbrev counts : List ℕ
  counts = counts_in ds

  abbrev parameters_of : ℕ → ℕ
  parameters_of m = get_or counts m 0

  pub fitted : Fitted g
  fitted = record { few_procedures = r.few_procedures; few_terms = r.few_terms; mask_fits = mask_fits g.volatiles r.monitor_volatile }

  definition : (p : ℕ) (d : Procedure) → get_elem? ds p ≡ some d → RightDefinition counts d
  definition p d e = definition_at counts ds p d r.each_procedure e

  -- its trees are right
  right : (p : ℕ) (d : Procedure) → get_elem? ds p ≡ some d → RightTree (Format.procedures w) parameters_of (terms_of d.body)
  right p d e =
      subst (λ (n : ℕ). RightTree n parameters_of (terms_of d.body)) (counts_length ds ∙ sym (procedures_is g fitted))
      (right_terms counts d.body (definition p d e).right_body)

  -- and in place
  in_place_lem : AllPlaced w parameters_of 0 ds
  in_place_lem =
      all_placed w parameters_of (term_words 0 ds) (size_of_all ds) fitted.few_terms (word_is g fitted) ds 0 right (omega arith)
      (has_own [] (term_words 0 ds) 0 refl)

  -- procedure p
  module _ (p : ℕ) (d : Procedure) (here : get_elem? ds p ≡ some d) where
    starts : start_of 0 ds p < size_of_all ds
    starts = let l = (placed_at w parameters_of ds 0 p d in_place_lem here).2 in omega (arith, size_pos (terms_of d.body))

    few : d.parameters < 16
    few = let h = (definition p d here).few_parameters in omega arith

    parameters_back : parameters w p ≡ d.parameters
    parameters_back = parameters_is g fitted p d here few (let n = r.few_terms in omega (arith, starts))

    root_here : root w p ≡ start_of 0 ds p
    root_here = root_is g fitted p d here few (let n = r.few_terms in omega (arith, starts))

  agree : (m : ℕ) → m < Format.procedures w → parameters w m ≡ parameters_of m
  agree m q =
      let s = there ds m (omega (arith, procedures_is g fitted)) in
      parameters_back m s.0 s.1 ∙ sym (counts_at_lem ds m s.0 s.1)

  -- a root heads the terms of its procedure's body, and stands for it
  module _ (p : ℕ) (d : Procedure) (here : get_elem? ds p ≡ some d) where
    root_heads : Heads w (root w p) (terms_of d.body)
    root_heads =
        let l = placed_at w parameters_of ds 0 p d in_place_lem here in
        heads_placed w parameters_of agree (terms_of d.body) (root w p) l.0 (rw (root_here p d here) (let k = l.2 in omega (arith, terms_is g fitted)))
        (rw (root_here p d here) l.1)

    tree_is : tree_at w (root w p) ≡ d.body
    unfolding tree_at
    tree_is = tree_back w counts d.body (root w p) (terms w - root w p) (definition p d here).right_body root_heads (enough (terms w) (root w p))
      where
        enough : (n t : ℕ) → n ≤ t + (n - t)
        enough n t = omega arith

    pub procedure_is : procedure_at w p ≡ d
    unfolding procedure_at
    procedure_is = ap₂ (λ (n : ℕ) (t : Expression). record { parameters = n; body = t }) (parameters_back p d here) tree_is

  -- ---- the checks

  some_term : 1 ≤ size_of_all ds
  some_term = let s = there ds 0 r.some_procedure in omega (arith, starts 0 s.0 s.1)

  header_right : wrong_header w ≡ false
  header_right =
      header_tests_lem w (version_number g.version) (length ds) (size_of_all ds) 0 g.volatiles (sym (version_is g fitted)) (sym (procedures_is g fitted))
      (sym (terms_is g fitted)) (sym (spare_is g fitted))
      (sym (volatiles_is g fitted))
      ∙ passes_header (version_number g.version) (length ds) (size_of_all ds) g.volatiles (version_small g.version) r.some_procedure
      r.few_procedures some_term r.few_terms
      (monitor_set g.volatiles r.monitor_volatile)

  procedure_right : (p : ℕ) → p < Format.procedures w → wrong_procedure w p ≡ false
  procedure_right p l =
      let s = there ds p (omega (arith, procedures_is g fitted)) in
      let d = s.0 in
      procedure_tests w p d.parameters (size_of_all ds) (start_of 0 ds p) (sym (parameters_back p d s.1)) (sym (terms_is g fitted))
      (sym (root_here p d s.1))
      ∙ passes_procedure p d.parameters (size_of_all ds) (start_of 0 ds p) (definition p d s.1).few_parameters
      (λ z. sym (counts_at_lem ds p d s.1) ∙ ap parameters_of z ∙ r.main_bare) (starts p d s.1)

  terms_fine : (u : ℕ) → u < terms w → Fine w u
  terms_fine u l = all_terms_fine w parameters_of agree ds 0 in_place_lem (omega (arith, terms_is g fitted)) u (omega arith) (omega (arith, terms_is g fitted))

  root_sorted : (p : ℕ) → p < Format.procedures w → misplaced expression (tag_at w (root w p)) ≡ false
  root_sorted p l =
      let s = there ds p (omega (arith, procedures_is g fitted)) in
      ap (misplaced expression) (tag_of w (root w p) (terms_of s.0.body) (root_heads p s.0 s.1)) ∙ expression_sorted s.0.body

  named_once : (t : ℕ) → t < terms w → times_named w t ≡ 1
  named_once t l =
      let names : ℕ → ℕ = λ u. times_in (term_at w u) t in
      let n : 0 + size_of_all ds ≡ terms w = omega (arith, terms_is g fitted) in
      let all = rw n at (all_names w parameters_of t ds 0 in_place_lem) in
      let roots : sum_below (Format.procedures w) (λ p. one_if (eqb (root w p) t)) ≡ sum_below (length ds) (λ p. one_if (eqb (start_of 0 ds p) t)) =
      sum_cong (Format.procedures w) _ (λ p. one_if (eqb (start_of 0 ds p) t))
      (λ p q. let s = there ds p (omega (arith, procedures_is g fitted)) in ap (λ (r : ℕ). one_if (eqb r t)) (root_here p s.0 s.1))
      ∙ ap (λ (m : ℕ). sum_below m (λ p. one_if (eqb (start_of 0 ds p) t))) (procedures_is g fitted) in
      times_are w t ∙ omega (arith, sum_none names, between_in 0 (terms w) t (omega arith) l)

  slots_bound : (p : ℕ) → p < Format.procedures w → closed (λ x. ltb x (parameters w p)) (tree_at w (root w p)) ≡ true
  slots_bound p l =
      let s = there ds p (omega (arith, procedures_is g fitted)) in
      rw (parameters_back p s.0 s.1, tree_is p s.0 s.1) (definition p s.0 s.1).all_bound

  all : AllRight w
  all =
      record {
        six = record {
          right₁ = passes_length w (omega (arith, length_is g fitted, plan_length_lem w)) (length_is g fitted);
          right₂ = header_right;
          right₃ = procedure_right;
          right₄ = λ t l. (terms_fine t l).in_table;
          right₅ = passes_sorts w root_sorted terms_fine;
          right₆ = λ t l. passes_names w t (named_once t l);
        };
        right₇ = λ p l. passes_slots w p (slots_bound p l);
      }

  -- its bytes pass the check
  pub right_passes : refusal w ≡ none
  right_passes = passed w all

  -- and are a plan of it
  pub program_is : program_of w ≡ g
  program_is =
      program_of_lem w g (ap version_of (version_is g fitted) ∙ version_again g.version) (volatiles_is g fitted)
      (ap (procedures_from w 0) (procedures_is g fitted) ∙ from_is w ds 0 (λ i d e. let z : 0 + i ≡ i = omega arith in rw z (procedure_is i d e)))
