-- The tokens of an accepted plan, part by part. Assumes nothing.
use Prim.Native.Nat.{ℕ, suc, ◌+◌, ◌-◌, ◌*◌, ◌≤◌, ◌<◌}
use native.Mathlib.Omega.{arith}
use mathlib.Core.Path.{◌≡◌, refl, sym, ap, ap₂, ◌∙◌}
use mathlib.Core.List.{List, [], ◌∷◌, ◌++◌, append-nil, append_assoc}
use lib.ListN.{length, length-append}
use Rattle.plan_packed.specs.Syntax.{Procedure}
use Rattle.plan_packed.specs.Format
use Rattle.plan_packed.specs.Format.{version, terms, volatiles, parameters, root, fields_from}
use Rattle.plan_packed.specs.Inner.Steps.{Right, Ordered, tree_in}
use Rattle.plan_packed.specs.Trees.{tree_at, procedure_at, procedures_from, program_of}
use Rattle.plan_packed.proofs.Accepted.{Accepted, accepted}
use Rattle.plan_packed.proofs.Passing.{all_right}
use Rattle.plan_packed.proofs.NodeOrder.{ordered, tree_is}
use Rattle.plan_written.specs.Written.{size_of_all, version_number}
use Rattle.plan_written.proofs.Right.{counts_in, RightDefinitions}
use Rattle.plan_written.proofs.Passes.{plan_length_lem, body_is, parameters_are, version_back, version_of_lem, mask_is}
use Rattle.plan_written.proofs.Sizes.{program_procedures}
use Rattle.plan_written.proofs.RightPlans.{count_is, total_is, right_program}
use Rattle.text.specs.Inner.Wrote.{Wrote}
use Rattle.text.proofs.Added.{added_none, added_more, added_as}
use Rattle.plan_notation.specs.Tokens.{version_word}
use Rattle.plan_notation.specs.Shown.{loose, shown, volatile_tokens, procedure_tokens, main_first, shown_plan}
use Rattle.plan_notation.proofs.ShownCodes.{shown_fit, plan_fit}
use Rattle.plan_token_writer.proofs.Fields.{few_fields}
use Rattle.plan_tokens.specs.Inner.Begun.{Given, procedure_head, procedure_alone, header_tokens, rest_from, procedures_behind}

-- ---- procedures one by one

from_none : (b : List ℕ) (p : ℕ) → procedures_from b p 0 ≡ []
unfolding procedures_from
from_none b p = refl

from_more : (b : List ℕ) (p n : ℕ) → procedures_from b p (suc n) ≡ procedure_at b p ∷ procedures_from b (suc p) n
unfolding procedures_from
from_more b p n = refl

rest_more : (b : List ℕ) (p : ℕ) → p < Format.procedures b → rest_from b p ≡ procedure_at b p ∷ rest_from b (suc p)
rest_more b p h = let e : Format.procedures b - p ≡ suc (Format.procedures b - suc p) = omega arith in ap (procedures_from b p) e
    ∙ from_more b p (Format.procedures b - suc p)

rest_none : (b : List ℕ) (p : ℕ) → Format.procedures b ≤ p → rest_from b p ≡ []
rest_none b p h = let e : Format.procedures b - p ≡ 0 = omega arith in ap (procedures_from b p) e ∙ from_none b p

rest_all : (b : List ℕ) → rest_from b 0 ≡ (program_of b).procedures
rest_all b = let e : Format.procedures b - 0 ≡ Format.procedures b = omega arith in ap (procedures_from b 0) e ∙ sym (program_procedures b)

-- ---- their tokens

tokens_none : (p : ℕ) → procedure_tokens p [] ≡ []
unfolding procedure_tokens
tokens_none p = refl

tokens_more : (p : ℕ) (d : Procedure) (ds : List Procedure)
    → procedure_tokens p (d ∷ ds) ≡ (procedure_head p d.parameters ++ shown loose d.body) ++ procedure_tokens (suc p) ds
unfolding procedure_tokens procedure_head
tokens_more p d ds = sym (append_assoc (procedure_head p d.parameters) (shown loose d.body) (procedure_tokens (suc p) ds))

main_more : (d : Procedure) (ds : List Procedure) → main_first (d ∷ ds) ≡ shown loose d.body ++ procedure_tokens 1 ds
unfolding main_first
main_more d ds = refl

-- the header's
pub header_parts : (plan : List ℕ) → (version_word ∷ version plan ∷ []) ++ volatile_tokens (fields_from (volatiles plan) 1 31) ≡ header_tokens plan
unfolding header_tokens
header_parts plan = refl

pub header_length : (plan : List ℕ) → length (header_tokens plan) ≡ 2 + length (volatile_tokens (fields_from (volatiles plan) 1 31))
unfolding header_tokens
header_length plan = two (length (volatile_tokens (fields_from (volatiles plan) 1 31)))
  where
    two : (n : ℕ) → suc (suc n) ≡ 2 + n
    two n = omega arith

-- how many they are
pub head_length : (p k : ℕ) → length (procedure_head p k) ≡ 6
unfolding procedure_head
head_length p k = refl

pub alone_length : (plan : List ℕ) (p : ℕ) → length (procedure_alone plan p) ≡ 6 + length (shown loose (tree_at plan (root plan p)))
unfolding procedure_alone
alone_length plan p =
    length-append (procedure_head p (parameters plan p)) (shown loose (tree_at plan (root plan p)))
    ∙ ap (λ (n : ℕ). n + length (shown loose (tree_at plan (root plan p)))) (head_length p (parameters plan p))

-- at most eleven to a term, six more to a procedure
behind_few : (counts : List ℕ) (p : ℕ) (ds : List Procedure) → RightDefinitions counts ds → length (procedure_tokens p ds) ≤ 11 * size_of_all ds + 6 * length ds
unfolding procedure_tokens size_of_all
behind_few counts p [] h = omega arith
behind_few counts p (d ∷ ds) h =
    omega (
      arith,
      (shown_fit counts d.body 0 h.0.right_body).few,
      behind_few counts (suc p) ds h.1,
      length-append (shown loose d.body) (procedure_tokens (suc p) ds),
    )

main_few : (counts : List ℕ) (ds : List Procedure) → RightDefinitions counts ds → length (main_first ds) ≤ 11 * size_of_all ds + 6 * length ds
unfolding main_first size_of_all
main_few counts [] h = omega arith
main_few counts (d ∷ ds) h =
    omega (
      arith,
      (shown_fit counts d.body 0 h.0.right_body).few,
      behind_few counts 1 ds h.1,
      length-append (shown loose d.body) (procedure_tokens 1 ds),
    )

-- `volatile` and 31 fields
volatiles_few : (m : ℕ) → length (volatile_tokens (fields_from m 1 31)) ≤ 32
unfolding volatile_tokens
volatiles_few m = go (fields_from m 1 31) (few_fields m 1 31)
  where
    go : (fs : List ℕ) → length fs ≤ 31 → length (volatile_tokens fs) ≤ 32
    go [] h = omega arith
    go (f ∷ fs) h = omega arith

in_bytes : (whole v m t p n : ℕ) → whole ≡ suc (suc (v + m)) → v ≤ 32 → m ≤ 11 * t + 6 * p → n ≡ 8 + 2 * p + 5 * t → whole ≤ 3 * n + 10
in_bytes whole v m t p n e h k l = omega arith

module _ (plan words : List ℕ) (r : Given plan words) where
  facts : Accepted plan
  facts = accepted plan r.passes

  right : Right plan (Format.procedures plan) (terms plan)
  right =
      let a = all_right plan r.passes in
      record {
        headed = record {
          sized = record { procedures_are = refl; terms_are = refl; long = facts.length_right ∙ plan_length_lem plan };
          some_term = facts.some_term;
          few = facts.few_terms;
          procedures_right = a.six.right₃;
        };
        terms_right = a.six.right₄;
      }

  pub in_order : Ordered words
  in_order = ordered plan (Format.procedures plan) (terms plan) right words r.loaded

  pub few : Format.procedures plan ≤ 32
  few = facts.few_procedures

  pub some : 0 < Format.procedures plan
  some = facts.some_procedure

  pub sized : length plan ≡ 8 + 2 * Format.procedures plan + 5 * terms plan
  sized = facts.length_right ∙ plan_length_lem plan

  pub tree_same : (p : ℕ) → tree_in words (root plan p) ≡ tree_at plan (root plan p)
  tree_same p = tree_is plan (Format.procedures plan) (terms plan) right words r.loaded (root plan p)

  pub root_inside : (p : ℕ) → p < Format.procedures plan → root plan p < 1024
  root_inside p h = omega (arith, facts.few_terms, (facts.each_procedure p h).root_below)

  pub parameters_small : (p : ℕ) → p < Format.procedures plan → parameters plan p ≤ 8
  parameters_small p h = (facts.each_procedure p h).few_parameters

  pub version_small : version plan ≤ 1
  version_small = facts.version_known

  -- one procedure more
  pub alone_more : (p : ℕ) → p < Format.procedures plan
      → procedure_tokens p (rest_from plan p) ≡ procedure_alone plan p ++ procedure_tokens (suc p) (rest_from plan (suc p))
  unfolding procedure_alone
  alone_more p h =
      ap (procedure_tokens p) (rest_more plan p h)
      ∙ tokens_more p (procedure_at plan p) (rest_from plan (suc p))
      ∙ ap₂ (λ (k : ℕ) (ts : List ℕ). (procedure_head p k ++ ts) ++ procedure_tokens (suc p) (rest_from plan (suc p))) (parameters_are plan r.passes p)
      (ap (shown loose) (body_is plan r.passes p))

  -- the whole
  abbrev main : List ℕ
  main = shown loose (tree_at plan (root plan 0))

  main_is : main_first (program_of plan).procedures ≡ main ++ procedure_tokens 1 (rest_from plan 1)
  main_is =
      ap main_first (sym (rest_all plan) ∙ rest_more plan 0 some)
      ∙ main_more (procedure_at plan 0) (rest_from plan 1)
      ∙ ap (λ (ts : List ℕ). ts ++ procedure_tokens 1 (rest_from plan 1)) (ap (shown loose) (body_is plan r.passes 0))

  version_is : version_number (program_of plan).version ≡ version plan
  version_is = ap version_number (version_of_lem plan r.passes) ∙ version_back (version plan) version_small

  pub whole_is : header_tokens plan ++ (main ++ procedures_behind plan) ≡ shown_plan (program_of plan)
  unfolding header_tokens shown_plan procedures_behind
  whole_is =
      ap₂ (λ (v : ℕ) (ts : List ℕ). version_word ∷ v ∷ volatile_tokens (fields_from (volatiles plan) 1 31) ++ ts) (sym version_is) (sym main_is)
      ∙ ap (λ (m : ℕ). version_word ∷ version_number (program_of plan).version ∷ volatile_tokens (fields_from m 1 31) ++ main_first (program_of plan).procedures)
      (sym (mask_is plan r.passes))

  pub plan_few : length (shown_plan (program_of plan)) ≤ 11490
  plan_few = (plan_fit (program_of plan) (right_program plan r.passes)).few

  -- a plan has at most three tokens for each of its bytes, and ten more
  pub plan_within : length (shown_plan (program_of plan)) ≤ 3 * length plan + 10
  unfolding shown_plan
  plan_within =
      in_bytes _ _ _ _ _ _
      (ap (λ (n : ℕ). suc (suc n)) (length-append (volatile_tokens (fields_from (program_of plan).volatiles 1 31)) (main_first (program_of plan).procedures)))
      (volatiles_few (program_of plan).volatiles)
      (rw (total_is plan r.passes, count_is plan r.passes) at (main_few (counts_in (program_of plan).procedures) (program_of plan).procedures
      (right_program plan r.passes).each_procedure)) sized

  whole_length : length (header_tokens plan) + (length main + length (procedures_behind plan)) ≡ length (shown_plan (program_of plan))
  whole_length =
      let a = ap length (sym whole_is) ∙ length-append (header_tokens plan) (main ++ procedures_behind plan) in
      let b = length-append main (procedures_behind plan) in
      omega (arith, a, b)

  -- there is room for each part
  module _ (n : ℕ) (room : length (shown_plan (program_of plan)) ≤ n) where
    pub room_for_header : length (header_tokens plan) ≤ n
    room_for_header = omega (arith, whole_length)

    pub room_for_main : (k : ℕ) → k ≡ 0 + length (header_tokens plan) → k + length main ≤ n
    room_for_main k e = omega (arith, whole_length)

    pub room_for_others : (k l : ℕ) → k ≡ 0 + length (header_tokens plan) → l ≡ k + length main → l + length (procedures_behind plan) ≤ n
    room_for_others k l e f = omega (arith, whole_length)

  -- main, by the root that the code has
  pub main_wrote : {x : ℕ} {area area' : List ℕ} {at n : ℕ} → x ≡ root plan 0 → Wrote area at (shown loose (tree_in words x)) area' n
      → Wrote area at main area' n
  main_wrote e w = added_as (ap (λ (y : ℕ). shown loose (tree_in words y)) e ∙ ap (shown loose) (tree_same 0)) w

  -- ---- one procedure after the other

  -- procedure p is next
  pub record At (area₀ : List ℕ) (from p : ℕ) (area : List ℕ) (at : ℕ) : Type 0 where
    pub before : List ℕ
    pub whole : before ++ procedure_tokens p (rest_from plan p) ≡ procedures_behind plan
    pub wrote : Wrote area₀ from before area at

  pub at_first : (area : List ℕ) (from : ℕ) → At area from 1 area from
  unfolding procedures_behind
  at_first area from = record { before = []; whole = refl; wrote = added_none area from }

  module _ {area₀ area : List ℕ} {from p at : ℕ} (a : At area₀ from p area at) (h : p < Format.procedures plan) where
    pub room_for_one : from + length (procedures_behind plan) ≤ length area₀ → at + length (procedure_alone plan p) ≤ length area
    room_for_one k =
        let b = ap length (sym a.whole) ∙ length-append a.before (procedure_tokens p (rest_from plan p)) in
        let c = ap length (alone_more p h) ∙ length-append (procedure_alone plan p) (procedure_tokens (suc p) (rest_from plan (suc p))) in
        omega (arith, k, a.wrote.next, a.wrote.kept, b, c)

    pub at_next : {area' : List ℕ} {n : ℕ} → Wrote area at (procedure_alone plan p) area' n → At area₀ from (suc p) area' n
    at_next w =
        record {
          before = a.before ++ procedure_alone plan p;
          whole = append_assoc a.before (procedure_alone plan p) (procedure_tokens (suc p) (rest_from plan (suc p)))
              ∙ ap (λ (ts : List ℕ). a.before ++ ts) (sym (alone_more p h)) ∙ a.whole;
          wrote = added_more a.wrote w;
        }

  pub at_last : {area₀ area : List ℕ} {from p at : ℕ} → At area₀ from p area at → Format.procedures plan ≤ p → Wrote area₀ from (procedures_behind plan) area at
  at_last {p = p} a h =
      added_as (sym (append-nil a.before) ∙ ap (λ (ts : List ℕ). a.before ++ ts) (sym (ap (procedure_tokens p) (rest_none plan p h) ∙ tokens_none p))
      ∙ a.whole) a.wrote
