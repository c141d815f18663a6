-- The procedures of an accepted plan, written one after the other. Assumes nothing.
use Prim.Native.Nat.{ℕ, zero, suc, ◌+◌, ◌-◌, ◌*◌, ◌≤◌, ◌<◌}
use native.Mathlib.Omega.{arith}
use mathlib.Core.Path.{◌≡◌, refl, sym, ap, ◌∙◌}
use mathlib.Core.List.{List, [], ◌∷◌}
use lib.ListN.{length}
use lib.Seq.{sets}
use Rattle.plan_packed.specs.Syntax.{Procedure}
use Rattle.plan_packed.specs.Format
use Rattle.plan_packed.specs.Format.{terms, parameters, root}
use Rattle.plan_packed.specs.Inner.Steps.{Right, Ordered}
use Rattle.plan_packed.specs.Trees.{procedure_at, procedures_from, program_of}
use Rattle.plan_packed.proofs.Accepted.{Accepted, accepted}
use Rattle.plan_packed.proofs.Passing.{all_right}
use Rattle.plan_packed.proofs.NodeOrder.{ordered, tree_is}
use Rattle.plan_written.specs.Terms.{TermTree, terms_of, size}
use Rattle.plan_written.specs.Written.{bytes_of, size_of_all}
use Rattle.plan_written.proofs.Named.{size_pos}
use Rattle.plan_written.proofs.Passes.{total_is, plan_length_lem, body_is, parameters_are}
use Rattle.plan_written.proofs.Sizes.{program_procedures}
use Rattle.plan_tree_writer.specs.Inner.Left.{Room, Wrote, expressions_in}
use Rattle.plan_writer.proofs.Plans.{sizes_more, both, both_length, none_more, step_more}
use Rattle.canonical.specs.Inner.Begun.{Ready, rest_from, trees_written}

-- an accepted plan has its header and its mask
pub long_plan : {plan words area : List ℕ} → Ready plan words area → 8 ≤ length plan
long_plan {plan} r = omega (arith, (accepted plan r.passes).length_right, plan_length_lem plan)

-- ---- the rest of a plan's procedures

from_more : (b : List ℕ) (p n : ℕ) → procedures_from b p (suc n) ≡ procedure_at b p ∷ procedures_from b (suc p) n
unfolding procedures_from
from_more b p n = refl

from_none : (b : List ℕ) (p : ℕ) → procedures_from b p 0 ≡ []
unfolding procedures_from
from_none b p = refl

from_length : (b : List ℕ) (p n : ℕ) → length (procedures_from b p n) ≡ n
from_length b p zero = ap length (from_none b p)
from_length b p (suc n) = ap length (from_more b p n) ∙ ap suc (from_length b (suc p) n)

rest_more : (b : List ℕ) (p : ℕ) → p < Format.procedures b → rest_from b p ≡ procedure_at b p ∷ rest_from b (suc p)
rest_more b p h = let e : Format.procedures b - p ≡ suc (Format.procedures b - suc p) = omega arith in ap (procedures_from b p) e
    ∙ from_more b p (Format.procedures b - suc p)

rest_none : (b : List ℕ) (p : ℕ) → Format.procedures b ≤ p → rest_from b p ≡ []
rest_none b p h = let e : Format.procedures b - p ≡ 0 = omega arith in ap (procedures_from b p) e ∙ from_none b p

pub rest_all : (b : List ℕ) → rest_from b 0 ≡ (program_of b).procedures
rest_all b = let e : Format.procedures b - 0 ≡ Format.procedures b = omega arith in ap (procedures_from b 0) e ∙ sym (program_procedures b)

-- ---- an accepted plan with its terms in the array

-- where the loop stands: procedure p is next, and its first term has number n
pub record At (plan area₀ : List ℕ) (p n : ℕ) (area : List ℕ) : Type 0 where
  pub within : p ≤ Format.procedures plan
  pub counted : n + size_of_all (rest_from plan p) ≡ terms plan
  pub same : trees_written plan p n area ≡ trees_written plan 0 0 area₀

module _ (plan words : List ℕ) {area₀ : List ℕ} (r : Ready plan words area₀) where
  facts : Accepted plan
  facts = accepted plan r.passes

  right : Right plan (Format.procedures plan) (terms plan)
  right =
      let a = all_right plan r.passes in
      record {
        headed = record {
          sized = record { procedures_are = refl; terms_are = refl; long = facts.length_right ∙ plan_length_lem plan };
          some_term = facts.some_term;
          few = facts.few_terms;
          procedures_right = a.six.right₃;
        };
        terms_right = a.six.right₄;
      }

  pub in_order : Ordered words
  in_order = ordered plan (Format.procedures plan) (terms plan) right words r.loaded

  pub few : Format.procedures plan ≤ 32
  few = facts.few_procedures

  pub sized : length plan ≡ 8 + 2 * Format.procedures plan + 5 * terms plan
  sized = facts.length_right ∙ plan_length_lem plan

  pub at_start : At plan area₀ 0 0 area₀
  at_start =
      record {
        within = omega arith;
        counted = omega (arith, ap size_of_all (rest_all plan), total_is plan r.passes);
        same = refl;
      }

  module _ {p n : ℕ} {area : List ℕ} (a : At plan area₀ p n area) where
    pub kept : length area ≡ length area₀
    kept =
        sym (both_length (8 + 2 * p) (8 + 2 * Format.procedures plan + 5 * n) n (rest_from plan p) area)
        ∙ ap length a.same
        ∙ both_length (8 + 2 * 0) (8 + 2 * Format.procedures plan + 5 * 0) 0 (rest_from plan 0) area₀

    pub at_end : Format.procedures plan ≤ p → area ≡ trees_written plan 0 0 area₀
    at_end h =
        sym (none_more (8 + 2 * p) (8 + 2 * Format.procedures plan + 5 * n) n area)
        ∙ ap (λ (ds : List Procedure). both (8 + 2 * p) (8 + 2 * Format.procedures plan + 5 * n) n ds area) (sym (rest_none plan p h))
        ∙ a.same

    module _ (h : p < Format.procedures plan) where
      tree_same : expressions_in words (root plan p) ≡ terms_of (procedure_at plan p).body
      tree_same = ap terms_of (tree_is plan (Format.procedures plan) (terms plan) right words r.loaded (root plan p))
          ∙ ap terms_of (sym (body_is plan r.passes p))

      sizes : n + (size (expressions_in words (root plan p)) + size_of_all (rest_from plan (suc p))) ≡ terms plan
      sizes =
          ap (λ (e : TermTree). n + (size e + size_of_all (rest_from plan (suc p)))) tree_same
          ∙ ap (λ (m : ℕ). n + m) (sym (sizes_more (procedure_at plan p) (rest_from plan (suc p))) ∙ ap size_of_all (sym (rest_more plan p h)))
          ∙ a.counted

      pub root_inside : root plan p < 1024
      root_inside = omega (arith, facts.few_terms, (facts.each_procedure p h).root_below)

      pub number_inside : n < 1024
      number_inside = omega (arith, facts.few_terms, sizes, size_pos (expressions_in words (root plan p)))

      pub parameters_small : parameters plan p < 16
      parameters_small = omega (arith, (facts.each_procedure p h).few_parameters)

      pub room : {area₁ : List ℕ} → length area₁ ≡ length area → Room (expressions_in words (root plan p)) (8 + 2 * Format.procedures plan) n area₁
      room e =
          record {
            numbered = omega (arith, facts.few_terms, sizes);
            placed = omega (arith, sizes, sized, r.long, kept);
          }

      pub next : {area₁ area₂ : List ℕ} {m : ℕ} → area₁ ≡ sets area (8 + 2 * p) (bytes_of 2 (parameters plan p * 4096 + n))
          → Wrote (expressions_in words (root plan p)) (8 + 2 * Format.procedures plan) n area₁ area₂ m → At plan area₀ (p + 1) m area₂
      next {area₁} {area₂} {m} e f =
          let d = procedure_at plan p in
          let ds = rest_from plan (suc p) in
          let base = 8 + 2 * Format.procedures plan in
          let succ : p + 1 ≡ suc p = omega arith in
          let place : 8 + 2 * (p + 1) ≡ 8 + 2 * p + 2 = omega arith in
          let put : area₁ ≡ sets area (8 + 2 * p) (bytes_of 2 (d.parameters * 4096 + n)) =
          e ∙ ap (λ (k : ℕ). sets area (8 + 2 * p) (bytes_of 2 (k * 4096 + n))) (sym (parameters_are plan r.passes p)) in
          let wrote : Wrote (terms_of d.body) base n area₁ area₂ m = rw tree_same at f in
          record {
            within = omega arith;
            counted = rw succ (omega (arith, f.next, sizes));
            same =
                ap (λ (k : ℕ). both k (base + 5 * m) m (rest_from plan (p + 1)) area₂) place
                ∙ ap (λ (k : ℕ). both (8 + 2 * p + 2) (base + 5 * m) m (rest_from plan k) area₂) succ
                ∙ step_more (8 + 2 * p) base n d ds area (omega (arith, from_length plan (suc p) (Format.procedures plan - suc p))) put wrote
                ∙ ap (λ (l : List Procedure). both (8 + 2 * p) (base + 5 * n) n l area) (sym (rest_more plan p h))
                ∙ a.same;
          }
