-- The procedures of a program that is held in arrays, written one after the other, and the whole plan. Assumes nothing.
use Prim.Native.Nat.{ℕ, zero, suc, ◌+◌, ◌-◌, ◌*◌, ◌≤◌, ◌<◌}
use native.Mathlib.Omega.{arith}
use mathlib.Core.Path.{◌≡◌, refl, sym, ap, ap₂, ◌∙◌}
use mathlib.Core.List.{List, [], ◌∷◌, ◌++◌}
use lib.ListN.{length, get_or}
use lib.Seq.{sets}
use Rattle.format.specs.Area.{overwrite}
use Rattle.format.specs.Version.{version_of}
use Rattle.plan_packed.specs.Syntax.{Procedure, Program}
use Rattle.plan_written.specs.Terms.{TermTree, terms_of, size}
use Rattle.plan_written.specs.Written.{bytes_of, size_of_all, version_number, header_of, written}
use Rattle.plan_written.proofs.Named.{size_pos}
use Rattle.plan_written.proofs.Passes.{version_back}
use Rattle.plan_written.proofs.ReadBack.{heads, header_is}
use Rattle.plan_tree_writer.specs.Inner.Left.{Room, Wrote, expressions_in}
use Rattle.plan_writer.specs.Inner.Held.{held_procedure, held_from, held_program, Writable}
use Rattle.plan_writer.proofs.Plans.{sizes_more, both, both_length, none_more, step_more, plan_whole}

module _ (words roots counts : List ℕ) where
  -- ---- the procedures from procedure p on

  from_more : (p n : ℕ) → held_from words roots counts p (suc n) ≡ held_procedure words roots counts p ∷ held_from words roots counts (suc p) n
  unfolding held_from
  from_more p n = refl

  from_none : (p : ℕ) → held_from words roots counts p 0 ≡ []
  unfolding held_from
  from_none p = refl

  from_length : (p n : ℕ) → length (held_from words roots counts p n) ≡ n
  from_length p zero = ap length (from_none p)
  from_length p (suc n) = ap length (from_more p n) ∙ ap suc (from_length (suc p) n)

  -- those that are left of n
  abbrev rest : ℕ → ℕ → List Procedure
  rest n p = held_from words roots counts p (n - p)

  rest_more : (n p : ℕ) → p < n → rest n p ≡ held_procedure words roots counts p ∷ rest n (suc p)
  rest_more n p h = let e : n - p ≡ suc (n - suc p) = omega arith in ap (held_from words roots counts p) e ∙ from_more p (n - suc p)

  rest_none : (n p : ℕ) → n ≤ p → rest n p ≡ []
  rest_none n p h = let e : n - p ≡ 0 = omega arith in ap (held_from words roots counts p) e ∙ from_none p

  rest_all : (n : ℕ) → rest n 0 ≡ held_from words roots counts 0 n
  rest_all n = let e : n - 0 ≡ n = omega arith in ap (held_from words roots counts 0) e

  parameters_are : (p : ℕ) → (held_procedure words roots counts p).parameters ≡ get_or counts p 0
  unfolding held_procedure
  parameters_are p = refl

  tree_is : (p : ℕ) → terms_of (held_procedure words roots counts p).body ≡ expressions_in words (get_or roots p 0)
  unfolding held_procedure
  tree_is p = refl

  -- the area once these are written, of which the first term has number k
  abbrev finished : ℕ → ℕ → ℕ → List ℕ → List ℕ
  finished n p k area = both (8 + 2 * p) (8 + 2 * n + 5 * k) k (rest n p) area

-- where the loop stands: procedure p is next, and its first term has number k
pub record At (words roots counts : List ℕ) (n terms : ℕ) (area₀ : List ℕ) (p k : ℕ) (area : List ℕ) : Type 0 where
  pub within : p ≤ n
  pub counted : k + size_of_all (rest words roots counts n p) ≡ terms
  pub same : finished words roots counts n p k area ≡ finished words roots counts n 0 0 area₀

module _ {v m n terms : ℕ} {words roots counts area' : List ℕ} (w : Writable v m n terms words roots counts area') where
  pub at_start : (area₀ : List ℕ) → At words roots counts n terms area₀ 0 0 area₀
  at_start area₀ =
      record {
        within = omega arith;
        counted = omega (arith, ap size_of_all (rest_all words roots counts n), w.sized);
        same = refl;
      }

  module _ {area₀ : List ℕ} {p k : ℕ} {area : List ℕ} (a : At words roots counts n terms area₀ p k area) where
    pub kept : length area ≡ length area₀
    kept =
        sym (both_length (8 + 2 * p) (8 + 2 * n + 5 * k) k (rest words roots counts n p) area)
        ∙ ap length a.same
        ∙ both_length (8 + 2 * 0) (8 + 2 * n + 5 * 0) 0 (rest words roots counts n 0) area₀

    pub at_end : n ≤ p → area ≡ finished words roots counts n 0 0 area₀
    at_end h =
        sym (none_more (8 + 2 * p) (8 + 2 * n + 5 * k) k area)
        ∙ ap (λ (ds : List Procedure). both (8 + 2 * p) (8 + 2 * n + 5 * k) k ds area) (sym (rest_none words roots counts n p h))
        ∙ a.same

    module _ (h : p < n) where
      sizes : k + (size (expressions_in words (get_or roots p 0)) + size_of_all (rest words roots counts n (suc p))) ≡ terms
      sizes =
          ap (λ (e : TermTree). k + (size e + size_of_all (rest words roots counts n (suc p)))) (sym (tree_is words roots counts p))
          ∙ ap (λ (i : ℕ). k + i) (sym (sizes_more (held_procedure words roots counts p) (rest words roots counts n (suc p))))
          ∙ ap (λ (ds : List Procedure). k + size_of_all ds) (sym (rest_more words roots counts n p h))
          ∙ a.counted

      pub number_inside : k < 1024
      number_inside = omega (arith, w.few_terms, sizes, size_pos (expressions_in words (get_or roots p 0)))

      pub room : {area₁ : List ℕ} → length area₀ ≡ length area' → length area₁ ≡ length area → Room (expressions_in words (get_or roots p 0)) (8 + 2 * n) k area₁
      room q e =
          record {
            numbered = omega (arith, w.few_terms, sizes);
            placed = omega (arith, sizes, w.long, kept);
          }

      pub next : {area₁ area₂ : List ℕ} {i : ℕ} → area₁ ≡ sets area (8 + 2 * p) (bytes_of 2 (get_or counts p 0 * 4096 + k))
          → Wrote (expressions_in words (get_or roots p 0)) (8 + 2 * n) k area₁ area₂ i → At words roots counts n terms area₀ (p + 1) i area₂
      next {area₁} {area₂} {i} e f =
          let d = held_procedure words roots counts p in
          let ds = rest words roots counts n (suc p) in
          let base = 8 + 2 * n in
          let succ : p + 1 ≡ suc p = omega arith in
          let place : 8 + 2 * (p + 1) ≡ 8 + 2 * p + 2 = omega arith in
          let put : area₁ ≡ sets area (8 + 2 * p) (bytes_of 2 (d.parameters * 4096 + k)) =
          e ∙ ap (λ (x : ℕ). sets area (8 + 2 * p) (bytes_of 2 (x * 4096 + k))) (sym (parameters_are words roots counts p)) in
          let wrote : Wrote (terms_of d.body) base k area₁ area₂ i = rw (tree_is words roots counts p) f in
          record {
            within = omega arith;
            counted = rw succ (omega (arith, f.next, sizes));
            same =
                ap (λ (x : ℕ). both x (base + 5 * i) i (rest words roots counts n (p + 1)) area₂) place
                ∙ ap (λ (x : ℕ). both (8 + 2 * p + 2) (base + 5 * i) i (rest words roots counts n x) area₂) succ
                ∙ step_more (8 + 2 * p) base k d ds area (omega (arith, from_length words roots counts (suc p) (n - suc p))) put wrote
                ∙ ap (λ (l : List Procedure). both (8 + 2 * p) (base + 5 * k) k l area) (sym (rest_more words roots counts n p h))
                ∙ a.same;
          }

  -- ---- the whole plan

  abbrev program : Program
  program = held_program v m n words roots counts

  procedures_are : program.procedures ≡ held_from words roots counts 0 n
  unfolding held_program
  procedures_are = refl

  version_is : program.version ≡ version_of v
  unfolding held_program
  version_is = refl

  mask_is : program.volatiles ≡ m
  unfolding held_program
  mask_is = refl

  count_is : length program.procedures ≡ n
  count_is = ap length procedures_are ∙ from_length words roots counts 0 n

  total_is : size_of_all program.procedures ≡ terms
  total_is = ap size_of_all procedures_are ∙ w.sized

  header_number : header_of program ≡ ((v * 64 + n) * 4096 + terms) * 1024
  header_number =
      let number : version_number program.version ≡ v = ap version_number version_is ∙ version_back v w.version_known in
      omega (arith, header_is program, count_is, total_is)

  pub whole : {area₁ area₂ : List ℕ} → area₁ ≡ sets area' 0 (bytes_of 4 (((v * 64 + n) * 4096 + terms) * 1024) ++ bytes_of 4 m)
      → area₂ ≡ finished words roots counts n 0 0 area₁ → area₂ ≡ overwrite (written program) area'
  whole {area₁} e f =
      let top : heads program ≡ bytes_of 4 (((v * 64 + n) * 4096 + terms) * 1024) ++ bytes_of 4 m =
      ap₂ (λ (x y : ℕ). bytes_of 4 x ++ bytes_of 4 y) header_number mask_is in
      f
      ∙ ap (λ (l : List Procedure). both 8 (8 + 2 * n + 5 * 0) 0 l area₁) (rest_all words roots counts n ∙ sym procedures_are)
      ∙ ap (both 8 (8 + 2 * n + 5 * 0) 0 program.procedures) (e ∙ ap (sets area' 0) (sym top))
      ∙ plan_whole program n area' count_is (omega (arith, total_is, w.long))
