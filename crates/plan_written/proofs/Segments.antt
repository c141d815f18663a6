-- The trees of a written plan, procedure by procedure: every term lies in one of them. Assumes nothing.
use Prim.Native.Nat.{ℕ, zero, suc, ◌+◌, ◌^◌, ◌≤◌, ◌<◌}
use native.Mathlib.Decide.{dec_lt}
use native.Mathlib.Omega.{arith}
use mathlib.Core.Path.{◌≡◌, refl, sym, ap, subst, ◌∙◌}
use mathlib.Core.Bool.{true≢false}
use mathlib.Core.List.{List, [], ◌∷◌}
use mathlib.Core.Option.{some}
use lib.Dec.{eqb}
use lib.ListN.{length, get_or, get_elem?, take}
use Rattle.plan_packed.specs.Syntax.{Procedure}
use Rattle.plan_packed.specs.Format.{procedures, terms, parameters, term_at}
use Rattle.plan_packed.specs.Refusals.{sum_below, one_if, times_in}
use Rattle.plan_packed.specs.Inner.Steps.{word_at}
use Rattle.plan_written.specs.Terms.{terms_of, size, words_from}
use Rattle.plan_written.specs.Written.{size_of_all, term_words}
use Rattle.plan_written.proofs.RightTrees.{RightTree}
use Rattle.plan_written.proofs.ReadBack.{tree_length, start_of}
use Rattle.plan_written.proofs.Placed.{Has, has_first, has_rest, Placed, placed}
use Rattle.plan_written.proofs.Fine.{Fine, all_fine}
use Rattle.plan_written.proofs.Named.{between, between_none, between_one, between_join, size_pos, tree_names}
use Rattle.plan_written.proofs.Sums.{sum_none, sum_cong, sum_first}

module _ (b : List ℕ) (counts : ℕ → ℕ) where
  -- each procedure's tree is right, and stands behind those before it
  abbrev pub AllPlaced : ℕ → List Procedure → Type 0
  AllPlaced n [] = Unit {0}
  AllPlaced n (d ∷ ds) =
      RightTree (procedures b) counts (terms_of d.body) × Placed b n (terms_of d.body) × AllPlaced (n + size (terms_of d.body)) ds

  -- procedure p's
  pub placed_at : (ds : List Procedure) (n p : ℕ) (d : Procedure) → AllPlaced n ds → get_elem? ds p ≡ some d
      → RightTree (procedures b) counts (terms_of d.body) × Placed b (start_of n ds p) (terms_of d.body) ×
      (start_of n ds p + size (terms_of d.body) ≤ n + size_of_all ds)
  unfolding size_of_all
  placed_at [] n p d a e = absurd (true≢false cc)
  placed_at (d ∷ ds) n zero d' a e =
      let same : d ≡ d' = cc in
      let z : n + 0 ≡ n = omega arith in
      rw (← same, z) (a.0, a.1, omega arith)
  placed_at (d ∷ ds) n (suc p) d' a e =
      let m = n + size (terms_of d.body) in
      let z : start_of n (d ∷ ds) (suc p) ≡ start_of m ds p = omega arith in
      let h = placed_at ds m p d' a.2 e in
      rw z (h.0, h.1, let k = h.2 in omega arith)

  -- every term passes checks 4 and 5
  pub all_terms_fine : ((m : ℕ) → m < procedures b → parameters b m ≡ counts m) → (ds : List Procedure) (n : ℕ) → AllPlaced n ds → n + size_of_all ds ≤ terms b
      → (u : ℕ) → n ≤ u → u < n + size_of_all ds → Fine b u
  unfolding size_of_all
  all_terms_fine agree [] n a f u h k = absurd (omega arith)
  all_terms_fine agree (d ∷ ds) n a f u h k =
      go (λ x y. all_terms_fine agree ds (n + size (terms_of d.body)) a.2 (omega arith) u x y) (dec_lt u (n + size (terms_of d.body)))
    where
      go : (n + size (terms_of d.body) ≤ u → u < n + size (terms_of d.body) + size_of_all ds → Fine b u) → Dec (u < n + size (terms_of d.body)) → Fine b u
      go later (yes l) = all_fine b counts agree (terms_of d.body) n a.0 (omega arith) a.1 u h l
      go later (no l) = later (omega (arith, l)) (omega arith)

  -- a term is named as often as it is there, by a parent or as a root
  pub all_names : (v : ℕ) (ds : List Procedure) (n : ℕ) → AllPlaced n ds
      → sum_below (length ds) (λ p. one_if (eqb (start_of n ds p) v)) + sum_below (n + size_of_all ds) (λ u. times_in (term_at b u) v) ≡ sum_below n
      (λ u. times_in (term_at b u) v) + between n (n + size_of_all ds) v
  unfolding size_of_all
  all_names v [] n a =
      let z : n + 0 ≡ n = omega arith in
      rw z (omega (arith, sum_none (λ p. one_if (eqb (start_of n [] p) v)), between_none n v))
  all_names v (d ∷ ds) n a =
      let s = size (terms_of d.body) in
      let m = n + s in
      let z : n + 0 ≡ n = omega arith in
      let e : n + (s + size_of_all ds) ≡ m + size_of_all ds = omega arith in
      let roots = sum_first (length ds) (λ p. one_if (eqb (start_of n (d ∷ ds) p) v)) in
      let first : one_if (eqb (start_of n (d ∷ ds) 0) v) ≡ between n (suc n) v = rw z (between_one n v) in
      let later = sum_cong (length ds) (λ p. one_if (eqb (start_of n (d ∷ ds) (suc p)) v)) (λ p. one_if (eqb (start_of m ds p) v))
      (λ p h. ap (λ (x : ℕ). one_if (eqb x v)) (omega arith)) in
      let rest = all_names v ds m a.2 in
      let own = tree_names (procedures b) counts b v (terms_of d.body) n a.0 a.1 in
      let some = size_pos (terms_of d.body) in
      let i = between_join n (suc n) m v (omega arith) (omega arith) in
      let j = between_join n m (m + size_of_all ds) v (omega arith) (omega arith) in
      rw e (omega arith)

  -- words that fit, in their places
  pub all_placed : (ws : List ℕ) (N : ℕ) → N ≤ 1024 → ((t : ℕ) → t < N → get_or ws t 0 < 2 ^ 40 → word_at b t ≡ get_or ws t 0) → (ds : List Procedure) (n : ℕ)
      → ((p : ℕ) (d : Procedure) → get_elem? ds p ≡ some d → RightTree (procedures b) counts (terms_of d.body)) → n + size_of_all ds ≤ N
      → Has ws n (term_words n ds) → AllPlaced n ds
  unfolding term_words size_of_all
  all_placed ws N few words [] n right f has = tt
  all_placed ws N few words (d ∷ ds) n right f has =
      let e = terms_of d.body in
      let m = n + size e in
      let here = right 0 d refl in (
        here,
        placed (procedures b) counts b ws N few words e n here (omega arith) (has_first ws n (words_from n e) (term_words m ds) has),
        all_placed ws N few words ds m (λ p d' h. right (suc p) d' h) (omega arith)
            (has_rest ws n m (words_from n e) (term_words m ds) (omega (arith, tree_length e n)) has),
      )
