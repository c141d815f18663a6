-- Arrows added to two areas, one by one. Assumes nothing.
use Prim.Native.Nat.{ℕ, zero, suc, ◌+◌, ◌-◌, ◌<◌, ◌≤◌}
use native.Mathlib.Omega.{arith}
use native.Mathlib.Numerals.{add-one}
use native.Mathlib.Decide.{ℕ_discrete, dec_lt}
use mathlib.Core.Path.{◌≡◌, refl, sym, ap, subst, ◌∙◌}
use mathlib.Core.Bool.{true, false}
use mathlib.Core.List.{List, [], ◌∷◌, ◌++◌, append_assoc, append-nil}
use lib.ListN.{length, set}
use lib.Seq.{get_or-set_same, get_or-set_other}
use Rattle.log_arrows.specs.Arrows.{pairs}
use Rattle.log_arrows.specs.Inner.Implied.{is_needed, arrows_to, arrows_below, Added}
use Rattle.log_arrows.proofs.NeededArrows.{passes→}

-- what is stored further on makes no difference
pairs_kept : (n m i j : ℕ) (from to : List ℕ) → n ≤ m → pairs n (set from m i) (set to m j) ≡ pairs n from to
pairs_kept zero m i j from to h = refl
pairs_kept (suc n) m i j from to h =
    rw (pairs_kept n m i j from to (omega arith), get_or-set_other from m n i 0 (λ e. omega arith), get_or-set_other to m n j 0 (λ e. omega arith))

pairs_more : (n i j : ℕ) (from to : List ℕ) → n < length from → n < length to → pairs (n + 1) (set from n i) (set to n j) ≡ pairs n from to ++ (i, j) ∷ []
pairs_more n i j from to a b = rw (add-one n, pairs_kept n n i j from to (omega arith), get_or-set_same from n i 0 a, get_or-set_same to n j 0 b)

pub added_start : (h : ℕ → ℕ → ℕ) (t j n : ℕ) (from to : List ℕ) → Added h t j 0 n from to n from to
unfolding arrows_to
added_start h t j n from to = record { all = sym (append-nil (pairs n from to)); most = omega arith; one_less = λ e. absurd (omega arith) }

pub needed_some : (h : ℕ → ℕ → ℕ) (t j u : ℕ) → is_needed h t j u ≡ true → 0 < h j u
needed_some h t j u e = omega (arith, (passes→ h t j u (rw e tt)).newest)

pub added_eight : (h : ℕ → ℕ → ℕ) (t j u n : ℕ) (from to : List ℕ) (m : ℕ) (from' to' : List ℕ) → u ≡ 8 → Added h t j u n from to m from' to'
    → Added h t j 8 n from to m from' to'
added_eight h t j u n from to m from' to' e A = subst (λ (x : ℕ). Added h t j x n from to m from' to') e A

module _ (h : ℕ → ℕ → ℕ) (t j u n : ℕ) (from to : List ℕ) (m : ℕ) (from' to' : List ℕ) (A : Added h t j u n from to m from' to') where
  pub added_room : is_needed h t j u ≡ true → t < 8 → u < 8 → m < n + 7
  added_room e a b = go (ℕ_discrete t u)
    where
      go : Dec (t ≡ u) → m < n + 7
      go (yes q) = absurd ((passes→ h t j u (rw e tt)).two_threads (sym q))
      go (no q) = split (dec_lt t u)
        where
          split : Dec (t < u) → m < n + 7
          split (yes x) = omega (arith, A.one_less x)
          split (no x) = omega (arith, A.most)

  pub added_needed : is_needed h t j u ≡ true → m < length from' → m < length to'
      → Added h t j (u + 1) n from to (m + 1) (set from' m (h j u - 1)) (set to' m j)
  unfolding arrows_to
  added_needed e a b =
      record {
        all = pairs_more m (h j u - 1) j from' to' a b ∙ rw (A.all, add-one u, e) (append_assoc (pairs n from to) (arrows_to h t j u) ((h j u - 1, j) ∷ []));
        most = omega (arith, A.most);
        one_less = less;
      }
    where
      less : t < u + 1 → m + 1 < n + (u + 1)
      less x = go (ℕ_discrete u t)
        where
          go : Dec (u ≡ t) → m + 1 < n + (u + 1)
          go (yes q) = absurd ((passes→ h t j u (rw e tt)).two_threads q)
          go (no q) = omega (arith, A.one_less (omega arith))

  pub added_skipped : is_needed h t j u ≡ false → Added h t j (u + 1) n from to m from' to'
  unfolding arrows_to
  added_skipped e =
      record {
        all = A.all ∙ rw (add-one u, e) (ap (λ (l : List (ℕ × ℕ)). pairs n from to ++ l) (sym (append-nil (arrows_to h t j u))));
        most = omega (arith, A.most);
        one_less = λ x. omega (arith, A.most);
      }

-- ---- record by record

pub below_start : (h : ℕ → ℕ → ℕ) (t : ℕ → ℕ) (from to : List ℕ) → pairs 0 from to ≡ arrows_below h t 0
unfolding arrows_below
below_start h t from to = refl

pub below_more : (h : ℕ → ℕ → ℕ) (t : ℕ → ℕ) (j own n : ℕ) (from to : List ℕ) (m : ℕ) (from' to' : List ℕ) → own ≡ t j → pairs n from to ≡ arrows_below h t j
    → Added h own j 8 n from to m from' to' → pairs m from' to' ≡ arrows_below h t (j + 1)
unfolding arrows_below
below_more h t j own n from to m from' to' q e A = A.all ∙ rw (q, e, add-one j)
