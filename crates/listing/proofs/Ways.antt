-- Ways down a tree: schedules each of whose picks can follow the picks before it, and the complete ones among them, which cannot be extended. What can follow
-- is any test. Here are the steps by which the least complete way above a given one is found. Assumes nothing.
use Prim.Native.Nat.{ℕ, suc, ◌+◌, ◌≤◌, ◌<◌}
use native.Mathlib.Omega.{arith}
use native.Mathlib.Decide.{ℕ_discrete, dec_lt}
use mathlib.Core.Path.{◌≡◌, sym, ap, ◌∙◌, subst as along}
use mathlib.Core.Bool.{Bool, true, false, true≢false}
use mathlib.Core.List.{List, [], ◌∷◌, ◌++◌}
use mathlib.Core.Logic.{◌⊎◌, inl, inr}
use lib.ListN.{length, length-append, get_or, take, get_or-append}
use lib.Seq.{take-append_seam, take-append-le, get_or-append_seam}
use Rattle.listing.specs.Order.{Before, AtMost}
use Rattle.listing.specs.Inner.Ways.{Way, Complete}
use Rattle.listing.proofs.Order.{Longer, Higher, higher_before, higher_or_longer, higher_here, higher_than_more, higher_at_last, at_most_more}

module _ (can : List ℕ → ℕ → Bool) where
  pub no_picks : Way can []
  no_picks = record { of_eight = λ i h. absurd (omega arith); follows = λ i h. absurd (omega arith) }

  pub one_more_lem : (ps : List ℕ) (p : ℕ) → Way can ps → p < 8 → can ps p ≡ true → Way can (ps ++ (p ∷ []))
  one_more_lem ps p w b e = record { of_eight = λ i h. eight i h (dec_lt i (length ps)); follows = λ i h. follow i h (dec_lt i (length ps)) }
    where
      last : (i : ℕ) → i < length (ps ++ (p ∷ [])) → (i < length ps → ⊥) → i ≡ length ps
      last i h k = omega (arith, h, k, length-append ps (p ∷ []))

      eight : (i : ℕ) → i < length (ps ++ (p ∷ [])) → Dec (i < length ps) → get_or (ps ++ (p ∷ [])) i 0 < 8
      eight i h (yes k) = along (λ (x : ℕ). x < 8) (sym (get_or-append ps (p ∷ []) 0 i k)) (w.of_eight i k)
      eight i h (no k) = along (λ (x : ℕ). x < 8) (sym (ap (λ (j : ℕ). get_or (ps ++ (p ∷ [])) j 0) (last i h k) ∙ get_or-append_seam ps p [] 0)) b

      follow : (i : ℕ) → i < length (ps ++ (p ∷ [])) → Dec (i < length ps) → can (take i (ps ++ (p ∷ []))) (get_or (ps ++ (p ∷ [])) i 0) ≡ true
      follow i h (yes k) =
          ap (λ (l : List ℕ). can l (get_or (ps ++ (p ∷ [])) i 0)) (take-append-le i ps (p ∷ []) (omega arith))
          ∙ ap (can (take i ps)) (get_or-append ps (p ∷ []) 0 i k) ∙ w.follows i k
      follow i h (no k) =
          ap (λ (j : ℕ). can (take j (ps ++ (p ∷ []))) (get_or (ps ++ (p ∷ [])) j 0)) (last i h k)
          ∙ ap (λ (l : List ℕ). can l (get_or (ps ++ (p ∷ [])) (length ps) 0)) (take-append_seam ps (p ∷ []))
          ∙ ap (can ps) (get_or-append_seam ps p [] 0) ∙ e

  -- a pick of a way, and that it can follow
  module _ (ps : List ℕ) (p : ℕ) (t : List ℕ) (w : Way can (ps ++ (p ∷ t))) where
    inside : length ps < length (ps ++ (p ∷ t))
    inside = omega (arith, length-append ps (p ∷ t))

    pub pick_of_eight : p < 8
    pick_of_eight = along (λ (x : ℕ). x < 8) (get_or-append_seam ps p t 0) (w.of_eight (length ps) inside)

    pub pick_follows : can ps p ≡ true
    pick_follows =
        sym (ap (λ (l : List ℕ). can l (get_or (ps ++ (p ∷ t)) (length ps) 0)) (take-append_seam ps (p ∷ t)) ∙ ap (can ps) (get_or-append_seam ps p t 0))
        ∙ w.follows (length ps) inside

  -- the first picks of a way
  pub first_picks : (ps t : List ℕ) → Way can (ps ++ t) → Way can ps
  first_picks ps t w =
      record {
        of_eight = λ i h. along (λ (x : ℕ). x < 8) (get_or-append ps t 0 i h) (w.of_eight i (longer i h));
        follows = λ i h.
            sym (ap (λ (l : List ℕ). can l (get_or (ps ++ t) i 0)) (take-append-le i ps t (omega arith)) ∙ ap (can (take i ps)) (get_or-append ps t 0 i h))
            ∙ w.follows i (longer i h);
      }
    where
      longer : (i : ℕ) → i < length ps → i < length (ps ++ t)
      longer i h = omega (arith, length-append ps t)

  -- picks that go on with the lowest pick from `from` on are at most those that go on with any of these
  least_with : (ps : List ℕ) (from q : ℕ) → ((k : ℕ) → from ≤ k → k < q → can ps k ≡ false)
      → (r : ℕ) (t : List ℕ) → from ≤ r → Way can (ps ++ (r ∷ t)) → AtMost (ps ++ (q ∷ [])) (ps ++ (r ∷ t))
  least_with ps from q low r t h w = by (dec_lt r q) (ℕ_discrete q r)
    where
      by : Dec (r < q) → Dec (q ≡ r) → AtMost (ps ++ (q ∷ [])) (ps ++ (r ∷ t))
      by (yes k) d = absurd (true≢false (sym (pick_follows ps r t w) ∙ low r h k))
      by (no k) (yes e) = along (λ (x : ℕ). AtMost (ps ++ (q ∷ [])) (ps ++ (x ∷ t))) e (at_most_more ps q t)
      by (no k) (no e) = inr (higher_before (ps ++ (q ∷ [])) (ps ++ (r ∷ t)) (higher_here ps q r [] t (omega (arith, k, e))))

  module _ {n : ℕ} where
    -- nothing follows a complete way, within the bound
    shut : (ps : List ℕ) → Complete can n ps → length ps < n → (p : ℕ) → p < 8 → can ps p ≡ true → ⊥
    shut ps x h = by x.ends
      where
        by : (length ps ≡ n) ⊎ ((p : ℕ) → p < 8 → can ps p ≡ false) → (p : ℕ) → p < 8 → can ps p ≡ true → ⊥
        by (inl e) p b t = omega arith
        by (inr k) p b t = true≢false (sym t ∙ k p b)

    pub no_longer : (ps rs : List ℕ) → Complete can n ps → Complete can n rs → Longer ps rs → ⊥
    no_longer ps rs x y (r, t, e) =
        let z : Complete can n (ps ++ (r ∷ t)) = along (Complete can n) e y in
        let h : length ps < n = omega (arith, z.at_most, length-append ps (r ∷ t)) in
        shut ps x h r (pick_of_eight ps r t z.way) (pick_follows ps r t z.way)

    -- ---- going on: the lowest pick that can follow

    pub go_on_lem : (ps : List ℕ) (q : ℕ) → length ps < n → q < 8 → can ps q ≡ true → ((k : ℕ) → k < q → can ps k ≡ false)
        → (rs : List ℕ) → Complete can n rs → AtMost ps rs → AtMost (ps ++ (q ∷ [])) rs
    go_on_lem ps q h b e low rs y (inl d) = absurd (shut ps (along (Complete can n) (sym d) y) h q b e)
    go_on_lem ps q h b e low rs y (inr k) = by (higher_or_longer ps rs k)
      where
        by : Higher ps rs ⊎ Longer ps rs → AtMost (ps ++ (q ∷ [])) rs
        by (inl z) = inr (higher_before (ps ++ (q ∷ [])) rs (higher_than_more ps (q ∷ []) rs z))
        by (inr (r, t, d)) =
            along (AtMost (ps ++ (q ∷ []))) (sym d)
            (least_with ps 0 q (λ j u v. low j v) r t (omega arith) (along (Way can) d y.way))

    -- ---- going back: nothing above can follow, or the lowest above

    pub back_start : (ps : List ℕ) → Complete can n ps → (rs : List ℕ) → Complete can n rs → Before ps rs → Higher ps rs
    back_start ps x rs y h = by (higher_or_longer ps rs h)
      where
        by : Higher ps rs ⊎ Longer ps rs → Higher ps rs
        by (inl z) = z
        by (inr z) = absurd (no_longer ps rs x y z)

    module _ (ps : List ℕ) (p : ℕ) (rs : List ℕ) (y : Complete can n rs) (h : Higher (ps ++ (p ∷ [])) rs) where
      pub go_back : ((k : ℕ) → p < k → k < 8 → can ps k ≡ false) → Higher ps rs
      go_back none = by (higher_at_last ps p rs h)
        where
          by : Higher ps rs ⊎ ((r : ℕ) × (t : List ℕ) × (p < r) × (rs ≡ ps ++ (r ∷ t))) → Higher ps rs
          by (inl z) = z
          by (inr (r, t, k, d)) =
              let w : Way can (ps ++ (r ∷ t)) = along (Way can) d y.way in
              absurd (true≢false (sym (pick_follows ps r t w) ∙ none r k (pick_of_eight ps r t w)))

      pub turn : (q : ℕ) → ((k : ℕ) → p < k → k < q → can ps k ≡ false) → AtMost (ps ++ (q ∷ [])) rs
      turn q low = by (higher_at_last ps p rs h)
        where
          by : Higher ps rs ⊎ ((r : ℕ) × (t : List ℕ) × (p < r) × (rs ≡ ps ++ (r ∷ t))) → AtMost (ps ++ (q ∷ [])) rs
          by (inl z) = inr (higher_before (ps ++ (q ∷ [])) rs (higher_than_more ps (q ∷ []) rs z))
          by (inr (r, t, k, d)) = along (AtMost (ps ++ (q ∷ []))) (sym d) (least_with ps (suc p) q (λ j u v. low j u v) r t k (along (Way can) d y.way))
