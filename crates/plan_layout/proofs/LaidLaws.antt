-- The text of some tokens from a place on: a gap, a token, and the rest; or the last line feed. Assumes nothing.
use Prim.Native.Nat.{ℕ, suc, ◌+◌, ◌≤◌, ◌<◌}
use native.Mathlib.Numerals.{add-one}
use native.Mathlib.Omega.{arith}
use mathlib.Core.Path.{◌≡◌, refl, sym, ap, ◌∙◌}
use mathlib.Core.Bool.{Bool, true, false, cond}
use mathlib.Core.List.{List, [], ◌∷◌, ◌++◌, append_assoc}
use lib.ListN.{length, length-append, length-replicate, get_or, drop, drop_of_length-le, replicate}
use lib.Seq.{drop-cons}
use Rattle.plan_notation.specs.Tokens.{text_of}
use Rattle.plan_notation.specs.Layout.{Pen, pen_after, laid_from}
use Rattle.plan_pen.specs.declared.Gap.{Gap}
use Rattle.plan_pen.specs.Inner.Pens.{gap_bytes, Parts}

-- a gap is short
pub gap_short : (g : Gap) → g.spaces ≤ 40 → length (gap_bytes g) ≤ 41
unfolding gap_bytes
gap_short g h = by g.feed
  where
    by : (b : Bool) → length {A = ℕ} (cond b (10 ∷ replicate g.spaces 32) (replicate g.spaces 32)) ≤ 41
    by true = omega (arith, length-replicate {A = ℕ} g.spaces 32)
    by false = omega (arith, length-replicate {A = ℕ} g.spaces 32)

-- with a line feed and without
pub gap_feed : (g : Gap) → g.feed ≡ true → gap_bytes g ≡ 10 ∷ replicate g.spaces 32
unfolding gap_bytes
gap_feed g f = simp f

pub gap_plain : (g : Gap) → g.feed ≡ false → gap_bytes g ≡ replicate g.spaces 32
unfolding gap_bytes
gap_plain g f = simp f

module _ (ts : List ℕ) (i : ℕ) (p : Pen) where
  module _ (h : i < length ts) (g : Gap) (q : Parts p (get_or ts i 0) g) (p' : Pen) (e : p' ≡ pen_after p (get_or ts i 0)) where
    pub laid_one : laid_from p (drop i ts) ≡ gap_bytes g ++ (text_of (get_or ts i 0) ++ laid_from p' (drop (i + 1) ts))
    unfolding laid_from
    laid_one =
        ap (laid_from p) (drop-cons ts i 0 h)
        ∙ ap (λ (xs : List ℕ). xs ++ (text_of (get_or ts i 0) ++ laid_from (pen_after p (get_or ts i 0)) (drop (suc i) ts))) (sym q.bytes)
        ∙ rw (e, add-one) refl

    pub laid_length : length (laid_from p (drop i ts)) ≡ length (gap_bytes g) + length (text_of (get_or ts i 0)) + length (laid_from p' (drop (i + 1) ts))
    laid_length =
        let rest = laid_from p' (drop (i + 1) ts) in
        omega (arith, ap length laid_one, length-append (gap_bytes g) (text_of (get_or ts i 0) ++ rest), length-append (text_of (get_or ts i 0)) rest)

    -- behind others
    pub laid_on : (whole done : List ℕ) → whole ≡ done ++ laid_from p (drop i ts)
        → whole ≡ ((done ++ gap_bytes g) ++ text_of (get_or ts i 0)) ++ laid_from p' (drop (i + 1) ts)
    laid_on whole done r =
        r
        ∙ ap (λ (xs : List ℕ). done ++ xs) laid_one
        ∙ sym (append_assoc done (gap_bytes g) _)
        ∙ sym (append_assoc (done ++ gap_bytes g) (text_of (get_or ts i 0)) _)

  -- there is room for the gap and the token where there is room for all
  pub room : i < length ts → (g : Gap) → Parts p (get_or ts i 0) g → (whole done : List ℕ) → whole ≡ done ++ laid_from p (drop i ts)
      → length done + length (gap_bytes g) + length (text_of (get_or ts i 0)) ≤ length whole
  room h g q whole done r = omega (arith, ap length r, length-append done (laid_from p (drop i ts)), laid_length h g q _ refl)

  pub laid_none : length ts ≤ i → laid_from p (drop i ts) ≡ 10 ∷ []
  unfolding laid_from
  laid_none h = ap (laid_from p) (drop_of_length-le ts h)
