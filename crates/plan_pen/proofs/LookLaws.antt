-- What the looks of two tokens say of the gap between them, and of the depth: computed tests of all tokens and of all pairs. Assumes nothing.
use Prim.Native.Nat.{ℕ, zero, suc, ◌+◌, ◌*◌, ◌/◌, ◌%◌, ◌≤◌, ◌<◌}
use native.Mathlib.Nat.{zero-add, add-zero}
use native.Mathlib.Omega.{arith}
use mathlib.Core.Path.{◌≡◌, refl, sym, ap, ◌∙◌}
use mathlib.Core.Bool.{Bool, true, false, not}
use mathlib.Core.Option.{none}
use mathlib.Core.List.{List, [], ◌∷◌}
use lib.Bits.{bit_and}
use lib.Dec.{eqb, leb}
use lib.ListN.{get_or}
use Rattle.format.specs.Refusal.{lowest}
use Rattle.plan_notation.specs.Tokens.{text_end}
use Rattle.plan_notation.specs.Layout.{apart, breaks, begins_expression}
use Rattle.plan_notation.proofs.Tested.{passed}
use Rattle.plan_pen.specs.Inner.Looks.{ends, begins, behind, ahead, looks_from, look_rows}

-- ---- the row of a token

rows_at : (k n i : ℕ) → i < n → get_or (looks_from k n) i [] ≡ behind (k + i) ∷ ahead (k + i) ∷ []
unfolding looks_from
rows_at k zero i h = absurd (omega arith)
rows_at k (suc n) zero h = rw add-zero refl
rows_at k (suc n) (suc i) h =
    let e : suc k + i ≡ k + suc i = omega arith in rows_at (suc k) n i (omega arith) ∙ ap (λ (m : ℕ). behind m ∷ ahead m ∷ []) e

module _ (rows : List (List ℕ)) (e : rows ≡ look_rows) (t : ℕ) (h : t ≤ text_end) where
  row_at : get_or rows t [] ≡ behind t ∷ ahead t ∷ []
  unfolding look_rows
  row_at = ap (λ (l : List (List ℕ)). get_or l t []) e ∙ rows_at 0 70 t (omega arith) ∙ ap (λ (m : ℕ). behind m ∷ ahead m ∷ []) (zero-add t)

  pub behind_at : get_or (get_or rows t []) 0 0 ≡ behind t
  behind_at = ap (λ (l : List ℕ). get_or l 0 0) row_at

  pub ahead_at : get_or (get_or rows t []) 1 0 ≡ ahead t
  ahead_at = ap (λ (l : List ℕ). get_or l 1 0) row_at

-- ---- tests

abbrev same : Bool → Bool → Bool
same true y = y
same false y = not y

same_is : (x y : Bool) → same x y ≡ true → x ≡ y
same_is true y e = sym e
same_is false true e = e
same_is false false e = refl

-- the bits that two tokens have in common
abbrev pub common : ℕ → ℕ → ℕ
common s t = bit_and (behind s) (ahead t % 64)

-- a space, and a new line, by these bits
abbrev spaced : ℕ → ℕ → Bool
spaced s t = eqb (common s t % 8) 0

abbrev broken : ℕ → ℕ → Bool
broken s t = not (eqb (common s t / 8) 0)

-- two tests agree at a pair of tokens, in one number
abbrev agree : (ℕ → ℕ → Bool) → (ℕ → ℕ → Bool) → ℕ → Bool
agree p q m = same (p (m / 70) (m % 70)) (q (m / 70) (m % 70))

all_parted : lowest (λ (m : ℕ). not (agree spaced apart m)) 4900 ≡ none
unfolding behind ahead ends begins begins_expression apart lowest
all_parted = refl

all_broken : lowest (λ (m : ℕ). not (agree broken breaks m)) 4900 ≡ none
unfolding behind ahead ends begins begins_expression breaks lowest
all_broken = refl

agreed : (p q : ℕ → ℕ → Bool) {a b k n : ℕ} → a ≡ k → b ≡ n → same (p a b) (q a b) ≡ true → p k n ≡ q k n
agreed p q {a} {b} row column e = rw (← row, ← column) (same_is (p a b) (q a b) e)

module _ (s t : ℕ) (hs : s ≤ text_end) (ht : t < text_end) where
  pair_is : (p q : ℕ → ℕ → Bool) → lowest (λ (m : ℕ). not (agree p q m)) 4900 ≡ none → p s t ≡ q s t
  pair_is p q all =
      let m : ℕ = s * 70 + t in
      let row : m / 70 ≡ s = omega (arith, ht) in
      let column : m % 70 ≡ t = omega (arith, ht) in
      agreed p q row column (passed (agree p q) 4900 all m (omega (arith, hs, ht)))

  pub apart_is : eqb (common s t % 8) 0 ≡ apart s t
  apart_is = pair_is spaced apart all_parted

  pub breaks_is : not (eqb (common s t / 8) 0) ≡ breaks s t
  breaks_is = pair_is broken breaks all_broken

pub ends_is : (t : ℕ) → t < text_end → eqb (ahead t / 64 % 2) 1 ≡ ends t
unfolding ahead ends begins begins_expression lowest
ends_is t h = same_is _ _ (passed (λ (k : ℕ). same (eqb (ahead k / 64 % 2) 1) (ends k)) text_end refl t h)

pub begins_is : (t : ℕ) → t < text_end → leb 128 (ahead t) ≡ begins t
unfolding ahead ends begins begins_expression lowest
begins_is t h = same_is _ _ (passed (λ (k : ℕ). same (leb 128 (ahead k)) (begins k)) text_end refl t h)
