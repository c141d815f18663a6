-- Marks one after the other, and the text that they make. Assumes nothing.
use Prim.Native.Nat.{ℕ, zero, suc, ◌+◌, ◌%◌, ◌≤◌, ◌<◌}
use native.Mathlib.Numerals.{add-one}
use native.Mathlib.Omega.{arith}
use native.Mathlib.Decide.{ℕ_discrete}
use mathlib.Core.Path.{◌≡◌, refl, sym, ap, ap₂, ◌∙◌}
use mathlib.Core.List.{List, [], ◌∷◌, ◌++◌, append_assoc}
use lib.ListN.{length, length-append, get_or, set}
use lib.Seq.{get_or-set_same, get_or-set_other}
use Rattle.plan_notation.specs.Tokens.{text_of}
use Rattle.plan_notation.specs.Layout.{laid_out}
use Rattle.plan_pen.specs.declared.Gap.{Gap}
use Rattle.plan_pen.specs.Inner.Pens.{gap_bytes}
use Rattle.plan_layout.specs.Inner.Marks.{gap_of, text_to, Marked}

module _ (ts : List ℕ) where
  -- a store at or behind a place leaves the text up to it as it is
  text_same : (ms : List ℕ) (i m n : ℕ) → n ≤ i → text_to ts (set ms i m) n ≡ text_to ts ms n
  unfolding text_to
  text_same ms i m zero h = refl
  text_same ms i m (suc n) h =
      ap₂ (λ (xs : List ℕ) (k : ℕ). xs ++ (gap_bytes (gap_of k) ++ text_of (get_or ts n 0))) (text_same ms i m n (omega arith))
      (get_or-set_other ms i n m 0 (λ e. absurd (omega arith)))

  -- one mark more
  pub text_more : (ms : List ℕ) (i m : ℕ) (g : Gap) → i < length ms → gap_of m ≡ g
      → text_to ts (set ms i m) (i + 1) ≡ (text_to ts ms i ++ gap_bytes g) ++ text_of (get_or ts i 0)
  unfolding text_to
  text_more ms i m g h e =
      ap (text_to ts (set ms i m)) (add-one i)
      ∙ ap₂ (λ (xs : List ℕ) (k : Gap). xs ++ (gap_bytes k ++ text_of (get_or ts i 0))) (text_same ms i m i (omega arith))
      (ap gap_of (get_or-set_same ms i m 0 h) ∙ e)
      ∙ sym (append_assoc (text_to ts ms i) (gap_bytes g) (text_of (get_or ts i 0)))

pub few_more : (ms : List ℕ) (i m : ℕ) → i < length ms → m % 64 ≤ 40 → ((k : ℕ) → k < i → get_or ms k 0 % 64 ≤ 40)
    → (k : ℕ) → k < i + 1 → get_or (set ms i m) k 0 % 64 ≤ 40
few_more ms i m h f all k l = go (ℕ_discrete k i)
  where
    go : Dec (k ≡ i) → get_or (set ms i m) k 0 % 64 ≤ 40
    go (yes e) = rw (e, get_or-set_same ms i m 0 h) f
    go (no n) = rw (get_or-set_other ms i k m 0 n) (all k (omega arith))

-- the text of one token more
pub text_next : (ts ms : List ℕ) (n : ℕ) → text_to ts ms (n + 1) ≡ text_to ts ms n ++ (gap_bytes (gap_of (get_or ms n 0)) ++ text_of (get_or ts n 0))
unfolding text_to
text_next ts ms n = ap (text_to ts ms) (add-one n)

-- it is no longer than the text of all
text_within : (ts ms : List ℕ) (n k : ℕ) → n ≤ k → length (text_to ts ms n) ≤ length (text_to ts ms k)
text_within ts ms n zero h = let e : n ≡ 0 = omega arith in omega (arith, ap (λ (m : ℕ). length (text_to ts ms m)) e)
text_within ts ms n (suc k) h = go (ℕ_discrete n (suc k)) (text_within ts ms n k)
  where
    go : Dec (n ≡ suc k) → (n ≤ k → length (text_to ts ms n) ≤ length (text_to ts ms k)) → length (text_to ts ms n) ≤ length (text_to ts ms (suc k))
    go (yes e) below = omega (arith, ap (λ (m : ℕ). length (text_to ts ms m)) e)
    go (no l) below = omega (
      arith,
      below (omega arith),
      ap length (text_next ts ms k),
      ap (λ (m : ℕ). length (text_to ts ms m)) (add-one k),
      length-append (text_to ts ms k) (gap_bytes (gap_of (get_or ms k 0)) ++ text_of (get_or ts k 0)),
    )

-- there is room for a token behind the text of those before it where there is room for all
pub text_room : (ts ms : List ℕ) (n : ℕ) → n < length ts → Marked ts ms
    → length (text_to ts ms n) + length (gap_bytes (gap_of (get_or ms n 0))) + length (text_of (get_or ts n 0)) ≤ length (laid_out ts)
text_room ts ms n h m =
    let g = gap_bytes (gap_of (get_or ms n 0)) in
    let t = text_of (get_or ts n 0) in
    omega (
      arith,
      ap length m.text,
      length-append (text_to ts ms (length ts)) (10 ∷ []),
      text_within ts ms (n + 1) (length ts) (omega arith),
      ap length (text_next ts ms n),
      length-append (text_to ts ms n) (g ++ t),
      length-append g t,
    )
