-- The fields of a mask, in parts. Assumes nothing.
use Prim.Native.Nat.{ℕ, zero, suc, ◌+◌, ◌-◌, ◌≤◌, ◌<◌}
use native.Mathlib.Nat.{add-zero, zero-add}
use native.Mathlib.Omega.{arith}
use mathlib.Core.Path.{◌≡◌, refl, sym, ap, ◌∙◌}
use mathlib.Core.Bool.{Bool, true, false, cond}
use mathlib.Core.List.{List, [], ◌∷◌, ◌++◌}
use lib.Dec.{eqb}
use lib.ListN.{length, length-append}
use borrow.Author.Tests.{ne_eqb}
use Rattle.plan_packed.specs.Format.{mask_bit, fields_from}
use Rattle.plan_notation.specs.Tokens.{volatile_word, new_word, opening, closing}
use Rattle.plan_notation.specs.Shown.{volatile_tokens}
use Rattle.plan_token_writer.specs.Inner.Items.{new_tokens}

-- some fields, and those behind them
pub fields_append : (m f n k : ℕ) → fields_from m f (n + k) ≡ fields_from m f n ++ fields_from m (f + n) k
unfolding fields_from
fields_append m f zero k = ap (fields_from m f) (zero-add k) ∙ ap (λ (g : ℕ). fields_from m g k) (sym (add-zero f))
fields_append m f (suc n) k =
    ap (fields_from m f) (suc_left n k)
    ∙ go (eqb (mask_bit m f) 1) (fields_append m (suc f) n k ∙ ap (λ (g : ℕ). fields_from m (suc f) n ++ fields_from m g k) (next f n))
  where
    suc_left : (n k : ℕ) → suc n + k ≡ suc (n + k)
    suc_left n k = omega arith

    next : (f n : ℕ) → suc f + n ≡ f + suc n
    next f n = omega arith

    go : (b : Bool) → fields_from m (suc f) (n + k) ≡ fields_from m (suc f) n ++ fields_from m (f + suc n) k
        → cond b (f ∷ fields_from m (suc f) (n + k)) (fields_from m (suc f) (n + k)) ≡ cond b (f ∷ fields_from m (suc f) n) (fields_from m (suc f) n)
        ++ fields_from m (f + suc n) k
    go true e = ap (λ (l : List ℕ). f ∷ l) e
    go false e = e

-- those up to one, and that one
pub one_field : (m f k : ℕ) → f ≤ k → fields_from m f (k - f) ++ fields_from m k 1 ≡ fields_from m f (k + 1 - f)
one_field m f k h =
    ap (λ (g : ℕ). fields_from m f (k - f) ++ fields_from m g 1) (here f k h) ∙ sym (fields_append m f (k - f) 1) ∙ ap (fields_from m f) (next f k h)
  where
    here : (f k : ℕ) → f ≤ k → k ≡ f + (k - f)
    here f k h = omega arith

    next : (f k : ℕ) → f ≤ k → k - f + 1 ≡ k + 1 - f
    next f k h = omega arith

-- they are among those up to 32
pub fields_within : (m f k : ℕ) → f ≤ k → k < 32 → length (fields_from m f (k - f)) + length (fields_from m k 1) ≤ length (fields_from m f (32 - f))
fields_within m f k l h =
    let e = ap (fields_from m f) (rest f k l h) ∙ fields_append m f (k + 1 - f) (31 - k) in
    let a = ap length e ∙ length-append (fields_from m f (k + 1 - f)) (fields_from m (f + (k + 1 - f)) (31 - k)) in
    let b = ap length (sym (one_field m f k l)) ∙ length-append (fields_from m f (k - f)) (fields_from m k 1) in
    omega (arith, a, b)
  where
    rest : (f k : ℕ) → f ≤ k → k < 32 → 32 - f ≡ k + 1 - f + (31 - k)
    rest f k l h = omega arith

-- none, at the start
pub no_field : (m f : ℕ) → fields_from m f (f - f) ≡ []
unfolding fields_from
no_field m f = ap (fields_from m f) (nothing f)
  where
    nothing : (f : ℕ) → f - f ≡ 0
    nothing f = omega arith

-- one field, by its bit
pub field_there : (m f : ℕ) → mask_bit m f ≡ 1 → fields_from m f 1 ≡ f ∷ []
unfolding fields_from
field_there m f e = rw e

pub field_not_there : (m f : ℕ) → (mask_bit m f ≡ 1 → ⊥) → fields_from m f 1 ≡ []
unfolding fields_from
field_not_there m f n = rw (ne_eqb (mask_bit m f) 1 n)

-- at most as many as are asked for
pub few_fields : (m f n : ℕ) → length (fields_from m f n) ≤ n
unfolding fields_from
few_fields m f zero = omega arith
few_fields m f (suc n) = go (eqb (mask_bit m f) 1) (few_fields m (suc f) n)
  where
    go : (b : Bool) → length (fields_from m (suc f) n) ≤ n → length (cond b (f ∷ fields_from m (suc f) n) (fields_from m (suc f) n)) ≤ suc n
    go true h = omega arith
    go false h = omega arith

-- the parts of a `new`
pub new_parts : (m : ℕ) → (new_word ∷ []) ++ ((opening ∷ []) ++ (fields_from m 0 32 ++ (closing ∷ []))) ≡ new_tokens m
unfolding new_tokens
new_parts m = refl

pub new_length : (m : ℕ) → length (new_tokens m) ≡ 3 + length (fields_from m 0 32)
unfolding new_tokens
new_length m = three (length (fields_from m 0 32)) (length (fields_from m 0 32 ++ (closing ∷ []))) (length-append (fields_from m 0 32) (closing ∷ []))
  where
    three : (x y : ℕ) → y ≡ x + 1 → suc (suc y) ≡ 3 + x
    three x y e = omega arith

-- a field that is not there is passed over
pub skip_field : (m f : ℕ) → f < 32 → (mask_bit m f ≡ 1 → ⊥) → fields_from m f (32 - f) ≡ fields_from m (f + 1) (32 - (f + 1))
unfolding fields_from
skip_field m f h n =
    ap (fields_from m f) (rest f h) ∙ rw (ne_eqb (mask_bit m f) 1 n) refl ∙ ap (λ (g : ℕ). fields_from m g (32 - (f + 1))) (next f)
  where
    rest : (f : ℕ) → f < 32 → 32 - f ≡ suc (32 - (f + 1))
    rest f h = omega arith

    next : (f : ℕ) → suc f ≡ f + 1
    next f = omega arith

-- with `volatile` before them
pub volatile_none : (m : ℕ) → fields_from m 1 31 ≡ [] → volatile_tokens (fields_from m 1 31) ≡ []
unfolding volatile_tokens
volatile_none m e = ap volatile_tokens e

pub volatile_some : (m r : ℕ) → fields_from m 1 31 ≡ fields_from m r (32 - r) → r < 32 → mask_bit m r ≡ 1
    → volatile_tokens (fields_from m 1 31) ≡ (volatile_word ∷ []) ++ fields_from m r (32 - r)
unfolding volatile_tokens fields_from
volatile_some m r e h b = ap volatile_tokens (e ∙ first) ∙ sym (ap (λ (l : List ℕ). volatile_word ∷ l) first)
  where
    rest : (f : ℕ) → f < 32 → 32 - f ≡ suc (31 - f)
    rest f h = omega arith

    first : fields_from m r (32 - r) ≡ r ∷ fields_from m (suc r) (31 - r)
    first = ap (fields_from m r) (rest r h) ∙ rw b refl
