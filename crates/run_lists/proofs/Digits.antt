-- Codes and values as digits of a number: one more is put above those that are there. Assumes nothing.
use mathlib.Core.Path.{◌≡◌, sym, ap, ◌∙◌}
use mathlib.Core.List.{List}
use Prim.Native.Nat.{ℕ, suc, ◌+◌, ◌-◌, ◌*◌, ◌/◌, ◌%◌, ◌^◌, ◌<◌}
use native.Mathlib.Nat.{add_comm, add_assoc, add-mul, mul_assoc, lt_of_lt_of_le}
use native.Mathlib.Omega.{arith}
use lib.Arith.{digits_lt}
use lib.Pow.{pow-add, pow_mono, shl_exact}
use Rattle.run_lists.specs.Inner.Lists.{value_in, code_at, next_at, one_at, codes_from, rest_from, count_from, values_of}

-- a digit d of b bits above a number of i bits, and x above both
pub above : (a d x b i : ℕ) → a + (d + x * 2 ^ b) * 2 ^ i ≡ a + d * 2 ^ i + x * 2 ^ (b + i)
above a d x b i =
    ap (λ (n : ℕ). a + n) (add-mul d (x * 2 ^ b) (2 ^ i) ∙ ap (λ (n : ℕ). d * 2 ^ i + n) (mul_assoc x (2 ^ b) (2 ^ i) ∙ ap (λ (n : ℕ). x * n) (sym
    (pow-add 2 b i))))
    ∙ sym (add_assoc a (d * 2 ^ i) (x * 2 ^ (b + i)))

above_lt : (a d b i : ℕ) → a < 2 ^ i → d < 2 ^ b → a + d * 2 ^ i < 2 ^ (b + i)
above_lt a d b i h l = rw (add_comm a (d * 2 ^ i), pow-add 2 b i) (digits_lt {q = d} {m = 2 ^ b} {r = a} {c = 2 ^ i} l h)

-- ---- values, of five bits

pub value_below : (e c : ℕ) → value_in e c < 32
unfolding value_in
value_below e c = omega arith

pub value_shl : (v p : ℕ) → v < 32 → p < 8 → (v * 2 ^ (p * 5)) % 2 ^ 64 ≡ v * 2 ^ (p * 5)
value_shl v p h l = shl_exact 5 (p * 5) 64 h (omega arith)

fives : (p : ℕ) → (p + 1) * 5 ≡ 5 + p * 5
fives p = omega arith

pub value_lt : (a v p : ℕ) → a < 2 ^ (p * 5) → v < 32 → a + v * 2 ^ (p * 5) < 2 ^ ((p + 1) * 5)
value_lt a v p h l = rw (fives p) (above_lt a v 5 (p * 5) h l)

pub value_fits : (a v p : ℕ) → a < 2 ^ (p * 5) → v < 32 → p < 8 → a + v * 2 ^ (p * 5) < 2 ^ 40
value_fits a v p h l k = lt_of_lt_of_le (value_lt a v p h l) (pow_mono {i = (p + 1) * 5} {j = 40} (omega (arith, k)))

pub value_more : (a p e c : ℕ) → p < 8
    → a + value_in e (c % 64) * 2 ^ (p * 5) + values_of (8 - (p + 1)) e (c / 64) * 2 ^ ((p + 1) * 5) ≡ a + values_of (8 - p) e c * 2 ^ (p * 5)
unfolding values_of
value_more a p e c h =
    let q : 8 - p ≡ suc (8 - (p + 1)) = omega arith in
    rw (fives p, q) (sym (above a (value_in e (c % 64)) (values_of (8 - (p + 1)) e (c / 64)) 5 (p * 5)))

-- ---- codes, of six bits

pub code_shl : (d p : ℕ) → d < 64 → p < 8 → (d * 2 ^ (p * 6)) % 2 ^ 64 ≡ d * 2 ^ (p * 6)
code_shl d p h l = shl_exact 6 (p * 6) 64 h (omega arith)

sixes : (p : ℕ) → (p + 1) * 6 ≡ 6 + p * 6
sixes p = omega arith

pub code_lt : (a d p : ℕ) → a < 2 ^ (p * 6) → d < 64 → a + d * 2 ^ (p * 6) < 2 ^ ((p + 1) * 6)
code_lt a d p h l = rw (sixes p) (above_lt a d 6 (p * 6) h l)

pub code_fits : (a d p : ℕ) → a < 2 ^ (p * 6) → d < 64 → p < 8 → a + d * 2 ^ (p * 6) < 2 ^ 48
code_fits a d p h l k = lt_of_lt_of_le (code_lt a d p h l) (pow_mono {i = (p + 1) * 6} {j = 48} (omega (arith, k)))

module _ (ws : List ℕ) (t p : ℕ) (h : p < 8) where
  more : 8 - p ≡ suc (8 - (p + 1))
  more = omega (arith, h)

  pub code_more : (a x : ℕ) → a + code_at ws t * 2 ^ (p * 6) + codes_from (8 - (p + 1)) ws (next_at ws t) x * 2 ^ ((p + 1) * 6) ≡ a + codes_from
      (8 - p) ws t x * 2 ^ (p * 6)
  unfolding codes_from
  code_more a x = rw (sixes p, more) (sym (above a (code_at ws t) (codes_from (8 - (p + 1)) ws (next_at ws t) x) 6 (p * 6)))

  pub rest_more : rest_from (8 - (p + 1)) ws (next_at ws t) ≡ rest_from (8 - p) ws t
  unfolding rest_from
  rest_more = rw more

  pub count_more : (n : ℕ) → n + one_at ws t + count_from (8 - (p + 1)) ws (next_at ws t) ≡ n + count_from (8 - p) ws t
  unfolding count_from
  count_more n = rw more (add_assoc n (one_at ws t) (count_from (8 - (p + 1)) ws (next_at ws t)))
