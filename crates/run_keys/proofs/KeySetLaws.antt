-- Laws of the code's key sets: each exact result is the set that it should be, and its words fit 64 bits. Assumes nothing.
use Prim.Native.Nat.{ℕ, zero, suc, ◌+◌, ◌-◌, ◌*◌, ◌/◌, ◌%◌, ◌^◌, ◌≤◌, ◌<◌}
use native.Mathlib.Nat.{mul_assoc, mul-add-div_right, mul-add-mod_self_right, zero-mul, add-zero, zero-add, mul_comm, pow-suc, one-mul, mod-eq_of_lt}
use native.Mathlib.Omega.{arith}
use mathlib.Core.Path.{◌≡◌, refl, sym, ap, ap₂, ◌∙◌}
use mathlib.Core.Bool.{Bool, true, ◌&&◌, not, and-false}
use mathlib.Core.List.{[], ◌∷◌}
use lib.Bits.{bit_and, bit_or, or_block, or_lt, or_comm, or_zero_l, or_add_and, and_le_r}
use lib.Count.{ones}
use lib.Dec.{eqb, eqb-suc-zero}
use lib.ListN.{get_or, set}
use lib.Pow as pow
use lib.Pow.{pow_pos, pow-lt, pow-add, shr-shr}
use borrow.Author.Tests.{ne_eqb}
use Rattle.run_keys.specs.declared.KeySet.{KeySet}
use Rattle.run_keys.specs.declared.Joined.{Joined}
use Rattle.run_keys.specs.Keys.{Keys, empty, singleton, holds, union, is_empty, count_below, count_new}
use Rattle.run_keys.specs.Inner.KeySet.{keys_of, word_of, words, of_words, empty_set, zero_set, holds_of, learn_of, join_of, new_in, new_of, joined_of, is_empty_of}
use Rattle.run_keys.specs.Inner.KeySet.{Made}
use Rattle.run_keys.specs.Inner.KeySet.{Joins, Told}
use Rattle.run_keys.proofs.CountLaws.{count_same, count_split, count_le, ones_new}

-- every word fits 64 bits, as the code's do
pub record Fits (s : KeySet) : Type 0 where
  pub w0 : s.w0 < 2 ^ 64
  pub w1 : s.w1 < 2 ^ 64
  pub w2 : s.w2 < 2 ^ 64
  pub w3 : s.w3 < 2 ^ 64

-- ---- the words as the code makes them

-- with the new keys of each word
pub joined_words : (s t : KeySet) (a b c d : ℕ) → a ≡ new_in t.w0 s.w0 → b ≡ new_in t.w1 s.w1 → c ≡ new_in t.w2 s.w2 → d ≡ new_in t.w3 s.w3
    → ◌≡◌ {A = Joined} (record {
      keys = record { w0 = bit_or s.w0 t.w0; w1 = bit_or s.w1 t.w1; w2 = bit_or s.w2 t.w2; w3 = bit_or s.w3 t.w3 };
      new = a + b + c + d;
    }) (joined_of s t)
unfolding join_of new_of
joined_words s t a b c d e f g h = ap (λ (n : ℕ). record { keys = join_of s t; new = n }) (sum (sum (sum e f) g) h)
  where
    sum : {x x' y y' : ℕ} → x ≡ x' → y ≡ y' → x + y ≡ x' + y'
    sum p q = ap₂ (λ (x y : ℕ). x + y) p q

-- `1u64 << (k % 64)` put into word q
pub learn_word :
    (s : KeySet) (k q : ℕ) → k / 64 ≡ q → of_words (set (words s) q (bit_or (get_or (words s) q 0) ((1 * 2 ^ (k % 64)) % 2 ^ 64))) ≡ learn_of s k
unfolding learn_of
learn_word s k q e =
    let shifted : (1 * 2 ^ (k % 64)) % 2 ^ 64 ≡ 2 ^ (k % 64) = rw one-mul (mod-eq_of_lt (pow-lt {i = k % 64} {j = 64} (omega arith))) in
    rw (e, shifted)

-- the bit of the word
pub holds_word : (s : KeySet) (k w : ℕ) → w ≡ word_of s k → eqb (w / 2 ^ (k % 64) % 2) 1 ≡ holds_of s k
unfolding holds_of
holds_word s k w e = ap (λ (x : ℕ). eqb (x / 2 ^ (k % 64) % 2) 1) e

or_empty : (a b : ℕ) → eqb (bit_or a b) 0 ≡ (eqb a 0 && eqb b 0)
or_empty zero b = ap (λ (m : ℕ). eqb m 0) (or_zero_l b)
or_empty (suc a) b = ne_eqb (bit_or (suc a) b) 0 (λ e. omega (arith, or_add_and (suc a) b, and_le_r (suc a) b))
    ∙ sym (ap (λ (x : Bool). x && eqb b 0) (eqb-suc-zero a))

-- all words tested at once
pub empty_words : (s : KeySet) → eqb (bit_or s.w0 (bit_or s.w1 (bit_or s.w2 s.w3))) 0 ≡ is_empty_of s
unfolding is_empty_of
empty_words s = simp or_empty

-- ---- a set as its keys below n, `low`, and its other keys, `high`

-- 2 ^ n as a multiple of 2 ^ suc j
pow_split : (n j : ℕ) → j < n → 2 ^ n ≡ 2 ^ (n - suc j) * 2 * 2 ^ j
pow_split n j h =
    let e : suc (n - suc j) + j ≡ n = omega arith in
    ap (λ (m : ℕ). 2 ^ m) (sym e) ∙ pow-add 2 (suc (n - suc j)) j ∙ ap (λ (m : ℕ). m * 2 ^ j) (pow-suc 2 (n - suc j))

holds_low : (n j high low : ℕ) → j < n → holds (high * 2 ^ n + low) j ≡ holds low j
unfolding holds
holds_low n j high low h =
    let b = 2 ^ (n - suc j) in
    let e : high * 2 ^ n ≡ high * b * 2 * 2 ^ j =
    ap (λ (m : ℕ). high * m) (pow_split n j h) ∙ sym (mul_assoc high (b * 2) (2 ^ j)) ∙ ap (λ (m : ℕ). m * 2 ^ j) (sym (mul_assoc high b 2)) in
    ap (λ (m : ℕ). eqb (m % 2) 1) (ap (λ (m : ℕ). (m + low) / 2 ^ j) e ∙ mul-add-div_right (pow_pos j) (high * b * 2) low)
    ∙ ap (λ (m : ℕ). eqb m 1) (mul-add-mod_self_right (high * b) 2 (low / 2 ^ j))

holds_high : (n j high low : ℕ) → low < 2 ^ n → holds (high * 2 ^ n + low) (n + j) ≡ holds high j
unfolding holds
holds_high n j high low l = ap (λ (m : ℕ). eqb (m % 2) 1) (sym (shr-shr (high * 2 ^ n + low) n j) ∙ ap (λ (m : ℕ). m / 2 ^ j) (pow.high high n l))

learn_low : (n j high low : ℕ) → j < n → low < 2 ^ n → union (singleton j) (high * 2 ^ n + low) ≡ high * 2 ^ n + union low (singleton j)
unfolding union
learn_low n j high low h l =
    let e : 2 ^ j ≡ 0 * 2 ^ n + 2 ^ j = sym (ap (λ (m : ℕ). m + 2 ^ j) (zero-mul (2 ^ n)) ∙ zero-add (2 ^ j)) in
    ap (λ (m : ℕ). bit_or m (high * 2 ^ n + low)) e
    ∙ or_block n 0 high (2 ^ j) low (pow-lt h) l
    ∙ ap₂ (λ (x y : ℕ). x * 2 ^ n + y) (or_zero_l high) (or_comm (2 ^ j) low)

learn_high : (n j high low : ℕ) → low < 2 ^ n → union (singleton (n + j)) (high * 2 ^ n + low) ≡ union (singleton j) high * 2 ^ n + low
unfolding union
learn_high n j high low l =
    let e : 2 ^ (n + j) ≡ 2 ^ j * 2 ^ n + 0 = pow-add 2 n j ∙ mul_comm (2 ^ n) (2 ^ j) ∙ sym (add-zero (2 ^ j * 2 ^ n)) in
    ap (λ (m : ℕ). bit_or m (high * 2 ^ n + low)) e
    ∙ or_block n (2 ^ j) high 0 low (pow_pos n) l
    ∙ ap (λ (m : ℕ). bit_or (2 ^ j) high * 2 ^ n + m) (or_zero_l low)

union_split : (n a b c d : ℕ) → b < 2 ^ n → d < 2 ^ n → union (a * 2 ^ n + b) (c * 2 ^ n + d) ≡ union a c * 2 ^ n + union b d
unfolding union
union_split n a b c d p q = or_block n a c b d p q

-- ---- the methods' results as sets

pub keys_empty : keys_of empty_set ≡ empty
unfolding keys_of
keys_empty = refl

pub keys_zero : keys_of zero_set ≡ singleton 0
unfolding keys_of
keys_zero = refl

-- words put together: the high ones over the low one
abbrev over : ℕ → ℕ → ℕ
over high low = high * 2 ^ 64 + low

-- the words from w1 on, and from w2 on
abbrev from1 : KeySet → ℕ
from1 s = over (over s.w3 s.w2) s.w1

abbrev from2 : KeySet → ℕ
from2 s = over s.w3 s.w2

pub keys_join : {s t : KeySet} → Fits s → Fits t → keys_of (join_of s t) ≡ union (keys_of s) (keys_of t)
unfolding keys_of join_of
keys_join {s} {t} p q =
    sym
    (union_split 64 (from1 s) s.w0 (from1 t) t.w0 p.w0 q.w0
    ∙ ap (λ (m : ℕ). over m (union s.w0 t.w0))
    (union_split 64 (from2 s) s.w1 (from2 t) t.w1 p.w1 q.w1
    ∙ ap (λ (m : ℕ). over m (union s.w1 t.w1)) (union_split 64 s.w3 s.w2 t.w3 t.w2 p.w2 q.w2)))

-- the new keys of a word, and those of the words over it
new_split : (n high low high' low' : ℕ) → low < 2 ^ 64 → low' < 2 ^ 64
    → count_below (λ k. holds (over high low) k && not (holds (over high' low') k)) (64 + n) ≡ new_in low low' + count_below
    (λ k. holds high k && not (holds high' k)) n
unfolding new_in
new_split n high low high' low' p q =
    count_split (λ k. holds (over high low) k && not (holds (over high' low') k)) 64 n
    ∙ ap₂ (λ (x y : ℕ). x + y)
    (count_same _ _ 64 (λ k l. ap₂ (λ (x y : Bool). x && not y) (holds_low 64 k high low l) (holds_low 64 k high' low' l)))
    (count_same _ _ n (λ k l. ap₂ (λ (x y : Bool). x && not y) (holds_high 64 k high low p) (holds_high 64 k high' low' q)))

-- of four words, from the lowest on
four : (a b c d : ℕ) {x y z : ℕ} → x ≡ a + y → y ≡ b + z → z ≡ c + d → a + b + c + d ≡ x
four a b c d e f g = omega (arith, e, f, g)

pub keys_new : {s t : KeySet} → Fits s → Fits t → new_of s t ≡ count_new (keys_of t) (keys_of s)
unfolding new_of new_in keys_of count_new
keys_new {s} {t} p q =
    four _ _ _ _ (new_split 192 (from1 t) t.w0 (from1 s) s.w0 q.w0 p.w0) (new_split 128 (from2 t) t.w1 (from2 s) s.w1 q.w1 p.w1)
    (new_split 64 t.w3 t.w2 s.w3 s.w2 q.w2 p.w2)

-- the new keys of a word, as the code counts them
pub word_new : (w v : ℕ) → w < 2 ^ 64 → v < 2 ^ 64 → ones (bit_and w ((2 ^ 64 - 1) - v)) ≡ new_in w v
unfolding new_in
word_new w v p q = ones_new 64 w v p q

pub new_in_le : (w v : ℕ) → new_in w v ≤ 64
unfolding new_in
new_in_le w v = count_le (λ k. holds w k && not (holds v k)) 64

module _ {s : KeySet} (k : ℕ) (h : k < 256) (f : Fits s) where
  -- the key's place in its word
  abbrev bit : ℕ
  bit = k % 64

  bit_small : bit < 64
  bit_small = omega arith

  pub keys_holds : holds_of s k ≡ holds (keys_of s) k
  unfolding holds_of keys_of
  keys_holds = go (k / 64) refl
    where
      at : (n : ℕ) → k ≡ n → holds (keys_of s) k ≡ holds (keys_of s) n
      at n e = ap (holds (keys_of s)) e

      go : (q : ℕ) → k / 64 ≡ q → holds (get_or (words s) q 0) bit ≡ holds (keys_of s) k
      go zero e = sym (at bit (omega arith) ∙ holds_low 64 bit (from1 s) s.w0 bit_small)
      go (suc zero) e = sym (at (64 + bit) (omega arith) ∙ holds_high 64 bit (from1 s) s.w0 f.w0 ∙ holds_low 64 bit (from2 s) s.w1 bit_small)
      go (suc (suc zero)) e =
          sym
          (at (64 + (64 + bit)) (omega arith)
          ∙ holds_high 64 (64 + bit) (from1 s) s.w0 f.w0
          ∙ holds_high 64 bit (from2 s) s.w1 f.w1
          ∙ holds_low 64 bit s.w3 s.w2 bit_small)
      go (suc (suc (suc zero))) e =
          sym
          (at (64 + (64 + (64 + bit))) (omega arith)
          ∙ holds_high 64 (64 + (64 + bit)) (from1 s) s.w0 f.w0
          ∙ holds_high 64 (64 + bit) (from2 s) s.w1 f.w1
          ∙ holds_high 64 bit s.w3 s.w2 f.w2)
      go (suc (suc (suc (suc q)))) e = absurd (omega arith)

  pub keys_learn : keys_of (learn_of s k) ≡ union (singleton k) (keys_of s)
  unfolding keys_of learn_of
  keys_learn = go (k / 64) refl
    where
      at : (n : ℕ) → k ≡ n → union (singleton k) (keys_of s) ≡ union (singleton n) (keys_of s)
      at n e = ap (λ (m : ℕ). union (singleton m) (keys_of s)) e

      go : (q : ℕ) → k / 64 ≡ q → keys_of (of_words (set (words s) q (union (get_or (words s) q 0) (singleton bit)))) ≡ union (singleton k) (keys_of s)
      go zero e = sym (at bit (omega arith) ∙ learn_low 64 bit (from1 s) s.w0 bit_small f.w0)
      go (suc zero) e =
          sym
          (at (64 + bit) (omega arith)
          ∙ learn_high 64 bit (from1 s) s.w0 f.w0
          ∙ ap (λ (m : ℕ). over m s.w0) (learn_low 64 bit (from2 s) s.w1 bit_small f.w1))
      go (suc (suc zero)) e =
          sym
          (at (64 + (64 + bit)) (omega arith)
          ∙ learn_high 64 (64 + bit) (from1 s) s.w0 f.w0
          ∙ ap (λ (m : ℕ). over m s.w0) (learn_high 64 bit (from2 s) s.w1 f.w1
          ∙ ap (λ (m : ℕ). over m s.w1) (learn_low 64 bit s.w3 s.w2 bit_small f.w2)))
      go (suc (suc (suc zero))) e =
          sym
          (at (64 + (64 + (64 + bit))) (omega arith)
          ∙ learn_high 64 (64 + (64 + bit)) (from1 s) s.w0 f.w0
          ∙ ap (λ (m : ℕ). over m s.w0)
          (learn_high 64 (64 + bit) (from2 s) s.w1 f.w1
          ∙ ap (λ (m : ℕ). over m s.w1) (learn_high 64 bit s.w3 s.w2 f.w2 ∙ ap (λ (m : ℕ). over m s.w2) (or_comm (2 ^ bit) s.w3))))
      go (suc (suc (suc (suc q)))) e = absurd (omega arith)

-- a set is empty where both parts are
over_empty : (high low : ℕ) → eqb (over high low) 0 ≡ (eqb low 0 && eqb high 0)
over_empty zero zero = refl
over_empty zero (suc low) = ne_eqb (over 0 (suc low)) 0 (λ e. omega arith) ∙ ap (λ (b : Bool). b && true) (sym (eqb-suc-zero low))
over_empty (suc high) low = ne_eqb (over (suc high) low) 0 (λ e. omega arith)
    ∙ sym (ap (λ (b : Bool). eqb low 0 && b) (eqb-suc-zero high) ∙ and-false (eqb low 0))

pub keys_is_empty : (s : KeySet) → is_empty_of s ≡ is_empty (keys_of s)
unfolding keys_of is_empty_of is_empty
keys_is_empty s =
    sym
    (over_empty (from1 s) s.w0
    ∙ ap (λ (b : Bool). eqb s.w0 0 && b) (over_empty (from2 s) s.w1 ∙ ap (λ (b : Bool). eqb s.w1 0 && b) (over_empty s.w3 s.w2)))

-- ---- the methods' results fit

pub fits_empty : Fits empty_set
fits_empty = record { w0 = omega arith; w1 = omega arith; w2 = omega arith; w3 = omega arith }

pub fits_zero : Fits zero_set
fits_zero = record { w0 = omega arith; w1 = omega arith; w2 = omega arith; w3 = omega arith }

union_lt : (a b : ℕ) → a < 2 ^ 64 → b < 2 ^ 64 → union a b < 2 ^ 64
unfolding union
union_lt a b p q = or_lt 64 a b p q

pub fits_join : {s t : KeySet} → Fits s → Fits t → Fits (join_of s t)
unfolding join_of
fits_join {s} {t} p q =
    record {
      w0 = union_lt s.w0 t.w0 p.w0 q.w0;
      w1 = union_lt s.w1 t.w1 p.w1 q.w1;
      w2 = union_lt s.w2 t.w2 p.w2 q.w2;
      w3 = union_lt s.w3 t.w3 p.w3 q.w3;
    }

pub fits_learn : {s : KeySet} (k : ℕ) → Fits s → Fits (learn_of s k)
unfolding learn_of
fits_learn {s} k f = go (k / 64)
  where
    small : 2 ^ (k % 64) < 2 ^ 64
    small = pow-lt {i = k % 64} {j = 64} (omega arith)

    go : (q : ℕ) → Fits (of_words (set (words s) q (union (get_or (words s) q 0) (singleton (k % 64)))))
    go zero = record { w0 = union_lt s.w0 (2 ^ (k % 64)) f.w0 small; w1 = f.w1; w2 = f.w2; w3 = f.w3 }
    go (suc zero) = record { w0 = f.w0; w1 = union_lt s.w1 (2 ^ (k % 64)) f.w1 small; w2 = f.w2; w3 = f.w3 }
    go (suc (suc zero)) = record { w0 = f.w0; w1 = f.w1; w2 = union_lt s.w2 (2 ^ (k % 64)) f.w2 small; w3 = f.w3 }
    go (suc (suc (suc zero))) = record { w0 = f.w0; w1 = f.w1; w2 = f.w2; w3 = union_lt s.w3 (2 ^ (k % 64)) f.w3 small }
    go (suc (suc (suc (suc q)))) = record { w0 = f.w0; w1 = f.w1; w2 = f.w2; w3 = f.w3 }

-- ---- a method's contract, from its exact result and the result's law

pub made : {r s : KeySet} {K : Keys} → r ≡ s → keys_of s ≡ K → Made r s K
made e l = record { exact = e; keys = ap keys_of e ∙ l }

pub joins : {r : Joined} {s t : KeySet} → r ≡ joined_of s t → Fits s → Fits t → Joins r s t
joins e p q = record { exact = e; keys = ap (λ (r : Joined). keys_of r.keys) e ∙ keys_join p q; new = ap (λ (r : Joined). r.new) e ∙ keys_new p q }

pub told : {r b h : Bool} → r ≡ b → b ≡ h → Told r b h
told e l = record { exact = e; keys = e ∙ l }
