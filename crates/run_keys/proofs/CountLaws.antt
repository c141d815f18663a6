-- Laws of counted keys: a set's size, the keys that are new to it, and the ones of a word. Assumes nothing.
use Prim.Native.Nat.{ℕ, zero, suc, ◌+◌, ◌-◌, ◌*◌, ◌/◌, ◌%◌, ◌^◌, ◌≤◌, ◌<◌, min}
use native.Mathlib.Nat.{add-suc, pow-suc, mod-lt, zero-lt-suc}
use native.Mathlib.Omega.{arith}
use mathlib.Core.Path.{◌≡◌, refl, sym, ap, ap₂, ◌∙◌}
use mathlib.Core.Bool.{Bool, true, false, cond, ◌&&◌, ◌||◌, not}
use lib.Bits.{bit_and, and_step, and_zero_l}
use lib.Count.{ones, ones_step}
use lib.Dec.{eqb}
use Rattle.run_keys.specs.Keys.{Keys, holds, union, count_below, size, count_new}
use Rattle.run_keys.proofs.KeyLaws.{holds_zero, holds_suc, holds_union}

-- ---- counts of what passes a test

-- one more, or none
abbrev one : Bool → ℕ
one b = cond b 1 0

step : (b : Bool) (n : ℕ) → cond b (suc n) n ≡ one b + n
step true n = omega arith
step false n = omega arith

pub count_suc : (h : ℕ → Bool) (n : ℕ) → count_below h (suc n) ≡ one (h n) + count_below h n
unfolding count_below
count_suc h n = step (h n) (count_below h n)

pub count_same : (f h : ℕ → Bool) (n : ℕ) → ((k : ℕ) → k < n → f k ≡ h k) → count_below f n ≡ count_below h n
unfolding count_below
count_same f h zero e = refl
count_same f h (suc n) e = ap₂ (λ (b : Bool) (m : ℕ). cond b (suc m) m) (e n (omega arith)) (count_same f h n (λ k l. e k (omega arith)))

one_le : (b : Bool) → one b ≤ 1
one_le true = omega arith
one_le false = omega arith

pub count_le : (h : ℕ → Bool) (n : ℕ) → count_below h n ≤ n
unfolding count_below
count_le h zero = omega arith
count_le h (suc n) = omega (arith, count_suc h n, count_le h n, one_le (h n))

pub count_none : (n : ℕ) → count_below (λ k. false) n ≡ 0
unfolding count_below
count_none zero = refl
count_none (suc n) = count_none n

-- the first m, and the others
pub count_split : (h : ℕ → Bool) (m n : ℕ) → count_below h (m + n) ≡ count_below h m + count_below (λ k. h (m + k)) n
unfolding count_below
count_split h m zero = ap (count_below h) (let e : m + 0 ≡ m = omega arith in e) ∙ (let e : count_below h m ≡ count_below h m + 0 = omega arith in e)
count_split h m (suc n) =
    ap (count_below h) (add-suc m n)
    ∙ (let e : count_below h (suc (m + n)) ≡ count_below h m + count_below (λ k. h (m + k)) (suc n) =
    omega (arith, count_suc h (m + n), count_suc (λ k. h (m + k)) n, count_split h m n) in e)

-- key 0, and the later keys
count_first : (h : ℕ → Bool) (n : ℕ) → count_below h (suc n) ≡ one (h 0) + count_below (λ k. h (suc k)) n
unfolding count_below
count_first h zero = step (h 0) 0
count_first h (suc n) = omega (arith, count_suc h (suc n), count_suc (λ k. h (suc k)) n, count_first h n)

-- those that pass either test pass the first, or the second and not the first
either : (x y : Bool) → one (y || x) ≡ one x + one (y && not x)
either true true = refl
either true false = refl
either false true = refl
either false false = refl

count_either : (f h : ℕ → Bool) (n : ℕ) → count_below (λ k. h k || f k) n ≡ count_below f n + count_below (λ k. h k && not (f k)) n
unfolding count_below
count_either f h zero = refl
count_either f h (suc n) =
    omega (arith, count_suc (λ k. h k || f k) n, count_suc f n, count_suc (λ k. h k && not (f k)) n, count_either f h n, either (f n) (h n))

-- ---- sizes

pub size_le : (K : Keys) → size K ≤ 256
unfolding size
size_le K = count_le (holds K) 256

-- A SET GROWS BY THE KEYS THAT ARE NEW TO IT
pub size_union : (W K : Keys) → size (union W K) ≡ size K + count_new W K
unfolding size count_new
size_union W K = count_same (holds (union W K)) (λ k. holds W k || holds K k) 256 (λ k l. holds_union W K k) ∙ count_either (holds K) (holds W) 256

known : (x y : Bool) → (x && not (x || y)) ≡ false
known true y = refl
known false y = refl

-- THE SAME KEYS AGAIN ARE NONE THAT ARE NEW
pub new_again : (W K : Keys) → count_new W (union W K) ≡ 0
unfolding count_new
new_again W K =
    count_same (λ k. holds W k && not (holds (union W K) k)) (λ k. false) 256 (λ k l. ap (λ (b : Bool). holds W k && not b) (holds_union W K k)
    ∙ known (holds W k) (holds K k))
    ∙ count_none 256

-- ---- the ones of a word

-- the lowest digits: 1 where only the first is 1
lowest : (x y : ℕ) → x < 2 → y < 2 → min x (1 - y) ≡ one (eqb x 1 && not (eqb y 1))
lowest zero zero p q = refl
lowest zero (suc zero) p q = refl
lowest zero (suc (suc y)) p q = absurd (omega arith)
lowest (suc zero) zero p q = refl
lowest (suc zero) (suc zero) p q = refl
lowest (suc zero) (suc (suc y)) p q = absurd (omega arith)
lowest (suc (suc x)) y p q = absurd (omega arith)

-- the digits of the word of n + 1 ones without v: the lowest, and the word of the others
module _ (n v : ℕ) (q : v < 2 ^ suc n) where
  without_half : ((2 ^ suc n - 1) - v) / 2 ≡ (2 ^ n - 1) - v / 2
  without_half = omega (arith, pow-suc 2 n, q)

  without_lowest : ((2 ^ suc n - 1) - v) % 2 ≡ 1 - v % 2
  without_lowest = omega (arith, pow-suc 2 n, q)

-- the ones of the word w without v, of n digits
pub ones_new : (n w v : ℕ) → w < 2 ^ n → v < 2 ^ n → ones (bit_and w ((2 ^ n - 1) - v)) ≡ count_below (λ k. holds w k && not (holds v k)) n
unfolding ones count_below
ones_new zero w v p q =
    let e : w ≡ 0 = omega arith in
    ap (λ (m : ℕ). ones (bit_and m ((2 ^ 0 - 1) - v))) e ∙ ap ones (and_zero_l ((2 ^ 0 - 1) - v))
ones_new (suc n) w v p q =
    let m = (2 ^ suc n - 1) - v in
    let small : min (w % 2) (m % 2) < 2 = omega arith in
    let half : bit_and w m / 2 ≡ bit_and (w / 2) (m / 2) = omega (arith, and_step w m, small) in
    let low : bit_and w m % 2 ≡ min (w % 2) (m % 2) = omega (arith, and_step w m, small) in
    ones_step (bit_and w m)
    ∙ ap₂ (λ (x y : ℕ). x + ones y) (low ∙ ap (min (w % 2)) (without_lowest n v q)
    ∙ lowest (w % 2) (v % 2) (mod-lt w (zero-lt-suc 1)) (mod-lt v (zero-lt-suc 1)))
    (half ∙ ap (bit_and (w / 2)) (without_half n v q))
    ∙ ap₂ (λ (x y : ℕ). x + y)
    (ap₂ (λ (x y : Bool). one (x && not y)) (sym (holds_zero w)) (sym (holds_zero v)))
    (ones_new n (w / 2) (v / 2) (omega (arith, pow-suc 2 n, p)) (omega (arith, pow-suc 2 n, q))
    ∙ count_same (λ k. holds (w / 2) k && not (holds (v / 2) k)) (λ k. holds w (suc k) && not (holds v (suc k))) n
    (λ k l. ap₂ (λ (x y : Bool). x && not y) (sym (holds_suc w k)) (sym (holds_suc v k))))
    ∙ sym (count_first (λ k. holds w k && not (holds v k)) n)
