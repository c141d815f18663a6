-- Laws of bit fields: their bounds, fields in a row, a byte, bytes left out before them, a field of a number by a quotient and a remainder, and bits past the
-- end. Assumes nothing.
use mathlib.Core.Path.{◌≡◌, refl, ap, sym, ◌∙◌}
use mathlib.Core.List.{List}
use Prim.Native.Nat.{ℕ, zero, suc, ◌+◌, ◌-◌, ◌*◌, ◌/◌, ◌%◌, ◌^◌, ◌≤◌, ◌<◌}
use native.Mathlib.Nat.{add-zero, add-suc, add_assoc, mul_assoc, one-mul, pow-suc, div-eq_of_lt, div-one, mod-eq_of_lt}
use native.Mathlib.Omega.{arith}
use lib.ListN.{length, drop, get_or, get_or-eq_default}
use lib.Pow.{pow_pos, high, low, pow-lt, shr-shr}
use lib.Seq.{get_or-drop}
use Rattle.format.specs.Bits.{bit_at, bits_at}

pub bit_below : (l : List ℕ) (i : ℕ) → bit_at l i < 2
unfolding bit_at
bit_below l i = omega arith

pub bits_below : (l : List ℕ) (p w : ℕ) → bits_at l p w < 2 ^ w
unfolding bits_at
bits_below l p zero = omega arith
bits_below l p (suc w) = rw pow-suc (omega (arith, bits_below l p w, bit_below l (p + w)))

-- bits in a row are the first of them, shifted, and the rest
pub bits_add : (l : List ℕ) (p v w : ℕ) → bits_at l p (v + w) ≡ bits_at l p v * 2 ^ w + bits_at l (p + v) w
unfolding bits_at
bits_add l p v zero = rw (add-zero v) (omega arith)
bits_add l p v (suc w) =
    let e : bit_at l (p + (v + w)) ≡ bit_at l (p + v + w) = rw add_assoc in
    let m : bits_at l p v * 2 ^ suc w ≡ bits_at l p v * 2 ^ w * 2 = rw (pow-suc, mul_assoc) in
    rw add-suc (omega (arith, bits_add l p v w))

-- two fields in a row, as numbers
pub joined : (l : List ℕ) (p q v w x y : ℕ) → bits_at l p v ≡ x → bits_at l q w ≡ y → p + v ≡ q → bits_at l p (v + w) ≡ x * 2 ^ w + y
joined l p q v w x y e f h =
    bits_add l p v w ∙ ap (λ (n : ℕ). n * 2 ^ w + bits_at l (p + v) w) e ∙ ap (λ (n : ℕ). x * 2 ^ w + bits_at l n w) h ∙ ap (λ (n : ℕ). x * 2 ^ w + n) f

-- a field of w bits, with r bits after it
pub field_of : (l : List ℕ) (p v w r : ℕ) → bits_at l (p + v) w ≡ bits_at l p (v + w + r) / 2 ^ r % 2 ^ w
field_of l p v w r =
    sym
    (ap (λ (x : ℕ). x / 2 ^ r % 2 ^ w) (bits_add l p (v + w) r)
    ∙ ap (λ (x : ℕ). x % 2 ^ w) (high (bits_at l p (v + w)) r (bits_below l (p + (v + w)) r) ∙ bits_add l p v w)
    ∙ low (bits_at l p v) w (bits_below l (p + v) w))

-- the first v bits
pub first_of : (l : List ℕ) (p v r : ℕ) → bits_at l p v ≡ bits_at l p (v + r) / 2 ^ r
first_of l p v r = sym (ap (λ (x : ℕ). x / 2 ^ r) (bits_add l p v r) ∙ high (bits_at l p v) r (bits_below l (p + v) r))

-- the code's shifted 1
pub shl_one : (k : ℕ) → k < 64 → (1 * 2 ^ k) % 2 ^ 64 ≡ 2 ^ k
shl_one k h = rw one-mul (mod-eq_of_lt (pow-lt {i = k} {j = 64} h))

-- the bits of a list without its first k bytes
bit_drop : (k : ℕ) (l : List ℕ) (i : ℕ) → bit_at (drop k l) i ≡ bit_at l (k * 8 + i)
unfolding bit_at
bit_drop k l i =
    let q : (k * 8 + i) / 8 ≡ k + i / 8 = omega arith in
    let m : (k * 8 + i) % 8 ≡ i % 8 = omega arith in
    rw (q, m, get_or-drop k l (i / 8) 0)

pub bits_drop : (k : ℕ) (l : List ℕ) (i w : ℕ) → bits_at (drop k l) i w ≡ bits_at l (k * 8 + i) w
unfolding bits_at
bits_drop k l i zero = refl
bits_drop k l i (suc w) = rw (bits_drop k l i w, bit_drop k l (i + w), ← add_assoc (k * 8) i w)

-- a byte
bit_of_lem : (l : List ℕ) (i j : ℕ) → j < 8 → bit_at l (i * 8 + j) ≡ get_or l i 0 / 2 ^ (7 - j) % 2
unfolding bit_at
bit_of_lem l i j h =
    let q : (i * 8 + j) / 8 ≡ i = omega arith in
    let m : (i * 8 + j) % 8 ≡ j = omega arith in
    rw (q, m)

-- the first w bits of a byte are its quotient
byte_top : (l : List ℕ) (i w : ℕ) → get_or l i 0 < 256 → w ≤ 8 → bits_at l (i * 8) w ≡ get_or l i 0 / 2 ^ (8 - w)
unfolding bits_at
byte_top l i zero h n = sym (div-eq_of_lt h)
byte_top l i (suc w) h n =
    let m : 8 - suc w ≡ 7 - w = omega arith in
    let k : 7 - w + 1 ≡ 8 - w = omega arith in
    let half : get_or l i 0 / 2 ^ (7 - w) / 2 ≡ get_or l i 0 / 2 ^ (8 - w) = rw k at (shr-shr (get_or l i 0) (7 - w) 1) in
    rw m (omega (arith, byte_top l i w h (omega arith), bit_of_lem l i w (omega arith)))

pub byte_at : (l : List ℕ) (i : ℕ) → get_or l i 0 < 256 → bits_at l (i * 8) 8 ≡ get_or l i 0
byte_at l i h = byte_top l i 8 h (omega arith) ∙ div-one (get_or l i 0)

-- one byte more
pub byte_more : (l : List ℕ) (i n x : ℕ) → get_or l (i + n) 0 < 256 → bits_at l (i * 8) (n * 8) ≡ x → bits_at l (i * 8) (n * 8 + 8) ≡ x * 256 + get_or l (i + n) 0
byte_more l i n x h e =
    let at : i * 8 + n * 8 ≡ (i + n) * 8 = omega arith in
    bits_add l (i * 8) (n * 8) 8 ∙ ap (λ (y : ℕ). y * 256 + bits_at l (i * 8 + n * 8) 8) e ∙ ap (λ (p : ℕ). x * 256 + bits_at l p 8) at
    ∙ ap (λ (y : ℕ). x * 256 + y) (byte_at l (i + n) h)

-- past the end all bits are 0
pub bits_past : (l : List ℕ) (p w : ℕ) → length l * 8 ≤ p → bits_at l p w ≡ 0
unfolding bits_at bit_at
bits_past l p zero h = refl
bits_past l p (suc w) h = rw (bits_past l p w h, get_or-eq_default l 0 {n = (p + w) / 8} (omega arith), div-eq_of_lt (pow_pos (7 - (p + w) % 8)))
