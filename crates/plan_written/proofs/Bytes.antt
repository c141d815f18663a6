-- Numbers in bytes, and bytes behind others: how long they are, and what is read back. Assumes nothing.
use Prim.Native.Nat.{ℕ, zero, suc, ◌+◌, ◌-◌, ◌*◌, ◌/◌, ◌%◌, ◌^◌, ◌≤◌, ◌<◌}
use native.Mathlib.Nat.{mod-eq_of_lt}
use native.Mathlib.Omega.{arith}
use mathlib.Core.Path.{◌≡◌, refl, sym, ap, ◌∙◌}
use mathlib.Core.List.{List, [], ◌∷◌, ◌++◌, append_assoc}
use lib.ListN.{length, length-append, get_or, drop}
use lib.Pow.{mod-pow-add}
use lib.Seq.{drop_at}
use Rattle.format.specs.Bits.{bits_at}
use Rattle.format.proofs.BitLaws.{bits_add, bits_drop, byte_at}
use Rattle.plan_written.specs.Written.{bytes_of, word_bytes}

pub bytes_length : (n x : ℕ) → length (bytes_of n x) ≡ n
unfolding bytes_of
bytes_length zero x = refl
bytes_length (suc n) x = ap suc (bytes_length n x)

pub words_length : (ws : List ℕ) → length (word_bytes ws) ≡ 5 * length ws
unfolding word_bytes
words_length [] = refl
words_length (w ∷ ws) = omega (arith, length-append (bytes_of 5 w) (word_bytes ws), bytes_length 5 w, words_length ws)

pub words_append : (vs ws : List ℕ) → word_bytes (vs ++ ws) ≡ word_bytes vs ++ word_bytes ws
unfolding word_bytes
words_append [] ws = refl
words_append (v ∷ vs) ws = ap (λ (l : List ℕ). bytes_of 5 v ++ l) (words_append vs ws) ∙ sym (append_assoc (bytes_of 5 v) (word_bytes vs) (word_bytes ws))

-- ---- what is read back

bytes_bits : (n x : ℕ) (l : List ℕ) → bits_at (bytes_of n x ++ l) 0 (8 * n) ≡ x % 2 ^ (8 * n)
unfolding bytes_of bits_at
bytes_bits zero x l = let z : 0 ≡ x % 1 = omega arith in z
bytes_bits (suc n) x l =
    let w : 8 * suc n ≡ 8 + 8 * n = omega arith in
    let all = bytes_of (suc n) x ++ l in
    let first : bits_at all 0 8 ≡ x / 2 ^ (8 * n) % 256 = byte_at all 0 (omega arith) in
    let rest : bits_at all 8 (8 * n) ≡ x % 2 ^ (8 * n) = sym (bits_drop 1 all 0 (8 * n)) ∙ bytes_bits n x l in
    ap (bits_at all 0) w
    ∙ bits_add all 0 8 (8 * n)
    ∙ ap (λ (y : ℕ). y * 2 ^ (8 * n) + bits_at all 8 (8 * n)) first
    ∙ ap (λ (y : ℕ). x / 2 ^ (8 * n) % 256 * 2 ^ (8 * n) + y) rest
    ∙ sym (mod-pow-add x 8 (8 * n))
    ∙ ap (λ (y : ℕ). x % 2 ^ y) (sym w)

-- a number that fits its bytes, behind others
pub read_back : (p l : List ℕ) (k n x : ℕ) → length p ≡ k → x < 2 ^ (8 * n) → bits_at (p ++ (bytes_of n x ++ l)) (k * 8) (8 * n) ≡ x
read_back p l k n x e h =
    let at : k * 8 + 0 ≡ k * 8 = omega arith in
    ap (λ (i : ℕ). bits_at (p ++ (bytes_of n x ++ l)) i (8 * n)) (sym at)
    ∙ sym (bits_drop k (p ++ (bytes_of n x ++ l)) 0 (8 * n))
    ∙ ap (λ (q : List ℕ). bits_at q 0 (8 * n)) (drop_at p (bytes_of n x ++ l) k e)
    ∙ bytes_bits n x l
    ∙ mod-eq_of_lt h

-- the same in a row of words
pub word_back : (p ws : List ℕ) (k t : ℕ) → length p ≡ k → t < length ws → get_or ws t 0 < 2 ^ 40 → bits_at (p ++ word_bytes ws) ((k + 5 * t) * 8) 40 ≡ get_or ws t 0
unfolding word_bytes
word_back p [] k t e h f = absurd (omega arith)
word_back p (w ∷ ws) k zero e h f =
    let at : (k + 5 * 0) * 8 ≡ k * 8 = omega arith in
    ap (λ (i : ℕ). bits_at (p ++ (bytes_of 5 w ++ word_bytes ws)) i 40) at ∙ read_back p (word_bytes ws) k 5 w e f
word_back p (w ∷ ws) k (suc t) e h f =
    let at : (k + 5 * suc t) * 8 ≡ (k + 5 + 5 * t) * 8 = omega arith in
    let longer : length (p ++ bytes_of 5 w) ≡ k + 5 = omega (arith, length-append p (bytes_of 5 w), bytes_length 5 w) in
    ap (λ (i : ℕ). bits_at (p ++ (bytes_of 5 w ++ word_bytes ws)) i 40) at
    ∙ ap (λ (q : List ℕ). bits_at q ((k + 5 + 5 * t) * 8) 40) (sym (append_assoc p (bytes_of 5 w) (word_bytes ws)))
    ∙ word_back (p ++ bytes_of 5 w) ws (k + 5) t longer (omega arith) f
