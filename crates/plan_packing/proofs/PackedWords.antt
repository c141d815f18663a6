-- The 40 bits of each tag's terms as sums. Assumes nothing.
use Prim.Native.Nat.{ℕ, suc, ◌+◌, ◌-◌, ◌*◌, ◌/◌, ◌%◌, ◌^◌, ◌≤◌, ◌<◌}
use native.Mathlib.Omega.{arith}
use mathlib.Core.Path.{◌≡◌, sym, ◌∙◌}
use mathlib.Core.List.{List}
use lib.ListN.{set}
use lib.Seq.{sets}
use borrow.Author.Tests.{eq-eqb, ne_eqb}
use Rattle.plan_packed.specs.Inner.Operands.{tag_of, slot_bits, field_bits, mask_bits}
use Rattle.plan_written.specs.Terms.{word_of}
use Rattle.plan_written.specs.Written.{bytes_of}
use Rattle.plan_packing.specs.Inner.Words.{leaf_word, one_word, two_word}

variable_word : (x : ℕ) → 34359738368 + x * 2147483648 ≡ word_of 1 x 0 0
unfolding word_of
variable_word x = omega arith

new_word_lem : (x : ℕ) → 68719476736 + x * 8 ≡ word_of 2 x 0 0
unfolding word_of
new_word_lem x = omega arith

read_word : (x f : ℕ) → 103079215104 + x * 33554432 + f * 1048576 ≡ word_of 3 x f 0
unfolding word_of
read_word x f = omega arith

write_word : (x f y : ℕ) → 137438953472 + x * 33554432 + f * 1048576 + y * 1024 ≡ word_of 4 x f y
unfolding word_of
write_word x f y = omega arith

let_word_lem : (s x y : ℕ) → 171798691840 + s * 2147483648 + x * 2097152 + y * 2048 ≡ word_of 5 s x y
unfolding word_of
let_word_lem s x y = omega arith

pub if_word_lem : (x y z : ℕ) → 206158430208 + x * 33554432 + y * 32768 + z * 32 ≡ word_of 6 x y z
unfolding word_of
if_word_lem x y z = omega arith

pub call_word_lem : (m x : ℕ) → 274877906944 + m * 1073741824 + x * 1048576 ≡ word_of 8 m x 0
unfolding word_of
call_word_lem m x = omega arith

-- ---- by the old bits

module _ (w : ℕ) where
  pub leaf_variable : tag_of w ≡ 1 → leaf_word w ≡ word_of 1 (slot_bits w) 0 0
  unfolding leaf_word
  leaf_variable e = rw (eq-eqb (tag_of w) 1 e)

  pub leaf_new : tag_of w ≡ 2 → leaf_word w ≡ word_of 2 (mask_bits w) 0 0
  unfolding leaf_word
  leaf_new e = rw (ne_eqb (tag_of w) 1 (λ d. omega arith), eq-eqb (tag_of w) 2 e)

  pub leaf_null : (tag_of w ≡ 1 → ⊥) → (tag_of w ≡ 2 → ⊥) → leaf_word w ≡ 0
  unfolding leaf_word
  leaf_null d e = rw (ne_eqb (tag_of w) 1 d, ne_eqb (tag_of w) 2 e)

  pub one_read : (x : ℕ) → tag_of w ≡ 3 → one_word w x ≡ word_of 3 x (field_bits w) 0
  unfolding one_word
  one_read x e = rw (eq-eqb (tag_of w) 3 e)

  pub one_other : (x : ℕ) → (tag_of w ≡ 3 → ⊥) → one_word w x ≡ tag_of w * 34359738368 + x * 33554432
  unfolding one_word
  one_other x d = rw (ne_eqb (tag_of w) 3 d)

  pub two_write : (x y : ℕ) → tag_of w ≡ 4 → two_word w x y ≡ word_of 4 x (field_bits w) y
  unfolding two_word
  two_write x y e = rw (eq-eqb (tag_of w) 4 e)

  pub two_let : (x y : ℕ) → tag_of w ≡ 5 → two_word w x y ≡ word_of 5 (slot_bits w) x y
  unfolding two_word
  two_let x y e = rw (ne_eqb (tag_of w) 4 (λ d. omega arith), eq-eqb (tag_of w) 5 e)

  pub two_other : (x y : ℕ) → (tag_of w ≡ 4 → ⊥) → (tag_of w ≡ 5 → ⊥) → two_word w x y ≡ tag_of w * 34359738368 + x * 33554432 + y * 32768
  unfolding two_word
  two_other x y d e = rw (ne_eqb (tag_of w) 4 d, ne_eqb (tag_of w) 5 e)

  -- the sums of the code
  pub variable_is : {s : ℕ} → tag_of w ≡ 1 → s ≡ slot_bits w → 34359738368 + s * 2147483648 ≡ leaf_word w
  variable_is {s} e q = variable_word s ∙ rw q (sym (leaf_variable e))

  pub new_is : {m : ℕ} → tag_of w ≡ 2 → m ≡ mask_bits w → 68719476736 + m * 8 ≡ leaf_word w
  new_is {m} e q = new_word_lem m ∙ rw q (sym (leaf_new e))

  pub read_is : (k x f : ℕ) → k ≡ 3 → tag_of w ≡ 3 → f ≡ field_bits w → k * 34359738368 + x * 33554432 + f * 1048576 ≡ one_word w x
  read_is k x f d e q = rw d (read_word x f ∙ rw q (sym (one_read x e)))

  pub write_is : (k x f y : ℕ) → k ≡ 4 → tag_of w ≡ 4 → f ≡ field_bits w → k * 34359738368 + x * 33554432 + f * 1048576 + y * 1024 ≡ two_word w x y
  write_is k x f y d e q = rw d (write_word x f y ∙ rw q (sym (two_write x y e)))

  pub let_is : (k s x y : ℕ) → k ≡ 5 → tag_of w ≡ 5 → s ≡ slot_bits w → k * 34359738368 + s * 2147483648 + x * 2097152 + y * 2048 ≡ two_word w x y
  let_is k s x y d e q = rw d (let_word_lem s x y ∙ rw q (sym (two_let x y e)))

-- ---- a number's bytes

-- one byte more of n: those that are left stay to be written behind it
pub one_byte : (area : List ℕ) (at n i x : ℕ) → i < n
    → sets (set area (at + i) (x / 2 ^ (8 * (n - 1 - i)) % 256)) (at + (i + 1)) (bytes_of (n - (i + 1)) x) ≡ sets area (at + i) (bytes_of (n - i) x)
unfolding bytes_of
one_byte area at n i x h =
    let left : n - i ≡ suc (n - (i + 1)) = omega arith in
    let after : n - 1 - i ≡ n - (i + 1) = omega arith in
    let place : at + (i + 1) ≡ suc (at + i) = omega arith in
    rw (left, after, place)

-- at first all are left
pub all_left : (area : List ℕ) (at n x : ℕ) → sets area (at + 0) (bytes_of (n - 0) x) ≡ sets area at (bytes_of n x)
all_left area at n x =
    let left : n - 0 ≡ n = omega arith in
    let place : at + 0 ≡ at = omega arith in
    rw (left, place)

-- at last none
pub none_left : (area : List ℕ) (at n i x : ℕ) → n ≤ i → area ≡ sets area (at + i) (bytes_of (n - i) x)
unfolding bytes_of
none_left area at n i x h = let left : n - i ≡ 0 = omega arith in rw left
