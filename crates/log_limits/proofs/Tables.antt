-- The tables' rule, in computed tests of every kind with every field, and with every value and spare. Assumes nothing.
use Prim.Native.Nat.{ℕ, zero, suc, ◌+◌, ◌*◌, ◌/◌, ◌%◌, ◌<◌}
use native.Mathlib.Omega.{arith}
use native.Mathlib.Decide.{dec_lt}
use mathlib.Core.Path.{◌≡◌, refl, sym, ap, ◌∙◌}
use mathlib.Core.Bool.{Bool, true, false, ◌&&◌, ◌||◌, not, or_assoc, or-false}
use mathlib.Core.List.{List}
use mathlib.Core.Option.{none}
use lib.Bits.{bit_and, and_block}
use lib.Dec.{eqb, ltb, leb}
use lib.ListN.{get_or}
use borrow.Author.Tests.{eq-eqb, ne_eqb, lt-ltb, le-ltb, eqb-true, not-false}
use Rattle.format.specs.Refusal.{lowest}
use Rattle.format.proofs.RefusalLaws.{lowest_none}
use Rattle.log_records.specs.Record.{Kind, new, read, write, readv, writev, acquire, release, fork, join, lacks_read, lacks_write}
use Rattle.log_records.specs.Packed.{kind_of}
use Rattle.log_records.specs.Refusals.{wrong_columns}
use Rattle.log_limits.specs.Inner.Limits.{least_bits, zero_bits}

-- ---- the tables

-- what the code tests of a kind and the 12 bits, in the last record or before it
abbrev pub by_tables : Bool → ℕ → ℕ → Bool
by_tables last k n = ltb n (get_or (least_bits last) k 0) || not (eqb (bit_and n (get_or zero_bits k 0)) 0)

-- the same of the field alone, and of the 7 bits behind it, which are value and spare
abbrev field_by_tables : Bool → ℕ → ℕ → Bool
field_by_tables last k f = ltb f (get_or (least_bits last) k 0 / 128) || not (eqb (bit_and f (get_or zero_bits k 0 / 128)) 0)

abbrev rest_by_tables : ℕ → ℕ → Bool
rest_by_tables k n = not (eqb (bit_and n (get_or zero_bits k 0 % 128)) 0)

-- ---- what refusal 12 tests

-- a number that no kind has there, in the last record or before it
abbrev pub no_kind : Bool → ℕ → Bool
no_kind last k = eqb k 0 || ltb 11 k || (leb 10 k && not last)

abbrev pub by_columns : Bool → ℕ → ℕ → ℕ → Bool
by_columns last k f v = no_kind last k || wrong_columns (kind_of k) f v

-- a field that a kind allows
abbrev right_field : Kind → ℕ
right_field new = 0
right_field read = 1
right_field write = 1
right_field readv = 1
right_field writev = 1
right_field acquire = 0
right_field release = 0
right_field fork = 0
right_field join = 0
right_field lacks_read = 1
right_field lacks_write = 1

-- field and value are wrong each by itself
columns_apart : (k : Kind) (f v : ℕ) → wrong_columns k f v ≡ (wrong_columns k f 0 || wrong_columns k (right_field k) v)
columns_apart new f v = simp or-false
columns_apart read f v = simp or-false
columns_apart write f v = simp or-false
columns_apart readv f v = simp or-false
columns_apart writev f v = simp or-false
columns_apart acquire f v = simp or-false
columns_apart release f v = simp or-false
columns_apart fork f v = simp or-false
columns_apart join f v = simp or-false
columns_apart lacks_read f v = simp or-false
columns_apart lacks_write f v = simp or-false

abbrev field_by_columns : Bool → ℕ → ℕ → Bool
field_by_columns last k f = no_kind last k || wrong_columns (kind_of k) f 0

abbrev rest_by_columns : ℕ → ℕ → Bool
rest_by_columns k n = wrong_columns (kind_of k) (right_field (kind_of k)) (n / 4) || not (eqb (n % 4) 0)

-- ---- the tables' rule, tested at every kind with every field, and with all that can stand behind one

abbrev same : Bool → Bool → Bool
same true y = y
same false y = not y

same_is : (x y : Bool) → same x y ≡ true → x ≡ y
same_is true y e = sym e
same_is false true e = e
same_is false false e = refl

-- both agree at a kind and a field, or a kind and the bits behind a field, in one number
abbrev fields_agree : Bool → ℕ → Bool
fields_agree last m = same (field_by_tables last (m / 32) (m % 32)) (field_by_columns last (m / 32) (m % 32))

abbrev rests_agree : ℕ → Bool
rests_agree m = same (rest_by_tables (m / 128) (m % 128)) (rest_by_columns (m / 128) (m % 128))

all_fields : (last : Bool) → lowest (λ (m : ℕ). not (fields_agree last m)) 512 ≡ none
unfolding kind_of least_bits lowest
all_fields true = refl
all_fields false = refl

all_rests : lowest (λ (m : ℕ). not (rests_agree m)) 2048 ≡ none
unfolding kind_of lowest
all_rests = refl

-- no least number has a bit behind its field
least_rows : (last : Bool) → lowest (λ (k : ℕ). not (eqb (get_or (least_bits last) k 0 % 128) 0)) 16 ≡ none
unfolding least_bits lowest
least_rows true = refl
least_rows false = refl

-- what a test of all numbers below n says of one
passed : (f : ℕ → Bool) (n : ℕ) → lowest (λ (m : ℕ). not (f m)) n ≡ none → (m : ℕ) → m < n → f m ≡ true
passed f n e m h = not-false (f m) (lowest_none (λ (m : ℕ). not (f m)) n e m h)

agreed : (p q : ℕ → ℕ → Bool) {a b k n : ℕ} → a ≡ k → b ≡ n → same (p a b) (q a b) ≡ true → p k n ≡ q k n
agreed p q {a} {b} row column e = rw (← row, ← column) (same_is (p a b) (q a b) e)

module _ (k : ℕ) (hk : k < 16) where
  field_agrees : (last : Bool) (f : ℕ) → f < 32 → field_by_tables last k f ≡ field_by_columns last k f
  field_agrees last f hf =
      let m : ℕ = k * 32 + f in
      let row : m / 32 ≡ k = omega (arith, hf) in
      let column : m % 32 ≡ f = omega (arith, hf) in
      agreed (field_by_tables last) (field_by_columns last) row column (passed (fields_agree last) 512 (all_fields last) m (omega (arith, hk, hf)))

  rest_agrees : (n : ℕ) → n < 128 → rest_by_tables k n ≡ rest_by_columns k n
  rest_agrees n hn =
      let m : ℕ = k * 128 + n in
      let row : m / 128 ≡ k = omega (arith, hn) in
      let column : m % 128 ≡ n = omega (arith, hn) in
      agreed rest_by_tables rest_by_columns row column (passed rests_agree 2048 all_rests m (omega (arith, hk, hn)))

-- ---- field and rest in one number

module _ (f n : ℕ) (hn : n < 128) where
  lower : (L : ℕ) → L % 128 ≡ 0 → ltb (f * 128 + n) L ≡ ltb f (L / 128)
  lower L e = go (dec_lt f (L / 128))
    where
      go : Dec (f < L / 128) → ltb (f * 128 + n) L ≡ ltb f (L / 128)
      go (yes p) = lt-ltb (f * 128 + n) L (omega (arith, e, p, hn)) ∙ sym (lt-ltb f (L / 128) p)
      go (no p) = le-ltb (f * 128 + n) L (omega (arith, e, p)) ∙ sym (le-ltb f (L / 128) (omega (arith, p)))

  common : (Z : ℕ) → bit_and (f * 128 + n) Z ≡ bit_and f (Z / 128) * 128 + bit_and n (Z % 128)
  common Z =
      let whole : Z ≡ Z / 128 * 128 + Z % 128 = omega arith in
      ap (bit_and (f * 128 + n)) whole ∙ and_block 7 f (Z / 128) n (Z % 128) hn (omega arith)

some_bit : (x y : ℕ) → not (eqb (x * 128 + y) 0) ≡ (not (eqb x 0) || not (eqb y 0))
some_bit zero y = let alone : 0 * 128 + y ≡ y = omega arith in ap (λ (n : ℕ). not (eqb n 0)) alone
some_bit (suc x) y = rw (ne_eqb (suc x * 128 + y) 0 (λ e. omega (arith, e)), ne_eqb (suc x) 0 (λ e. omega (arith, e)))

-- four tests, the middle two as one
regrouped : (a b c d : Bool) → (a || b || (c || d)) ≡ (a || (b || c) || d)
regrouped true b c d = refl
regrouped false true c d = refl
regrouped false false c d = refl

pub by_tables_lem : (last : Bool) (k f v s : ℕ) → k < 16 → f < 32 → v < 32 → s < 4
    → by_tables last k ((f * 32 + v) * 4 + s) ≡ (by_columns last k f v || not (eqb s 0))
by_tables_lem last k f v s hk hf hv hs =
    let n : ℕ = v * 4 + s in
    let small : n < 128 = omega (arith, hv, hs) in
    let L : ℕ = get_or (least_bits last) k 0 in
    let Z : ℕ = get_or zero_bits k 0 in
    let K : Kind = kind_of k in
    let one_number : (f * 32 + v) * 4 + s ≡ f * 128 + n = omega arith in
    let none-least = eqb-true (L % 128) 0 (passed (λ (k : ℕ). eqb (get_or (least_bits last) k 0 % 128) 0) 16 (least_rows last) k hk) in
    let value_is : n / 4 ≡ v = omega (arith, hs) in
    let spare_is : n % 4 ≡ s = omega (arith, hs) in
    let parts : by_tables last k (f * 128 + n) ≡ (field_by_tables last k f || rest_by_tables k n) =
    rw (lower f n small L none-least, common f n small Z, some_bit (bit_and f (Z / 128)) (bit_and n (Z % 128)))
    (sym (or_assoc (ltb f (L / 128)) (not (eqb (bit_and f (Z / 128)) 0)) (not (eqb (bit_and n (Z % 128)) 0)))) in
    ap (by_tables last k) one_number ∙ parts ∙ rw (field_agrees k hk last f hf, rest_agrees k hk n small, value_is, spare_is)
    (regrouped (no_kind last k) (wrong_columns K f 0) (wrong_columns K (right_field K) v) (not (eqb s 0))
    ∙ ap (λ (w : Bool). no_kind last k || w || not (eqb s 0)) (sym (columns_apart K f v)))

-- ---- the table for a place

pub early_table : (A : List ℕ) (i n : ℕ) → A ≡ least_bits false → i + 1 < n → A ≡ least_bits (eqb (i + 1) n)
early_table A i n e h = e ∙ ap least_bits (sym (ne_eqb (i + 1) n (λ q. omega (arith, q, h))))

pub last_table : (A : List ℕ) (i n : ℕ) → A ≡ least_bits true → i + 1 ≡ n → A ≡ least_bits (eqb (i + 1) n)
last_table A i n e h = e ∙ ap least_bits (sym (eq-eqb (i + 1) n h))
