-- Logs in bytes that are not refused: at most 4,096 tidy records, of which only the last may lack its key. Assumes nothing.
use Prim.Native.Nat.{ℕ, zero, suc, ◌+◌, ◌*◌, ◌/◌, ◌%◌, ◌≤◌, ◌<◌}
use native.Mathlib.Omega.{arith}
use native.Mathlib.Decide.{dec_lt}
use mathlib.Core.Path.{◌≡◌, refl, sym, ap, ◌∙◌, subst}
use mathlib.Core.Bool.{Bool, true, false, ◌&&◌, ◌||◌, not}
use mathlib.Core.List.{List, [], ◌∷◌}
use mathlib.Core.Option.{some, none, none-ne-some, some-injective}
use lib.Dec.{eqb, ltb, leb}
use lib.ListN.{length, get_or, get_elem?}
use lib.Seq.{ext_get_or}
use borrow.Author.Tests.{eq-eqb, ne_eqb, le-ltb, le-leb, eqb-true, eqb-false, ltb-false, leb-true, not-false}
use Rattle.format.specs.Bits.{bits_at}
use Rattle.format.proofs.BitLaws.{bits_below, bits_add}
use Rattle.log_records.specs.Record.{kind_number, Record, lacks_key}
use Rattle.log_records.specs.Packed.{packed, bytes_of, kind_of, kind_at, spare_at, record_at, record_count, log_of}
use Rattle.log_records.specs.Refusals.{wrong_log_length, wrong_columns, wrong_record, log_checks, log_refusal}
use Rattle.format.proofs.RefusalLaws.{none_left, and_then, head_pass, tail_pass, none_is_pass, neither}
use Rattle.log_records.proofs.KindNumbers.{kind_number_lem, kind_lacks, number_back}
use Rattle.log_records.proofs.Tidy.{Tidy, AllTidy, LacksLast, tidy_at, all_tidy}
use Rattle.log_records.proofs.RoundTrip.{length_bytes, byte_below, word24, Placed, placed_word, bytes_placed, record_fields, kind_bits, spare_bits}
use Rattle.log_records.proofs.RoundTrip.{kind_read, spare_read, record_back, count_log, log_element, log_past, count_bytes}

-- ---- what refusal 12 finds no fault with

-- the kind is 1 to 11, kinds 10 and 11 come only last, the columns hold what the kind allows, and the spare bits are 0
pub record RightRecord (b : List ℕ) (i : ℕ) : Type 0 where
  pub kind_least : 0 < kind_at b i
  pub kind_most : kind_at b i ≤ 11
  pub lacks_last : 10 ≤ kind_at b i → suc i ≡ record_count b
  pub columns : wrong_columns (record_at b i).kind (record_at b i).field (record_at b i).value ≡ false
  pub spare : spare_at b i ≡ 0

and_not : (x y : Bool) → (x && not y) ≡ false → x ≡ true → y ≡ true
and_not true true e p = refl
and_not true false e p = sym e
and_not false y e p = cc

not_and : (x y : Bool) → (x ≡ true → y ≡ true) → (x && not y) ≡ false
not_and true y f = rw (f refl)
not_and false y f = refl

positive : (n : ℕ) → (n ≡ 0 → ⊥) → 0 < n
positive n h = omega arith

pub wrong_record_lem : (b : List ℕ) (i : ℕ)
    → wrong_record b i
    ≡ (eqb (kind_at b i) 0
    || ltb 11 (kind_at b i)
    || (leb 10 (kind_at b i) && not (eqb (suc i) (record_count b)))
    || wrong_columns (record_at b i).kind (record_at b i).field (record_at b i).value
    || not (eqb (spare_at b i) 0))
unfolding wrong_record
wrong_record_lem b i = refl

pub right_record : (b : List ℕ) (i : ℕ) → wrong_record b i ≡ false → RightRecord b i
right_record b i e =
    let p = neither _ _ (sym (wrong_record_lem b i) ∙ e) in
    let q = neither _ _ p.0 in
    let r = neither _ _ q.0 in
    let s = neither _ _ r.0 in
    record {
      kind_least = positive (kind_at b i) (eqb-false (kind_at b i) 0 s.0);
      kind_most = ltb-false 11 (kind_at b i) s.1;
      lacks_last = λ h. eqb-true (suc i) (record_count b) (and_not _ _ r.1 (le-leb 10 (kind_at b i) h));
      columns = q.1;
      spare = eqb-true (spare_at b i) 0 (not-false _ p.1);
    }

pub not_wrong_record : (b : List ℕ) (i : ℕ) → RightRecord b i → wrong_record b i ≡ false
not_wrong_record b i h =
    let kind : eqb (kind_at b i) 0 ≡ false = ne_eqb (kind_at b i) 0 (λ e. omega (arith, h.kind_least)) in
    let most : ltb 11 (kind_at b i) ≡ false = le-ltb 11 (kind_at b i) h.kind_most in
    let last : (leb 10 (kind_at b i) && not (eqb (suc i) (record_count b))) ≡ false =
    not_and _ _ (λ e. eq-eqb (suc i) (record_count b) (h.lacks_last (leb-true 10 (kind_at b i) e))) in
    let spare : eqb (spare_at b i) 0 ≡ true = eq-eqb (spare_at b i) 0 h.spare in
    wrong_record_lem b i ∙ rw (kind, most, last, h.columns, spare)

-- ---- what refusal 11 finds no fault with

pub wrong_length_lem : (b : List ℕ) → wrong_log_length b ≡ (not (eqb (length b % 3) 0) || ltb 12288 (length b))
unfolding wrong_log_length
wrong_length_lem b = refl

pub right_length : (b : List ℕ) → wrong_log_length b ≡ false → (length b ≡ 3 * record_count b) × (length b ≤ 12288)
unfolding record_count
right_length b e =
    let p = neither _ _ (sym (wrong_length_lem b) ∙ e) in
    let threes : length b % 3 ≡ 0 = eqb-true (length b % 3) 0 (not-false _ p.0) in
    (omega arith, ltb-false 12288 (length b) p.1)

pub not_wrong_length : (b : List ℕ) → length b ≡ 3 * record_count b → length b ≤ 12288 → wrong_log_length b ≡ false
unfolding record_count
not_wrong_length b e h =
    let threes : eqb (length b % 3) 0 ≡ true = eq-eqb (length b % 3) 0 (omega arith) in
    let short : ltb 12288 (length b) ≡ false = le-ltb 12288 (length b) h in
    wrong_length_lem b ∙ rw (threes, short)

-- ---- logs that are not refused

element : (L : List Record) (i : ℕ) → i < length L → (r : Record) × (get_elem? L i ≡ some r)
element [] i h = absurd (omega arith)
element (r ∷ L) zero h = (r, refl)
element (r ∷ L) (suc i) h = element L i (omega arith)

right_bytes : (L : List Record) → AllTidy L → LacksLast L → (i : ℕ) (r : Record) → get_elem? L i ≡ some r → RightRecord (bytes_of L) i
right_bytes L h last i r e =
    let tidy : Tidy r = tidy_at L h i r e in
    let placed : Placed (bytes_of L) i r = bytes_placed L i r e in
    let kind : kind_at (bytes_of L) i ≡ kind_number r.kind = kind_read (bytes_of L) i r tidy placed in
    let back : record_at (bytes_of L) i ≡ r = record_back L h i r e in
    record {
      kind_least = omega (arith, kind_number_lem r.kind);
      kind_most = omega (arith, kind_number_lem r.kind);
      lacks_last =
          λ ten.
          let lacks : lacks_key r.kind ≡ true = sym (kind_lacks r.kind) ∙ le-leb 10 (kind_number r.kind) (omega arith) in
          last i r e (rw lacks tt) ∙ sym (count_bytes L);
      columns = rw back tidy.columns;
      spare = spare_read (bytes_of L) i r tidy placed;
    }

-- the bytes of at most 4,096 tidy records, of which only the last may lack its key, are not refused
pub well_formed_log : (L : List Record) → AllTidy L → LacksLast L → length L ≤ 4096 → log_refusal (bytes_of L) ≡ none
unfolding log_refusal log_checks
well_formed_log L h last short =
    (none_is_pass (log_checks (bytes_of L))).1
    (and_then
    (record { right = λ i b. not_wrong_length (bytes_of L) (omega (arith, length_bytes L, count_bytes L)) (omega (arith, length_bytes L)) })
    (and_then
    (record { right = λ i b. let x = element L i (rw (← count_bytes L) b) in not_wrong_record (bytes_of L) i (right_bytes L h last i x.0 x.1) })
    none_left))

-- the length is three times the count of records and at most 12,288, and every record is right
pub record Accepted (b : List ℕ) : Type 0 where
  pub length_threes : length b ≡ 3 * record_count b
  pub length_most : length b ≤ 12288
  pub right : (i : ℕ) → i < record_count b → RightRecord b i

-- this holds of bytes that are not refused
pub accepted : (b : List ℕ) → log_refusal b ≡ none → Accepted b
unfolding log_refusal log_checks
accepted b e =
    let p = (none_is_pass (log_checks b)).0 e in
    let q = right_length b ((head_pass p).right 0 (omega arith)) in
    record { length_threes = q.0; length_most = q.1; right = λ i h. right_record b i ((head_pass (tail_pass p)).right i h) }

record_tidy : (b : List ℕ) (i : ℕ) → RightRecord b i → Tidy (record_at b i)
record_tidy b i h =
    record {
      thread_below = rw (record_fields b i) (bits_below b (24 * i + 4) 3);
      object_below = rw (record_fields b i) (bits_below b (24 * i + 7) 5);
      field_below = rw (record_fields b i) (bits_below b (24 * i + 12) 5);
      value_below = rw (record_fields b i) (bits_below b (24 * i + 17) 5);
      columns = h.columns;
    }

-- a record of the log is one of the bytes' records
log_record : (b : List ℕ) (i : ℕ) (r : Record) → get_elem? (log_of b) i ≡ some r → (i < record_count b) × (record_at b i ≡ r)
log_record b i r e = go (dec_lt i (record_count b))
  where
    go : Dec (i < record_count b) → (i < record_count b) × (record_at b i ≡ r)
    go (yes h) = (h, some-injective _ r (sym (log_element b i h) ∙ e))
    go (no h) = absurd (none-ne-some r (sym (log_past b i (omega arith)) ∙ e))

-- the records of a log that is not refused are tidy
pub accepted_tidy : (b : List ℕ) → log_refusal b ≡ none → AllTidy (log_of b)
accepted_tidy b e =
    all_tidy (log_of b) (λ i r q. let x = log_record b i r q in subst Tidy x.1 (record_tidy b i ((accepted b e).right i x.0)))

-- ---- from bytes to a log and back

packed_record : (b : List ℕ) (i : ℕ) → RightRecord b i → packed (record_at b i) ≡ bits_at b (24 * i) 24
unfolding packed
packed_record b i h =
    let number : kind_number (kind_of (kind_at b i)) ≡ kind_at b i = number_back (kind_at b i) h.kind_least h.kind_most in
    rw
    (record_fields b i, number)
    (omega (
      arith,
      kind_bits b i,
      spare_bits b i,
      h.spare,
      bits_add b (24 * i) 22 2,
      bits_add b (24 * i) 17 5,
      bits_add b (24 * i) 12 5,
      bits_add b (24 * i) 7 5,
      bits_add b (24 * i) 4 3,
    ))

-- three bytes are known by their number
same_three : (x y z x' y' z' : ℕ) → y < 256 → z < 256 → y' < 256 → z' < 256 → (x * 256 + y) * 256 + z ≡ (x' * 256 + y') * 256 + z'
    → (x ≡ x') × (y ≡ y') × (z ≡ z')
same_three x y z x' y' z' p q p' q' e = omega arith

-- bytes are known by their words of 24 bits
same_byte : (b c : List ℕ) → ((j : ℕ) → get_or b j 0 < 256) → ((j : ℕ) → get_or c j 0 < 256)
    → (j : ℕ) → bits_at b (24 * (j / 3)) 24 ≡ bits_at c (24 * (j / 3)) 24 → get_or b j 0 ≡ get_or c j 0
same_byte b c h h' j e = go (j % 3) refl
  where
    i : ℕ
    i = j / 3

    three : (get_or b (3 * i) 0 ≡ get_or c (3 * i) 0) × (get_or b (3 * i + 1) 0 ≡ get_or c (3 * i + 1) 0) × (get_or b (3 * i + 2) 0 ≡ get_or c (3 * i + 2) 0)
    three =
        let word = word24 b i (h (3 * i)) (h (3 * i + 1)) (h (3 * i + 2)) in
        let word' = word24 c i (h' (3 * i)) (h' (3 * i + 1)) (h' (3 * i + 2)) in
        same_three _ _ _ _ _ _ (h (3 * i + 1)) (h (3 * i + 2)) (h' (3 * i + 1)) (h' (3 * i + 2)) (sym word ∙ e ∙ word')

    go : (k : ℕ) → j % 3 ≡ k → get_or b j 0 ≡ get_or c j 0
    go zero m = let place : j ≡ 3 * i = omega arith in rw place three.0
    go (suc zero) m = let place : j ≡ 3 * i + 1 = omega arith in rw place three.1
    go (suc (suc zero)) m = let place : j ≡ 3 * i + 2 = omega arith in rw place three.2
    go (suc (suc (suc k))) m = absurd (omega arith)

-- bytes that are not refused are the bytes of their log
pub bytes_of_log_of : (b : List ℕ) → ((j : ℕ) → get_or b j 0 < 256) → log_refusal b ≡ none → bytes_of (log_of b) ≡ b
bytes_of_log_of b h e = ext_get_or 0 (bytes_of (log_of b)) b long same
  where
    tidy : AllTidy (log_of b)
    tidy = accepted_tidy b e

    long : length (bytes_of (log_of b)) ≡ length b
    long = length_bytes (log_of b) ∙ ap (λ (n : ℕ). 3 * n) (count_log b) ∙ sym (accepted b e).length_threes

    same : (j : ℕ) → j < length (bytes_of (log_of b)) → get_or (bytes_of (log_of b)) j 0 ≡ get_or b j 0
    same j n =
        let inside : j / 3 < record_count b = omega (arith, long, (accepted b e).length_threes) in
        let right : RightRecord b (j / 3) = (accepted b e).right (j / 3) inside in
        let placed : Placed (bytes_of (log_of b)) (j / 3) (record_at b (j / 3)) = bytes_placed (log_of b) (j / 3) _ (log_element b (j / 3) inside) in
        let word = placed_word (bytes_of (log_of b)) (j / 3) (record_at b (j / 3)) (record_tidy b (j / 3) right) placed in
        same_byte (bytes_of (log_of b)) b (byte_below (log_of b) tidy) h j (word ∙ packed_record b (j / 3) right)
