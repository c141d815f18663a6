-- What the log's author can do wrong (document 01, "Who can cause a refusal", 11 and 12). Assumes nothing.
use Rattle.std.specs.Prelude.{ℕ, suc, ◌%◌, Bool, ◌&&◌, ◌||◌, not, List, [], ◌∷◌, eqb, ltb, leb, length}
use Rattle.std.proofs.Math.Option.{Option}
use Rattle.format.specs.Refusal.{Refusal, Check, check, check_whole, first_refusal}
use Rattle.log_records.specs.Record.{Kind, new, read, write, readv, writev, acquire, release, fork, join, lacks_read, lacks_write}
use Rattle.log_records.specs.Packed.{kind_at, spare_at, record_at, record_count}

-- ---- 11: "length no multiple of 3, or over 12,288"

unfoldable pub wrong_log_length : List ℕ → Bool
wrong_log_length b = not (eqb (length b % 3) 0) || ltb 12288 (length b)

-- ---- 12

-- "a plain or volatile access with field 0, a fork or join with field over 7, or anything but 0 in [..] an unused column or the value of kind 10": the
-- columns field and value of each kind
abbrev pub wrong_columns : Kind → ℕ → ℕ → Bool
wrong_columns new f v = not (eqb f 0) || not (eqb v 0)
wrong_columns read f v = eqb f 0
wrong_columns write f v = eqb f 0
wrong_columns readv f v = eqb f 0
wrong_columns writev f v = eqb f 0
wrong_columns acquire f v = not (eqb f 0) || not (eqb v 0)
wrong_columns release f v = not (eqb f 0) || not (eqb v 0)
wrong_columns fork f v = ltb 7 f || not (eqb v 0)
wrong_columns join f v = ltb 7 f
wrong_columns lacks_read f v = eqb f 0 || not (eqb v 0)
wrong_columns lacks_write f v = eqb f 0

-- "a record with kind 0 or over 11, a 10 or 11 that is not last, [..] or anything but 0 in a spare bit [..]. Nothing else is tested."
unfoldable pub wrong_record : List ℕ → ℕ → Bool
unfolding kind_at spare_at record_at record_count
wrong_record b i =
    eqb (kind_at b i) 0
    || ltb 11 (kind_at b i)
    || (leb 10 (kind_at b i) && not (eqb (suc i) (record_count b)))
    || wrong_columns (record_at b i).kind (record_at b i).field (record_at b i).value
    || not (eqb (spare_at b i) 0)

-- "the lowest pick or record for 9 and 12"
unfoldable pub log_checks : List ℕ → List Check
unfolding wrong_log_length wrong_record record_count
log_checks b = check_whole 11 (wrong_log_length b) ∷ check 12 (record_count b) (wrong_record b) ∷ []

-- the refusal of a log; none for a well-formed log
unfoldable pub log_refusal : List ℕ → Option Refusal
unfolding log_checks first_refusal
log_refusal b = first_refusal (log_checks b)
