-- A log as an ASCII data file of IEEE C37.111-1999, the monitors as digital values (document 02, E14). Assumes nothing.
use Rattle.std.specs.Prelude.{ℕ, zero, suc, ◌*◌, ◌-◌, Bool, true, false, cond, ◌&&◌, List, [], ◌∷◌, ◌++◌, eqb, length, take}
use Rattle.std.proofs.Math.Option.{Option, some, none, or_else}
use Rattle.log_records.specs.Record.{Kind, new, read, write, readv, writev, acquire, release, fork, join, lacks_read, lacks_write, Record}
use Rattle.text.specs.Text.{decimal}

-- ---- digital values

-- "acquire or release"
abbrev pub of_monitor : Kind → Bool
of_monitor new = false
of_monitor read = false
of_monitor write = false
of_monitor readv = false
of_monitor writev = false
of_monitor acquire = true
of_monitor release = true
of_monitor fork = false
of_monitor join = false
of_monitor lacks_read = false
of_monitor lacks_write = false

-- the kind of "the last acquire or release of object o" among these records, if there is one
unfoldable pub last_of : ℕ → List Record → Option Kind
unfolding or_else
last_of o [] = none
last_of o (r ∷ L) = or_else (last_of o L) (cond (of_monitor r.kind && eqb r.object o) (some r.kind) none)

-- 1 exactly when it "is an acquire, and else 0"
abbrev pub one_if_acquire : Option Kind → ℕ
one_if_acquire none = 0
one_if_acquire (some new) = 0
one_if_acquire (some read) = 0
one_if_acquire (some write) = 0
one_if_acquire (some readv) = 0
one_if_acquire (some writev) = 0
one_if_acquire (some acquire) = 1
one_if_acquire (some release) = 0
one_if_acquire (some fork) = 0
one_if_acquire (some join) = 0
one_if_acquire (some lacks_read) = 0
one_if_acquire (some lacks_write) = 0

-- digital value o after these records
unfoldable pub digital : ℕ → List Record → ℕ
unfolding last_of
digital o L = one_if_acquire (last_of o L)

-- ---- lines

-- values "parted by commas, ended by carriage return and line feed"
unfoldable pub comma_line : List (List ℕ) → List ℕ
comma_line [] = 13 ∷ 10 ∷ []  -- never asked: every line has values
comma_line (w ∷ []) = w ++ (13 ∷ 10 ∷ [])
comma_line (w ∷ (v ∷ ws)) = w ++ (44 ∷ comma_line (v ∷ ws))

-- n digital values from object o on, "in decimal without leading zeros"
unfoldable pub digitals_from : ℕ → ℕ → List Record → List (List ℕ)
unfolding decimal digital
digitals_from o zero L = []
digitals_from o (suc n) L = decimal (digital o L) ∷ digitals_from (suc o) n L

-- line n: "the sample number from 1, the time stamp (sample number less 1, times 1,000), no analog values, and 32 digital values for objects 0 to 31", these
-- "among the records up to and including this line's own"
unfoldable pub sample_line : List Record → ℕ → List ℕ
unfolding comma_line decimal digitals_from
sample_line L n = comma_line (decimal n ∷ decimal ((n - 1) * 1000) ∷ digitals_from 0 32 (take n L))

-- the first n lines: "one line for each record"
unfoldable pub sample_lines : List Record → ℕ → List ℕ
unfolding sample_line
sample_lines L zero = []
sample_lines L (suc n) = sample_lines L n ++ sample_line L (suc n)

-- "After the last line, or alone for an empty log, stands the end mark, one byte hex 1A."
unfoldable pub data_file : List Record → List ℕ
unfolding sample_lines
data_file L = sample_lines L (length L) ++ (0x1A ∷ [])
