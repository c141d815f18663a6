-- The picks of the kept moves of a log, for inner contracts: no reader of the entry's promise needs it. Assumes nothing.
use Rattle.std.specs.Prelude.{ℕ, zero, suc, ◌<◌, Bool, false, cond, List, get_or}
use Rattle.log_records.specs.Packed.{log_of}
use Rattle.side_by_side.specs.Schedule.{picks_of}

-- move k is kept
abbrev pub flagged : List Bool → ℕ → Bool
flagged kept k = get_or kept k false

-- how many of n moves from move i on are kept
unfoldable pub count_kept : (ℕ → Bool) → ℕ → ℕ → ℕ
count_kept kept i zero = 0
count_kept kept i (suc n) = cond (kept i) (suc (count_kept kept (suc i) n)) (count_kept kept (suc i) n)

-- the picks of a log's kept moves
abbrev pub picks_in : List ℕ → List Bool → List ℕ
picks_in b kept = picks_of (flagged kept) (log_of b)

-- picks of eight threads
abbrev pub Small : List ℕ → Type 0
Small picks = (k : ℕ) → get_or picks k 0 < 8
