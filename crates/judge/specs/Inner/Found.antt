-- What a pass finds. No reader of the entries' promises needs it. Assumes nothing.
use Rattle.std.specs.Prelude.{ℕ, ◌<◌, Bool, true, false, List, Option, Some, None, Result, Ok, Err}
use Rattle.std.proofs.Math.Option.{some, none}
use Rattle.format.specs.Version.{Version}
use Rattle.log_records.specs.Packed.{record_count, log_of}
use Rattle.log_conflicts.specs.Judge.{Names}
use Rattle.log_places.specs.declared.places.NoneLeft.{NoneLeft}

-- what a pass finds: the index of the first unordered access, or none; or that the log is at more places than the table has rows for
abbrev pub Found : Type 0
Found = Result (Option ℕ) NoneLeft

-- by a table for so many places: what the judge names, or that the log has more records than these, and there are more places
pub data Finds (v : Version) (b : List ℕ) (places : ℕ) : Found → Type 0 where
  finds_access : {i : ℕ} → Names v (log_of b) (some i) → Finds v b places (Ok (Some i))
  finds_nothing : Names v (log_of b) none → Finds v b places (Ok None)
  finds_full : {e : NoneLeft} → places < record_count b → places < 1024 → Finds v b places (Err e)

-- as an answer
abbrev pub judgement_of : Found → Option ℕ
judgement_of (Ok found) = found
judgement_of (Err e) = None

-- the table did not suffice
abbrev pub is_full : Found → Bool
is_full (Ok found) = false
is_full (Err e) = true
