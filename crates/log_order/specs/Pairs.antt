-- The pairs of records (document 01, "The log and its order"; document 001, definition 6.6). Assumes nothing.
use Rattle.std.specs.Prelude.{◌≡◌}
use Rattle.format.specs.Version.{Version, v1}
use Rattle.log_records.specs.Record.{acquire, release, readv, writev, fork, join, Record}

-- "Record i is paired with a later record j when": r is the earlier record and s the later one. "A fork or join names q by its field." A volatile pair
-- is one in version 1 alone: in version 0 (document 02, E8) volatile fields order nothing.
pub data Pair (v : Version) (r s : Record) : Type 0 where
  monitor : r.kind ≡ release → s.kind ≡ acquire → r.object ≡ s.object → Pair v r s  -- "i is a release and j an acquire of the same object"
  -- "i a volatile write and j a volatile read of the same object and field"
  volatile : v ≡ v1 → r.kind ≡ writev → s.kind ≡ readv → r.object ≡ s.object → r.field ≡ s.field → Pair v r s
  same_thread : r.thread ≡ s.thread → Pair v r s  -- "both are of one thread"
  forked : r.kind ≡ fork → r.field ≡ s.thread → Pair v r s  -- "i forks thread q and j is of q"
  joined : s.kind ≡ join → r.thread ≡ s.field → Pair v r s  -- "i is of q and j joins q"
  -- "The last pair is added here, because a forked value may have no record."
  forked_joined : r.kind ≡ fork → s.kind ≡ join → r.field ≡ s.field → Pair v r s  -- "i forks q and j joins q"
