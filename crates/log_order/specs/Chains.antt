-- Happens-before, and the accesses that a log leaves unordered (document 01, "The log and its order"). A log is a list, oldest first, and a
-- record's index counts from 0. Assumes nothing.
use Rattle.std.specs.Prelude.{ℕ, ◌<◌, ◌≤◌, ◌≡◌, List, T}
use Rattle.std.proofs.Math.Option.{some}
use Rattle.std.proofs.Math.ListN.{get_elem?}
use Rattle.format.specs.Version.{Version}
use Rattle.log_records.specs.Record.{write, Record, is_plain}
use Rattle.log_order.specs.Pairs.{Pair}

-- record i of the log L is r
abbrev pub At : List Record → ℕ → Record → Type 0
At L i r = get_elem? L i ≡ some r

-- "Record i is paired with a later record j"
pub record Linked (v : Version) (L : List Record) (i j : ℕ) : Type 0 where
  pub earlier : Record
  pub later : Record
  pub at_i : At L i earlier
  pub at_j : At L j later
  pub before : i < j
  pub paired : Pair v earlier later

-- "Happens-before is the chains of these pairs: one pair or more, each beginning at the record where the one before ended."
pub data Chain (v : Version) (L : List Record) (i : ℕ) : ℕ → Type 0 where
  one : {j : ℕ} → Linked v L i j → Chain v L i j
  more : {j k : ℕ} → Chain v L i j → Linked v L j k → Chain v L i k

-- "A plain write in the log is a record of kind 3.": w is one of field f of object o
pub record Writes (w : Record) (o f : ℕ) : Type 0 where
  pub is_write : w.kind ≡ write
  pub same_object : w.object ≡ o
  pub same_field : w.field ≡ f

-- "the latest such write": record i is the latest plain write of field f of object o before index j
pub record LastWrite (L : List Record) (j o f i : ℕ) : Type 0 where
  pub write_record : Record
  pub at_i : At L i write_record
  pub writes : Writes write_record o f
  pub before : i < j
  pub latest : (m : ℕ) (w : Record) → At L m w → Writes w o f → m < j → m ≤ i

-- "A plain access (2, 3, 10, 11) is unordered when an earlier kind 3 of its object and field exists and no chain leads to it from the latest
-- such write.": by this a run stops (demand 3); the judge goes by `Conflicting` (document 02, E7)
pub record Unordered (v : Version) (L : List Record) (j : ℕ) : Type 0 where
  pub access : Record
  pub at_j : At L j access
  pub plain : T (is_plain access.kind)
  pub last : ℕ
  pub is_last : LastWrite L j access.object access.field last
  pub no_chain : Chain v L last j → ⊥
