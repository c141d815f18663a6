-- Demand 3 of one run (README, "What is proved"), "a single claim about the whole list of picks of one play" (document 01). Lines in quotation marks below
-- are demand 3's, or document 01's words on it. Assumes nothing.
use Rattle.std.specs.Prelude.{ℕ, suc, ◌<◌, ◌≡◌, List, ◌↔◌, T, length}
use Rattle.std.proofs.Math.Option.{Option, some, none}
use Rattle.std.proofs.Math.ListN.{get_elem?}
use Rattle.log_order.specs.Chains.{At, Unordered}
use Rattle.log_conflicts.specs.Judge.{Judged, named, Answers}
use Rattle.plan_packed.specs.Syntax.{Program}
use Rattle.log_records.specs.Record.{Record, is_plain, lacks_key}
use Rattle.log_records.specs.Packed.{bytes_of, log_of}
use Rattle.log_records.specs.Refusals.{log_refusal}
use Rattle.rules.specs.Rules.{Lacks}
use Rattle.rules.specs.Run.{Stop, end, race, no_room, Run, log}

-- "A run stops for want of a key exactly when its outcome is race; then the last record [..] is that access": record j of the log is where the run
-- stopped for want of its key
pub record StoppedAt (r : Run) (j : ℕ) : Type 0 where
  pub raced : r.stop ≡ race
  pub is_last : suc j ≡ length (log r)

-- "When a run stops for a missing key, the judge names that record or an earlier one; a judge that finds none means no missing key" (document 02, E7):
-- by the stop, the count of records and what the judge names
abbrev pub NamedBy : Stop → ℕ → Option ℕ → Type 0
NamedBy end records a = Unit {0}
NamedBy race records none = ⊥
NamedBy race records (some i) = i < records
NamedBy (no_room k) records a = Unit {0}

-- of the run r of the picks on program g
pub record Agreement (g : Program) (picks : List ℕ) (r : Run) : Type 0 where
  -- "a plain access in the log is where the run stopped for want of its key exactly when its field has an earlier plain write and no happens-before
  -- chain leads from the last such write to it"
  pub stops : (j : ℕ) (x : Record) → At (log r) j x → T (is_plain x.kind) → StoppedAt r j ↔ Unordered g.version (log r) j
  -- "then the last record, and no other, is of kind 10 or 11"
  pub lacks : (j : ℕ) (x : Record) → At (log r) j x → T (lacks_key x.kind) ↔ StoppedAt r j
  pub recorded : r.stop ≡ race → 0 < length (log r)
  -- "and is that access": it is the access whose key the thread picked last lacks
  pub that_access : (j : ℕ) (x : Record) → At (log r) j x → StoppedAt r j → (p : ℕ) × (get_elem? picks r.picks ≡ some p) × Lacks g r.final p x
  -- "The judge gets just the run's records, as written, and finds nothing to refuse in them."
  pub as_written : log_of (bytes_of (log r)) ≡ log r
  pub not_refused : log_refusal (bytes_of (log r)) ≡ none
  -- what the judge answers, given only the log: an index or none, and by E7
  pub judged : (a : Judged) → Answers g.version (bytes_of (log r)) a → (x : Option ℕ) × (a ≡ named x) × NamedBy r.stop (length (log r)) x
