-- The judge's unordered accesses: conflicting accesses that nothing orders (document 02, E7; document 001, definitions 6.3 and 6.7). Where a run stops is said
-- by the last write, `Unordered` of `Chains`. Assumes nothing.
use Rattle.std.specs.Prelude.{ℕ, ◌<◌, ◌≡◌, List, ◌⊎◌, T}
use Rattle.format.specs.Version.{Version}
use Rattle.log_records.specs.Record.{Record, is_plain}
use Rattle.log_order.specs.Accesses.{is_write}
use Rattle.log_order.specs.Chains.{At, Chain}

-- two plain accesses (2, 3, 10, 11) "to its object and field [..], at least one of the two writes": r is the earlier and s the later
pub record Conflict (r s : Record) : Type 0 where
  pub earlier_plain : T (is_plain r.kind)
  pub later_plain : T (is_plain s.kind)
  pub same_object : r.object ≡ s.object
  pub same_field : r.field ≡ s.field
  pub one_writes : T (is_write r.kind) ⊎ T (is_write s.kind)

-- "A plain access is now unordered when some earlier plain access to its object and field exists, at least one of the two writes (kind 3 or 11),
-- and no chain joins them.": record j of the log is such an access. Chains lead from earlier records to later ones, so the chain is one from `index` to j.
pub record Conflicting (v : Version) (L : List Record) (j : ℕ) : Type 0 where
  pub access : Record
  pub at_j : At L j access
  pub other : Record
  pub index : ℕ
  pub at_index : At L index other
  pub before : index < j
  pub conflict : Conflict other access
  pub no_chain : Chain v L index j → ⊥
