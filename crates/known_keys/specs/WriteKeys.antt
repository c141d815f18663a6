-- The plain writes of a log and their keys, on the log alone: no reader has to know the run. Assumes nothing.
use Rattle.std.specs.Prelude.{ℕ, suc, ◌≡◌, cond, List, [], ◌∷◌, eqb, take}
use Rattle.log_records.specs.Record.{kind_number, write, Record}
use Rattle.log_order.specs.Chains.{At}

-- "A plain write in the log is a record of kind 3." (document 01): record i of the log L is one
pub record PlainWrite (L : List Record) (i : ℕ) : Type 0 where
  pub write_record : Record
  pub at_i : At L i write_record
  pub is_write : write_record.kind ≡ write

-- how many plain writes a log has
abbrev pub plain_writes : List Record → ℕ
plain_writes [] = 0
plain_writes (r ∷ L) = cond (eqb (kind_number r.kind) 3) (suc (plain_writes L)) (plain_writes L)

-- the key of the plain write at index i: the n-th plain write of the log has key n, since "a plain write stores the next unused key, 1 upward" (document 01)
abbrev pub key_at : List Record → ℕ → ℕ
key_at L i = plain_writes (take (suc i) L)
