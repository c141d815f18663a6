-- New keys (document 01, "How a thread moves"): the next unused key is in no set; every plain write of an execution stores one that was in none. Assumes
-- nothing.
use Rattle.std.specs.Prelude.{ℕ, ◌<◌, ◌≡◌, List, [], ◌∷◌, T}
use Rattle.std.proofs.Math.Option.{Option, some}
use Rattle.std.proofs.Math.ListN.{get_elem?}
use Rattle.run_keys.specs.Keys.{Keys, singleton, holds}
use Rattle.plan_packed.specs.Syntax.{Program}
use Rattle.log_records.specs.Record.{Record}
use Rattle.rules.specs.State.{Cell, cell, Thread, State, lookup, monitor}
use Rattle.rules.specs.Rules.{e_write}
use Rattle.rules.specs.Run.{Run}
use Rattle.rules.specs.Execution.{Execution, ends, passes, lacks_key_lem, no_room_lem, moves}

-- every key of the set is below n
abbrev pub KeysBelow : Keys → ℕ → Type 0
KeysBelow K n = (k : ℕ) → T (holds K k) → k < n

-- the next key is in no set
pub record Unused (s : State) : Type 0 where
  pub threads : (p : ℕ) (t : Thread) → get_elem? s.threads p ≡ some t → KeysBelow t.keys s.next_key
  pub fields : (o f : ℕ) (c : Cell) → lookup s o f ≡ some c → KeysBelow c.keys s.next_key
  pub monitors : (o : ℕ) (c : Cell) → monitor s o ≡ some c → KeysBelow c.keys s.next_key
  pub positive : 0 < s.next_key

-- ---- the keys of an execution's plain writes

-- key k is in a set: a thread's, a field's or a monitor's
module _ (s : State) (k : ℕ) where
  pub data Held : Type 0 where
    BY-THREAD : (p : ℕ) {t : Thread} → get_elem? s.threads p ≡ some t → T (holds t.keys k) → Held
    BY-FIELD : (o f : ℕ) {c : Cell} → lookup s o f ≡ some c → T (holds c.keys k) → Held
    BY-MONITOR : (o : ℕ) {c : Cell} → monitor s o ≡ some c → T (holds c.keys k) → Held

-- key k is in no set of any of these states
abbrev pub NeverHeld : List State → ℕ → Type 0
NeverHeld [] k = Unit {0}
NeverHeld (s ∷ past) k = (Held s k → ⊥) × NeverHeld past k

-- the move with this record that comes after these states leaves in the record's field one key, a new one, and the record's value
pub record StoresNew (past : List State) (e : Option Record) (s' : State) : Type 0 where
  pub access : Record
  pub recorded : e ≡ some access
  pub key : ℕ
  pub stored : lookup s' access.object access.field ≡ some (cell (singleton key) access.value)
  pub new : NeverHeld past key

-- every plain write of an execution that comes after these states stores a key that no set and no field held before: not in these states, and not in
-- the execution's own up to the write
abbrev pub WritesNew : {g : Program} {s : State} {ps : List ℕ} {r : Run} → List State → Execution g s ps r → Type 0
WritesNew past ends = Unit {0}
WritesNew past (passes h x) = WritesNew past x
WritesNew past (lacks_key_lem h) = Unit {0}
WritesNew past (no_room_lem h e) = Unit {0}
WritesNew past (moves {s} {s'} {R = R} {e = e} h k x) = (R ≡ e_write → StoresNew (s ∷ past) e s') × WritesNew (s ∷ past) x
