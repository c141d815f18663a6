-- A run and the same run without the moves that are not marked: how their states correspond. `S i` marks move i; every move is a record here, an
-- unlogged one a `new` record of its thread, which is paired through its thread only. Assumes nothing.
use Prim.Native.Nat.{ℕ, ◌<◌, ◌≤◌}
use mathlib.Core.Path.{◌≡◌}
use mathlib.Core.Bool.{Bool, true, false}
use mathlib.Core.List.{List}
use mathlib.Core.Option.{some}
use lib.Dec.{T}
use lib.ListN.{length, get_elem?}
use Rattle.format.specs.Version.{v1}
use Rattle.run_keys.specs.Keys.{Keys, empty, singleton, holds, is_empty}
use Rattle.plan_packed.specs.Syntax.{Program}
use Rattle.log_records.specs.Record.{Record}
use Rattle.log_order.specs.Pairs.{Pair}
use Rattle.log_order.proofs.Newest.{At}
use Rattle.log_order.proofs.Ports.{Port, of_thread, of_monitor, of_volatile, Feeds}
use Rattle.rules.specs.State.{Cell, Thread, State, lookup, monitor}
use Rattle.rules.specs.Rules.{is_volatile}
use Rattle.side_by_side.proofs.Like.{Naming, Like}

abbrev pub Marks : Type 0
Marks = ℕ → Bool

-- what is paired with a marked move is marked
abbrev pub Closed : Marks → List Record → Type 0
Closed S H = (i j : ℕ) (r r' : Record) → At H i r → At H j r' → i < j → Pair v1 r r' → T (S j) → T (S i)

-- all that feeds a port is marked
abbrev pub Live : Marks → List Record → Port → Type 0
Live S H q = (i : ℕ) (r : Record) → At H i r → Feeds v1 r q → T (S i)

-- every key of W has a new name, in W'
abbrev pub KeysIn : Naming → Keys → Keys → Type 0
KeysIn κ W W' = (k : ℕ) → T (holds W k) → (k' : ℕ) × (κ k ≡ some k') × T (holds W' k')

-- thread p, which is t, in the other run
pub record Mirror (ω τ κ : Naming) (us : List Thread) (p : ℕ) (t : Thread) : Type 0 where
  pub number : ℕ
  pub thread : Thread
  pub named : τ p ≡ some number
  pub there : get_elem? us number ≡ some thread
  pub expr_like : Like ω t.expression thread.expression
  pub self_like : ω t.self ≡ some thread.self
  pub keys_like : KeysIn κ t.keys thread.keys

pub record Names (ω τ κ : Naming) (s c : State) : Type 0 where
  pub zero_kept : ω 0 ≡ some 0
  pub objects : (o a : ℕ) → ω o ≡ some a → (o < length s.objects) × (a < length c.objects)
  pub objects_apart : (o o' a : ℕ) → ω o ≡ some a → ω o' ≡ some a → o ≡ o'
  pub threads : (p q : ℕ) → τ p ≡ some q → (p < length s.threads) × (q < length c.threads)
  pub threads_apart : (p p' q : ℕ) → τ p ≡ some q → τ p' ≡ some q → p ≡ p'
  pub key_zero : κ 0 ≡ some 0
  pub keys : (k k' : ℕ) → κ k ≡ some k' → k < s.next_key
  pub fewer_objects : length c.objects ≤ length s.objects
  pub fewer_threads : length c.threads ≤ length s.threads
  pub fewer_keys : c.next_key ≤ s.next_key

-- a field's cell d, and d' in the other run
pub record FieldLike (g : Program) (S : Marks) (H : List Record) (ω κ : Naming) (o f : ℕ) (d d' : Cell) : Type 0 where
  pub plain : is_volatile g f ≡ false → (k k' : ℕ) → T (holds d.keys k) → κ k ≡ some k' → (d'.keys ≡ singleton k') × (ω d.value ≡ some d'.value)
  pub volatile : is_volatile g f ≡ true → Live S H (of_volatile o f) → KeysIn κ d.keys d'.keys × (ω d.value ≡ some d'.value)

pub record Corresponds (g : Program) (S : Marks) (H : List Record) (ω τ κ : Naming) (s c : State) : Type 0 where
  pub names : Names ω τ κ s c
  pub mirrors : (p : ℕ) (t : Thread) → Live S H (of_thread p) → get_elem? s.threads p ≡ some t → Mirror ω τ κ c.threads p t
  pub fields : (o a f : ℕ) (d : Cell) → ω o ≡ some a → lookup s o f ≡ some d → (d' : Cell) × (lookup c a f ≡ some d') × FieldLike g S H ω κ o f d d'
  pub free : (o a : ℕ) (d : Cell) → ω o ≡ some a → monitor s o ≡ some d → is_empty d.keys ≡ false → Live S H (of_monitor o)
      → (d' : Cell) × (monitor c a ≡ some d') × (is_empty d'.keys ≡ false) × KeysIn κ d.keys d'.keys
  pub held : (o a p b : ℕ) (t : Thread) → ω o ≡ some a → get_elem? s.threads p ≡ some t → Live S H (of_thread p)
      → monitor s o ≡ some (record { keys = empty; value = t.self }) → ω t.self ≡ some b → monitor c a ≡ some (record { keys = empty; value = b })
