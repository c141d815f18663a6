-- What a look says against what a thread of the abstract machine can do, and the facts of the state that both read. Assumes nothing.
use Prim.Native.Nat.{ℕ, ◌+◌, ◌-◌, ◌*◌, ◌/◌, ◌%◌, ◌^◌, ◌≤◌, ◌<◌}
use native.Mathlib.Nat.{mod-eq_of_lt}
use native.Mathlib.Omega.{arith}
use mathlib.Core.Path.{◌≡◌, refl, sym, ap, ap₂, ◌∙◌, subst as along}
use mathlib.Core.Bool.{Bool, true, false, cond}
use mathlib.Core.List.{List}
use mathlib.Core.Option.{Option, some, none}
use lib.Dec.{eqb}
use lib.ListN.{length, get_or, get_elem?}
use Rattle.run_keys.specs.declared.KeySet.{KeySet}
use Rattle.run_keys.specs.Keys.{Keys, holds, subset}
use Rattle.run_keys.specs.Inner.KeySet.{keys_of, holds_of}
use Rattle.run_keys.proofs.KeyLaws.{subset_singleton}
use Rattle.run_keys.proofs.KeySetLaws.{Fits, keys_holds}
use Rattle.plan_packed.specs.Format.{mask_bit, volatiles}
use Rattle.plan_packed.specs.Trees.{program_of}
use Rattle.plan_packed.specs.Check.{refusal}
use Rattle.plan_packed.proofs.Accepted.{accepted}
use Rattle.log_records.specs.Record.{Record, kind_number}
use Rattle.rules.specs.State.{field_of, monitor_of}
use Rattle.rules.specs.State as rules
use Rattle.rules.specs.Step.{for_monitor, for_join, for_notify, missing_field, not_thread, not_held}
use Rattle.rules.proofs.Placed as placed
use Rattle.rules.proofs.StateLaws.{outside}
use Rattle.machine.specs.Inner.Frames as frames
use Rattle.machine.specs.Inner.Machine as machine
use Rattle.machine.specs.Inner.Playing.{table_of}
use Rattle.machine.proofs.MemoryLaws.{lookup_of, monitor_of_lem}
use Rattle.machine.proofs.Meaning.{redex_of, mean}
use Rattle.machine.proofs.Runs.{Reached}
use Rattle.machine.proofs.Standing.{standing}
use Rattle.run_frames.specs.declared.refocusing.Ready.{Ready}
use Rattle.run_state.specs.declared.Setting.{Setting}
use Rattle.run_state.specs.declared.Cell.{Cell}
use Rattle.run_state.specs.declared.Object.{Object}
use Rattle.run_state.specs.declared.Counts.{Counts}
use Rattle.run_state.specs.declared.Entry.{Entry}
use Rattle.run_look.specs.declared.Block.{Block}
use Rattle.run_look.specs.declared.Block.TheVariants as block
use Rattle.run_look.specs.declared.Sight.{Sight}
use Rattle.run_look.specs.declared.Sight.TheVariants as sight
use Rattle.run_look.specs.Inner.Look.{has_of, object_of}
use Rattle.run_look.specs.Inner.Look as look
use Rattle.run_pick.specs.Inner.Pick.{lack_entry}
use Rattle.run_engine.specs.Inner.Engine.{no_cell, no_object}
use Rattle.refinement.proofs.States.{cell_meant, CellFits, memory_of, Kept}
use Rattle.refinement.proofs.MemoryOf.{memory_cell, memory_mask}

-- ---- records

-- an entry of the code, of thread p, is a record: its numbers, which fit
pub record Written (p : ℕ) (e : Entry) (r : Record) : Type 0 where
  pub kind : e.kind ≡ kind_number r.kind
  pub thread : p ≡ r.thread
  pub object : e.object ≡ r.object
  pub field : e.field ≡ r.field
  pub value : e.value ≡ r.value
  pub thread_fits : p < 8
  pub object_fits : e.object < 32
  pub field_fits : e.field < 32
  pub value_fits : e.value < 32

-- an entry of kind 0 is none
abbrev pub Entered : ℕ → Entry → Option Record → Type 0
Entered p e none = e.kind ≡ 0
Entered p e (some r) = Written p e r

-- ---- what a look says

-- a thread at redex r that is blocked; no accepted plan comes to a redex without a rule
abbrev pub BlockedBy : Block → Ready → machine.Attempt → Type 0
BlockedBy block.Finished r A = A ≡ machine.finished r.first
BlockedBy block.Monitor r A = A ≡ machine.waiting (for_monitor (object_of r))
BlockedBy block.Join r A = A ≡ machine.waiting (for_join (object_of r))
BlockedBy block.Notify r A = A ≡ machine.waiting (for_notify (object_of r))
BlockedBy block.Field r A = A ≡ machine.stuck (missing_field (object_of r) (look.field_of r))
BlockedBy block.Thread r A = A ≡ machine.stuck (not_thread (object_of r))
BlockedBy block.NotHeld r A = A ≡ machine.stuck (not_held (object_of r))
BlockedBy block.NoRule r A = ⊥

-- thread p, at redex r, sees w; where it is ready, Z holds of its move
abbrev pub MeetsBy : Sight → ℕ → Ready → machine.Attempt → (machine.Move → Type 0) → Type 0
MeetsBy sight.Ready p r A Z = (v : machine.Move) × (A ≡ machine.moves v) × Z v
MeetsBy sight.Lacking p r A Z =
    (x : Record) × (A ≡ machine.lacking x) × (x.object ≡ object_of r) × (x.field ≡ look.field_of r) × Written p (lack_entry r) x
MeetsBy (sight.Blocked x) p r A Z = BlockedBy x r A

-- ---- what is read

-- the bit of a field
has_bit : (mask f : ℕ) → f < 32 → has_of mask f ≡ eqb (mask_bit mask f) 1
unfolding has_of mask_bit
has_bit mask f h = ap (λ (x : ℕ). eqb (mask / 2 ^ (31 - x) % 2) 1) (mod-eq_of_lt h)

pub volatile_bit : (b : List ℕ) (f : ℕ) → f < 32 → (table_of b).is_volatile f ≡ has_of (volatiles b) f
unfolding table_of
volatile_bit b f h = sym (has_bit (volatiles b) f h)

-- field 0, the monitor, is volatile
pub monitor_bit : (b : List ℕ) → refusal b ≡ none → has_of (volatiles b) 0 ≡ true
monitor_bit b ok = has_bit (volatiles b) 0 (omega arith) ∙ ap (λ (x : ℕ). eqb x 1) (accepted b ok).monitor_volatile

pub meant_value : (x : Bool) (c : Cell) → (cell_meant x c).value ≡ c.value
meant_value true c = refl
meant_value false c = refl

counted : (setting : Setting) (cs : List Cell) (ts : List Object) (n o : ℕ) → o < n → o < (memory_of setting cs ts n).count
unfolding memory_of
counted setting cs ts n o h = h

module _ {setting : Setting} {cs : List Cell} {ts : List Object} {n : Counts} {s : machine.State} (k : Kept setting cs ts n s) where
  pub lookup_cell : (o f : ℕ) → o < n.objects → o < 32 → 0 < f → f < 32
      → machine.lookup s o f ≡ cond (has_of (get_or ts o no_object).mask f) (some (cell_meant (has_of setting.mask f) (get_or cs (o * 32 + f) no_cell))) none
  unfolding machine.lookup
  lookup_cell o f i p z q =
      ap (λ (l : List rules.Object). field_of (get_elem? l o) f) k.objects
      ∙ lookup_of (memory_of setting cs ts n.objects) o f (counted setting cs ts n.objects o i) z q
      ∙ ap₂ (λ (x : Bool) (c : rules.Cell). cond x (some c) none)
      (ap (λ (a : ℕ). eqb (mask_bit a f) 1) (memory_mask setting cs ts n.objects o i) ∙ sym (has_bit (get_or ts o no_object).mask f q))
      (memory_cell setting cs ts n.objects o f p q)

  pub monitor_cell : (o : ℕ) → has_of setting.mask 0 ≡ true → o < n.objects → o < 32 → machine.monitor s o ≡ cell_meant true (get_or cs (o * 32 + 0) no_cell)
  unfolding machine.monitor
  monitor_cell o v i p =
      ap (λ (l : List rules.Object). machine.cell_or (monitor_of (get_elem? l o))) k.objects
      ∙ ap machine.cell_or (monitor_of_lem (memory_of setting cs ts n.objects) o (counted setting cs ts n.objects o i))
      ∙ memory_cell setting cs ts n.objects o 0 p (omega arith)
      ∙ ap (λ (x : Bool). cell_meant x (get_or cs (o * 32 + 0) no_cell)) v

-- ---- what a thread can do

module _ (table : machine.Table) (s : machine.State) (p : ℕ) where
  pub attempt_absent : length s.threads ≤ p → machine.attempt table s p ≡ machine.absent
  unfolding machine.attempt
  attempt_absent h = ap (machine.attempt_by table s p) (outside s.threads p h)

  module _ (t : machine.Thread) (there : get_elem? s.threads p ≡ some t) where
    attempt_here : machine.attempt table s p ≡ machine.attempt_at table s p t t.expression
    unfolding machine.attempt
    attempt_here = ap (machine.attempt_by table s p) there

    pub attempt_value : (v : ℕ) → t.expression ≡ frames.Found.value v → machine.attempt table s p ≡ machine.finished v
    unfolding machine.attempt_at
    attempt_value v e = attempt_here ∙ ap (machine.attempt_at table s p t) e

    -- an expression that is ready
    pub attempt_act : (S : List frames.Frame) (R : frames.Ready) (A : machine.Act) → t.expression ≡ frames.Found.here S R → machine.act table s p t R ≡ A
        → machine.attempt table s p ≡ machine.around table p S A
    unfolding machine.attempt_at
    attempt_act S R A e h = attempt_here ∙ ap (machine.attempt_at table s p t) e ∙ ap (machine.around table p S) h

    -- a condition that is ready
    pub attempt_condition : (S : List frames.Frame) (Q : frames.Readyᶜ) → t.expression ≡ frames.Found.hereᶜ S Q
        → machine.attempt table s p
        ≡ machine.moves (record { rule = (machine.actᶜ table S Q).rule; entry = none; state = machine.become s p (machine.actᶜ table S Q).expression })
    unfolding machine.attempt_at
    attempt_condition S Q e = attempt_here ∙ ap (machine.attempt_at table s p t) e

-- what is ready is there
pub ready_there : (b : List ℕ) (s : machine.State) (p : ℕ) (t : machine.Thread) → Reached (table_of b) (program_of b) s → get_elem? s.threads p ≡ some t
    → (S : List frames.Frame) (R : frames.Ready) → t.expression ≡ frames.Found.here S R
    → placed.Ready (program_of b) (length s.objects) (redex_of (table_of b).node (table_of b).count R)
ready_there b s p t r there S R e =
    (along (λ (F : frames.Found). placed.Good (program_of b) (length s.objects) (mean (table_of b).node (table_of b).count F)) e
    (standing (table_of b) (program_of b) s p t r there).good).1

-- a plain field's one key
pub one_key : (c : Cell) (ks : KeySet) (K : Keys) → CellFits c → Fits ks → keys_of ks ≡ K → subset (cell_meant false c).keys K ≡ holds_of ks (c.key % 256)
one_key c ks K f g e = subset_singleton c.key K ∙ ap (λ (L : Keys). holds L c.key) (sym e) ∙ sym (keys_holds c.key f.key g)
    ∙ ap (holds_of ks) (sym (mod-eq_of_lt f.key))
