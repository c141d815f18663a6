-- What the code does to enter or to leave a monitor is what the abstract machine's move does. Assumes nothing.
use Prim.Native.Nat.{ℕ, ◌+◌, ◌*◌, ◌%◌, ◌<◌}
use native.Mathlib.Nat.{mod-eq_of_lt}
use native.Mathlib.Omega.{arith}
use mathlib.Core.Path.{◌≡◌, refl, sym, ap, ap₂, ◌∙◌, subst as along}
use mathlib.Core.Bool.{Bool, true, false, cond}
use mathlib.Core.List.{List, ◌∷◌}
use mathlib.Core.Option.{some}
use lib.Dec.{eqb}
use lib.ListN.{get_or, set}
use Rattle.run_keys.specs.declared.KeySet.{KeySet}
use Rattle.run_keys.specs.Keys.{Keys, empty, is_empty, count_new}
use Rattle.run_keys.specs.Inner.KeySet.{keys_of, empty_set, join_of, new_of, joined_of, is_empty_of}
use Rattle.run_keys.proofs.KeySetLaws.{keys_empty, keys_is_empty, fits_empty, fits_join}
use Rattle.plan_packed.specs.Format.{terms}
use Rattle.plan_packed.specs.Trees.{node_at, program_of}
use Rattle.log_records.specs.Record.{entry}
use Rattle.log_records.specs.Record as records
use Rattle.rules.specs.State as rules
use Rattle.rules.specs.Rules.{e_re_enter, e_acquire, e_release}
use Rattle.rules.specs.Step.{for_monitor}
use Rattle.machine.specs.Inner.Frames as frames
use Rattle.machine.specs.Inner.Refocusing.{enter, up}
use Rattle.machine.specs.Inner.Refocusing as refocus
use Rattle.machine.specs.Inner.Machine as machine
use Rattle.machine.specs.Inner.Playing.{table_of}
use Rattle.machine.specs.Inner.Playing as playing
use Rattle.machine.proofs.Standing.{standing}
use Rattle.machine.proofs.Sorted.{Well}
use Rattle.run_frames.specs.Inner.RedexKinds.{RedexKind as redex}
use Rattle.run_frames.specs.Inner.Going.{ready_of, go_run, go_want, go_value}
use Rattle.run_state.specs.declared.Cell.{Cell}
use Rattle.run_state.specs.declared.Counts.{Counts}
use Rattle.run_look.specs.declared.Block.TheVariants as block
use Rattle.run_look.specs.declared.Sight.TheVariants as sight
use Rattle.run_look.specs.Inner.Look.{object_by, field_by, look_synch}
use Rattle.run_state.specs.Inner.Acted.{entry_of, no_entry, nothing, cell_of, acted_of, heard_of}
use Rattle.run_monitors.specs.Inner.Monitors.{hold_frame, act_synch, act_hold}
use Rattle.run_engine.specs.Inner.Engine as engine
use Rattle.run_engine.specs.Inner.Engine.{no_cell, head_at}
use Rattle.refinement.proofs.Meant.{closed, IsExpression}
use Rattle.refinement.proofs.States.{setting_of, cell_meant, CellFits, Kept}
use Rattle.refinement.proofs.Tests.{test_true, test_false}
use Rattle.refinement.proofs.KeptLaws.{kept_changed, kept_past, kept_monitor}
use Rattle.refinement.proofs.Looks.{MeetsBy, monitor_bit, monitor_cell, ready_there}
use Rattle.refinement.proofs.Moves.{Mover, Acts}
use Rattle.refinement.proofs.Moving.{head_for, unlearnt, gained, joined, joined_new, moved, plain, object_there, written, attempts}

module _ {b : List ℕ} {m : engine.EngineState} {s : machine.State} {p : ℕ} (mover : Mover b m s p) where
  open m use {cells as cs, objects as ts}
  open mover use {ok, thread as t, there, reached as reach}
  open mover.related use {kept as k}
  open mover.headed use {stack as S, object as same, keys as known, keys_fit as fits}

  abbrev n : Counts
  n = m.tally.counts

  abbrev ks : KeySet
  ks = (head_at m.heads p).keys

  abbrev self : ℕ
  self = (head_at m.heads p).object

  -- a monitor is stored to
  pub monitor_stored : (o i : ℕ) (c : Cell) (x : rules.Cell) → i ≡ o * 32 + 0 → cell_meant true c ≡ x → CellFits c → o < n.objects → o < 32
      → Kept (setting_of b) (set cs i c) (set ts n.objects nothing) n (machine.store_monitor s o x)
  monitor_stored o i c x ei e fit o_there ho =
      let z = kept_past (kept_monitor k o c (monitor_bit b ok) o_there ho fit) nothing in
      let z₁ = along (λ (a : ℕ). Kept (setting_of b) (set cs a c) (set ts n.objects nothing) n (machine.store_monitor s o (cell_meant true c))) (sym ei) z in
      along (λ (x : rules.Cell). Kept (setting_of b) (set cs i c) (set ts n.objects nothing) n (machine.store_monitor s o x)) e z₁

  -- E-RE-ENTER, E-ACQUIRE
  pub synch_meets : (o u w environment i : ℕ) → i ≡ o * 32 + 0 → Well S → o < 32 → IsExpression b u
      → t.expression ≡ frames.Found.here S (frames.Ready.synch o (closed u environment))
      → MeetsBy (look_synch (head_for m p (ready_of redex.Synch o u w environment)) (get_or cs i no_cell)) p (ready_of redex.Synch o u w environment)
      (machine.attempt (table_of b) s p)
      (Acts mover (ready_of redex.Synch o u w environment) i (act_synch n (head_for m p (ready_of redex.Synch o u w environment)) (get_or cs i no_cell) o u
      environment))
  unfolding object_by field_by look_synch act_synch machine.act machine.synch_act machine.around machine.gain machine.store_monitor playing.no_room_before refocus.go
      table_of
  synch_meets o u w environment i ei well ho hu code =
      by (is_empty_of c.keys) (eqb c.value self) (sym (keys_is_empty c.keys)) (ap (eqb c.value) (sym same))
    where
      c : Cell
      c = get_or cs i no_cell

      fit : CellFits c
      fit = k.cells_fit i

      o_there : o < n.objects
      o_there = object_there mover o (ready_there b s p t reach there S (frames.Ready.synch o (closed u environment)) code).0

      found : machine.monitor s o ≡ cell_meant true c
      found = monitor_cell k o (monitor_bit b ok) o_there ho ∙ ap (λ (i : ℕ). cell_meant true (get_or cs i no_cell)) (sym ei)

      self_fits : t.self < 32
      self_fits = let z = (standing (table_of b) (program_of b) s p t reach there).self_there in let l = reach.roomy.objects32 in omega arith

      c' : Cell
      c' = cell_of self 0 empty_set

      acted : machine.act (table_of b) s p t (frames.Ready.synch o (closed u environment)) ≡ machine.synch_act s p t o (closed u environment) (cell_meant true c)
      acted = ap (machine.synch_act s p t o (closed u environment)) found

      by : (x y : Bool) → is_empty (keys_of c.keys) ≡ x → eqb c.value t.self ≡ y
          → MeetsBy (cond x (cond y sight.Ready (sight.Blocked block.Monitor)) sight.Ready) p (ready_of redex.Synch o u w environment)
          (machine.attempt (table_of b) s p)
          (Acts mover (ready_of redex.Synch o u w environment) i (cond x
          (acted_of (go_run u environment) n ks c no_entry)
          (heard_of (go_want (hold_frame environment o) u) n (joined_of ks c.keys) c' (entry_of (records.kind_number records.Kind.acquire) o 0 0))))
      by true true e q = (
        _,
        attempts mover (frames.Ready.synch o (closed u environment)) code
            (acted ∙ test_true (is_empty (keys_of c.keys)) _ _ e ∙ test_true (eqb c.value t.self) _ _ q),
        plain mover _ i e_re_enter (enter (node_at b) (terms b) S (closed u environment)) (go_run u environment) refl refl refl (well, hu, refl),
      )
      by true false e q =
          attempts mover (frames.Ready.synch o (closed u environment)) code
          (acted ∙ test_true (is_empty (keys_of c.keys)) _ _ e ∙ test_false (eqb c.value t.self) _ _ q)
          ∙ ap (λ (o : ℕ). machine.waiting (for_monitor o)) (sym (mod-eq_of_lt ho))
      by false y e q = (
        _,
        attempts mover (frames.Ready.synch o (closed u environment)) code (acted ∙ test_false (is_empty (keys_of c.keys)) _ _ e),
        moved mover _ i e_acquire (some (entry records.Kind.acquire p o 0 0))
            (machine.hear (machine.store_monitor s o (rules.cell empty t.self)) p (keys_of c.keys))
            (enter (node_at b) (terms b) (frames.Frame.hold o ∷ S) (closed u environment)) (go_want (hold_frame environment o) u) n
            (join_of ks c.keys) (new_of ks c.keys) c' nothing (entry_of (records.kind_number records.Kind.acquire) o 0 0) refl
            (written mover records.Kind.acquire o 0 0 ho (omega arith) (omega arith)) refl refl
            (record { first_fits = omega arith; second_fits = omega arith; member_fits = omega arith; count_fits = omega arith; sorted = ho }, well, hu, refl)
            (fits_join fits fit.keys)
            (gained mover (keys_of c.keys) _ (count_new (keys_of c.keys)) _ (joined mover c.keys fit.keys)
            (joined_new mover c.keys fit.keys))
            (kept_changed (monitor_stored o i c' _ ei (ap₂ rules.cell keys_empty (ap (λ (a : ℕ). a % 32) same ∙ mod-eq_of_lt self_fits))
            (record { key = omega arith; keys = fits_empty }) o_there ho) p _ (λ x. refl)),
      )

  -- E-RELEASE
  pub hold_meets : (o v w environment i : ℕ) → i ≡ o * 32 + 0 → Well S → o < 32 → v < 32 → t.expression ≡ frames.Found.here S (frames.Ready.hold o v)
      → MeetsBy sight.Ready p (ready_of redex.Hold o v w environment) (machine.attempt (table_of b) s p)
      (Acts mover (ready_of redex.Hold o v w environment) i (act_hold n (head_for m p (ready_of redex.Hold o v w environment)) o v))
  unfolding machine.act machine.around machine.store_monitor playing.no_room_before refocus.go table_of
  hold_meets o v w environment i ei well ho hv code = (
    _,
    attempts mover (frames.Ready.hold o v) code refl,
    moved mover _ i e_release (some (entry records.Kind.release p o 0 0)) (machine.store_monitor s o (rules.cell t.keys 0)) (up (node_at b) (terms b) S v)
        (go_value v) n
        ks 0 (cell_of 0 0 ks) nothing (entry_of (records.kind_number records.Kind.release) o 0 0) refl
        (written mover records.Kind.release o 0 0 ho (omega arith) (omega arith)) refl refl
        (well, hv, refl) fits (unlearnt mover)
        (monitor_stored o i (cell_of 0 0 ks) _ ei (ap (λ (K : Keys). rules.cell K 0) known) (record { key = omega arith; keys = fits })
        (object_there mover o (ready_there b s p t reach there S (frames.Ready.hold o v) code).0) ho),
  )
