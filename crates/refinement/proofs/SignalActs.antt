-- What the code does for a wait, a notify or a notify all, and for a thread that wakes, is what the abstract machine's move does. Assumes nothing.
use Prim.Native.Nat.{ℕ, zero, suc, pred, ◌+◌, ◌*◌, ◌/◌, ◌%◌, ◌<◌}
use native.Mathlib.Nat.{mod-eq_of_lt}
use native.Mathlib.Omega.{arith}
use mathlib.Core.Path.{◌≡◌, refl, sym, ap, ap₂, ◌∙◌, subst as along}
use mathlib.Core.Bool.{Bool, true, false, cond}
use mathlib.Core.List.{List, map}
use mathlib.Core.Option.{some, none}
use lib.Dec.{eqb, eqb-suc-zero}
use lib.ListN.{get_or}
use Rattle.run_keys.specs.declared.KeySet.{KeySet}
use Rattle.run_keys.specs.Keys.{Keys, empty, is_empty, count_new}
use Rattle.run_keys.specs.Inner.KeySet.{keys_of, empty_set, join_of, new_of, joined_of, is_empty_of}
use Rattle.run_keys.proofs.KeySetLaws.{keys_empty, keys_is_empty, fits_empty, fits_join}
use Rattle.plan_packed.specs.Syntax.{Signal}
use Rattle.plan_packed.specs.Format.{terms}
use Rattle.plan_packed.specs.Trees.{node_at, program_of}
use Rattle.log_records.specs.Record.{entry}
use Rattle.log_records.specs.Record as records
use Rattle.rules.specs.Queue.{Place, last_place, moved_up}
use Rattle.rules.specs.State.{change_at}
use Rattle.rules.specs.State as rules
use Rattle.rules.specs.Rules.{Rule, e_wait, e_wake, e_notify, e_notifyall}
use Rattle.rules.specs.Step.{for_monitor, for_notify, not_held}
use Rattle.rules.proofs.StateLaws.{inside}
use Rattle.rules.proofs.Relocated.{Relocated, changed_place, mapped_places}
use Rattle.machine.specs.Inner.Frames as frames
use Rattle.machine.specs.Inner.Refocusing.{up}
use Rattle.machine.specs.Inner.Refocusing as refocus
use Rattle.machine.specs.Inner.Machine as machine
use Rattle.machine.specs.Inner.Playing.{table_of}
use Rattle.machine.specs.Inner.Playing as playing
use Rattle.machine.proofs.Standing.{standing}
use Rattle.machine.proofs.Sorted.{Well}
use Rattle.run_frames.specs.Inner.RedexKinds.{RedexKind as redex}
use Rattle.run_frames.specs.declared.refocusing.Ready.{Ready}
use Rattle.run_frames.specs.Inner.Going.{ready_of, go_at, go_value}
use Rattle.run_state.specs.declared.Cell.{Cell}
use Rattle.run_state.specs.declared.Counts.{Counts}
use Rattle.run_look.specs.declared.Block.TheVariants as block
use Rattle.run_look.specs.declared.Sight.TheVariants as sight
use Rattle.run_look.specs.Inner.Look.{object_by, field_by, look_signal, look_waiting}
use Rattle.run_state.specs.Inner.Acted.{entry_of, no_entry, nothing, cell_of, acted_of, heard_of}
use Rattle.run_monitors.specs.Inner.Monitors.{act_wait, act_signal, act_wake}
use Rattle.run_queue.specs.Inner.Queue.{waited_of, notified_of, all_notified_of, signalled_of, after_of}
use Rattle.run_engine.specs.Inner.Engine as engine
use Rattle.run_engine.specs.Inner.Engine.{no_cell, head_at}
use Rattle.refinement.proofs.Meant.{signal_meant}
use Rattle.refinement.proofs.Queues.{places_of, Places, place_there, waited, notified, all_notified}
use Rattle.refinement.proofs.States.{cell_meant, CellFits}
use Rattle.refinement.proofs.Tests.{test_true, test_false}
use Rattle.refinement.proofs.KeptLaws.{kept_changed, kept_mapped, kept_past, kept_same}
use Rattle.refinement.proofs.Looks.{MeetsBy, monitor_bit, monitor_cell, ready_there}
use Rattle.refinement.proofs.Moves.{Mover, Acts}
use Rattle.refinement.proofs.Moving.{head_for, unlearnt_among, gained, joined, joined_new, moved_among, moved, object_there, written, attempts}
use Rattle.refinement.proofs.MonitorActs.{monitor_stored}

-- ---- the places after a signal, by its number

module _ (ws : List ℕ) (o j w environment p : ℕ) (ho : o < 32) where
  abbrev r : Ready
  r = ready_of redex.Signal o j w environment

  after_signal : after_of ws r p ≡ signalled_of j o p ws
  unfolding after_of
  after_signal = ap (λ (o : ℕ). signalled_of j o p ws) (mod-eq_of_lt ho)

  after_wait : eqb j 0 ≡ true → waited_of o p ws ≡ after_of ws r p
  unfolding signalled_of
  after_wait e = sym (after_signal ∙ test_true (eqb j 0) _ _ e)

  after_notify : eqb j 0 ≡ false → eqb j 1 ≡ true → notified_of o ws ≡ after_of ws r p
  unfolding signalled_of
  after_notify e q = sym (after_signal ∙ test_false (eqb j 0) _ _ e ∙ test_true (eqb j 1) _ _ q)

  after_notify_all : eqb j 0 ≡ false → eqb j 1 ≡ false → all_notified_of o ws ≡ after_of ws r p
  unfolding signalled_of
  after_notify_all e q = sym (after_signal ∙ test_false (eqb j 0) _ _ e ∙ test_false (eqb j 1) _ _ q)

module _ {b : List ℕ} {m : engine.EngineState} {s : machine.State} {p : ℕ} (mover : Mover b m s p) where
  open m use {cells as cs, objects as ts}
  open mover use {ok, thread as t, there, small, reached as reach}
  open mover.related use {kept as k, places_size, places}
  open mover.headed use {stack as S, object as same, keys as known, keys_fit as fits}

  abbrev n : Counts
  n = m.tally.counts

  abbrev ks : KeySet
  ks = (head_at m.heads p).keys

  abbrev self : ℕ
  self = (head_at m.heads p).object

  -- ---- E-WAIT, E-NOTIFY, E-NOTIFYALL

  module _ (o j w environment i : ℕ) (ei : i ≡ o * 32 + 0) (well : Well S) (ho : o < 32)
      (code : t.expression ≡ frames.Found.here S (frames.Ready.signal (signal_meant j) o)) where
    abbrev ready : Ready
    ready = ready_of redex.Signal o j w environment

    abbrev c : Cell
    c = get_or cs i no_cell

    o_there : o < n.objects
    o_there = object_there mover o (ready_there b s p t reach there S (frames.Ready.signal (signal_meant j) o) code)

    -- the monitor is the mover's
    abbrev Held : Type 0
    Held = (is_empty (keys_of c.keys) ≡ true) × (eqb c.value t.self ≡ true)

    found : machine.act (table_of b) s p t (frames.Ready.signal (signal_meant j) o) ≡ machine.signal_act s p t (signal_meant j) o (cell_meant true c)
    unfolding machine.act
    found = ap (machine.signal_act s p t (signal_meant j) o) (monitor_cell k o (monitor_bit b ok) o_there ho
        ∙ ap (λ (i : ℕ). cell_meant true (get_or cs i no_cell)) (sym ei))

    held : (K : Signal) → signal_meant j ≡ K → Held → machine.act (table_of b) s p t (frames.Ready.signal (signal_meant j) o) ≡ machine.signal_move s p t o K
    unfolding machine.signal_act
    held K z (e, q) = found ∙ test_true (is_empty (keys_of c.keys)) _ _ e ∙ test_true (eqb c.value t.self) _ _ q ∙ ap (machine.signal_move s p t o) z

    -- the threads after a wait
    waiters : List machine.Thread
    waiters = change_at s.threads p (machine.in_place (last_place o (places_of s.threads)))

    wait_acts : Held → eqb j 0 ≡ true → MeetsBy sight.Ready p ready (machine.attempt (table_of b) s p) (Acts mover ready i (act_wait n (head_for m p ready) o))
    unfolding waiters machine.signal_move machine.around machine.enqueue machine.store_monitor playing.no_room_before refocus.go table_of
    wait_acts h e =
        let relocated : Relocated s.threads waiters = changed_place s.threads p _ in (
          _,
          attempts mover (frames.Ready.signal (signal_meant j) o) code (held Signal.wait (test_true (eqb j 0) _ _ e) h),
          moved_among mover waiters _ i e_wait (some (entry records.Kind.release p o 0 0))
              (machine.enqueue (machine.store_monitor s o (rules.cell t.keys 0)) p o) (frames.Found.here S (frames.Ready.waiting o))
              (go_at (ready_of redex.Waiting o 0 0 0)) n ks 0 (cell_of 0 0 ks) nothing (entry_of (records.kind_number records.Kind.release) o 0 0) relocated
              (along (λ (ws : List ℕ). Places ws (places_of waiters)) (after_wait m.places o j w environment p ho e)
              (waited o p m.places s.threads _ ho (let l = places_size in omega (arith, small)) (inside s.threads p t there) (λ x. refl) places))
              refl (written mover records.Kind.release o 0 0 ho (omega arith) (omega arith)) refl (redex.Waiting, refl, (well, ho, refl)) fits
              (unlearnt_among mover waiters relocated)
              (kept_changed (monitor_stored mover o i (cell_of 0 0 ks) _ ei (ap (λ (K : Keys). rules.cell K 0) known)
              (record { key = omega arith; keys = fits }) o_there ho) p _ (λ x. refl)),
        )

    -- the threads after a notify or a notify all
    woken : (ℕ → ℕ) → List machine.Thread
    woken h = map (λ (x : machine.Thread). machine.in_place (moved_up h o x.place) x) s.threads

    notify_does : (h : ℕ → ℕ) (R : Rule) → playing.no_room_before s R ≡ none → Places (after_of m.places ready p) (places_of (woken h))
        → Acts mover ready i (acted_of (go_value 0) n ks c no_entry)
        (record { rule = R; entry = none; state = machine.become (machine.signalled h s o) p (up (node_at b) (terms b) S 0) })
    unfolding woken machine.signalled
    notify_does h R lack after =
        let relocated : Relocated s.threads (woken h) = mapped_places _ s.threads in
        moved_among mover (woken h) _ i R none (machine.signalled h s o) (up (node_at b) (terms b) S 0)
        (go_value 0) n ks 0 c nothing no_entry relocated after lack refl refl
        (well, omega arith, refl) fits (unlearnt_among mover (woken h) relocated) (kept_mapped (kept_past (kept_same k i) nothing) _ (λ x. refl))

    notify_acts : Held → eqb j 0 ≡ false → (y : Bool) → eqb j 1 ≡ y
        → MeetsBy sight.Ready p ready (machine.attempt (table_of b) s p) (Acts mover ready i (acted_of (go_value 0) n ks c no_entry))
    unfolding woken machine.signal_move machine.around playing.no_room_before refocus.go table_of
    notify_acts h e true q = (
      _,
      attempts mover (frames.Ready.signal (signal_meant j) o) code (held Signal.notify (test_false (eqb j 0) _ _ e ∙ test_true (eqb j 1) _ _ q) h),
      notify_does pred e_notify refl
          (along (λ (ws : List ℕ). Places ws (places_of (woken pred))) (after_notify m.places o j w environment p ho e q)
          (notified o m.places s.threads _ (λ x. refl) places)),
    )
    notify_acts h e false q = (
      _,
      attempts mover (frames.Ready.signal (signal_meant j) o) code (held Signal.notify_all (test_false (eqb j 0) _ _ e ∙ test_false (eqb j 1) _ _ q) h),
      notify_does (λ n. 0) e_notifyall refl
          (along (λ (ws : List ℕ). Places ws (places_of (woken (λ n. 0)))) (after_notify_all m.places o j w environment p ho e q)
          (all_notified o m.places s.threads _ ho (λ x. refl) places)),
    )

    pub signal_meets : MeetsBy (look_signal (head_for m p ready) c) p ready (machine.attempt (table_of b) s p)
        (Acts mover ready i (act_signal n (head_for m p ready) c o j))
    unfolding object_by look_signal act_signal machine.signal_act machine.around
    signal_meets = by (is_empty_of c.keys) (eqb c.value self) (eqb j 0) (sym (keys_is_empty c.keys)) (ap (eqb c.value) (sym same)) refl
      where
        not_held_lem : machine.signal_act s p t (signal_meant j) o (cell_meant true c) ≡ machine.sticks (not_held o)
            → machine.attempt (table_of b) s p ≡ machine.stuck (not_held (o % 32))
        not_held_lem e =
            attempts mover (frames.Ready.signal (signal_meant j) o) code (found ∙ e)
            ∙ ap (λ (o : ℕ). machine.stuck (not_held o)) (sym (mod-eq_of_lt ho))

        by : (x y z : Bool) → is_empty (keys_of c.keys) ≡ x → eqb c.value t.self ≡ y → eqb j 0 ≡ z
            → MeetsBy (cond x (cond y sight.Ready (sight.Blocked block.NotHeld)) (sight.Blocked block.NotHeld)) p ready (machine.attempt (table_of b) s p)
            (Acts mover ready i (cond z (act_wait n (head_for m p ready) o) (acted_of (go_value 0) n ks c no_entry)))
        by true true true e q z = wait_acts (e, q) z
        by true true false e q z = notify_acts (e, q) z (eqb j 1) refl
        by true false z e q y = not_held_lem (test_true (is_empty (keys_of c.keys)) _ _ e ∙ test_false (eqb c.value t.self) _ _ q)
        by false y z e q u = not_held_lem (test_false (is_empty (keys_of c.keys)) _ _ e)

  -- ---- E-WAKE

  pub wake_meets : (o u w environment i : ℕ) → i ≡ o * 32 + 0 → Well S → o < 32 → t.expression ≡ frames.Found.here S (frames.Ready.waiting o)
      → MeetsBy (look_waiting (get_or cs i no_cell) (get_or m.places p 0)) p (ready_of redex.Waiting o u w environment) (machine.attempt (table_of b) s p)
      (Acts mover (ready_of redex.Waiting o u w environment) i (act_wake n (head_for m p (ready_of redex.Waiting o u w environment)) (get_or cs i no_cell) o))
  unfolding object_by field_by look_waiting machine.act machine.wake_act machine.around machine.gain machine.store_monitor playing.no_room_before refocus.go table_of
  wake_meets o u w environment i ei well ho code =
      by (get_or m.places p 0 / 32) (is_empty_of c.keys) (ap (λ (w : Place). w.number) (sym (places p ∙ place_there s.threads p t there)))
      (sym (keys_is_empty c.keys))
    where
      r : Ready
      r = ready_of redex.Waiting o u w environment

      c : Cell
      c = get_or cs i no_cell

      fit : CellFits c
      fit = k.cells_fit i

      o_there : o < n.objects
      o_there = object_there mover o (ready_there b s p t reach there S (frames.Ready.waiting o) code)

      found : machine.monitor s o ≡ cell_meant true c
      found = monitor_cell k o (monitor_bit b ok) o_there ho ∙ ap (λ (i : ℕ). cell_meant true (get_or cs i no_cell)) (sym ei)

      self_fits : t.self < 32
      self_fits = let z = (standing (table_of b) (program_of b) s p t reach there).self_there in let l = reach.roomy.objects32 in omega arith

      c' : Cell
      c' = cell_of self 0 empty_set

      acted : (N : ℕ) → t.place.number ≡ N → machine.act (table_of b) s p t (frames.Ready.waiting o) ≡ machine.wake_act s p t o N (cell_meant true c)
      acted N e = ap₂ (machine.wake_act s p t o) e found

      by : (N : ℕ) (x : Bool) → t.place.number ≡ N → is_empty (keys_of c.keys) ≡ x
          → MeetsBy (cond (eqb N 0) (cond x (sight.Blocked block.Monitor) sight.Ready) (sight.Blocked block.Notify)) p r (machine.attempt (table_of b) s p)
          (Acts mover r i (heard_of (go_value 0) n (joined_of ks c.keys) c' (entry_of (records.kind_number records.Kind.acquire) o 0 0)))
      by (suc N) x e q =
          rw (eqb-suc-zero N)
          (attempts mover (frames.Ready.waiting o) code (acted (suc N) e) ∙ ap (λ (o : ℕ). machine.waiting (for_notify o)) (sym (mod-eq_of_lt ho)))
      by zero true e q =
          attempts mover (frames.Ready.waiting o) code (acted 0 e ∙ test_true (is_empty (keys_of c.keys)) _ _ q)
          ∙ ap (λ (o : ℕ). machine.waiting (for_monitor o)) (sym (mod-eq_of_lt ho))
      by zero false e q = (
        _,
        attempts mover (frames.Ready.waiting o) code (acted 0 e ∙ test_false (is_empty (keys_of c.keys)) _ _ q),
        moved mover _ i e_wake (some (entry records.Kind.acquire p o 0 0))
            (machine.hear (machine.store_monitor s o (rules.cell empty t.self)) p (keys_of c.keys))
            (up (node_at b) (terms b) S 0) (go_value 0) n
            (join_of ks c.keys) (new_of ks c.keys) c' nothing (entry_of (records.kind_number records.Kind.acquire) o 0 0) refl
            (written mover records.Kind.acquire o 0 0 ho (omega arith) (omega arith)) refl refl
            (well, omega arith, refl)
            (fits_join fits fit.keys)
            (gained mover (keys_of c.keys) _ (count_new (keys_of c.keys)) _ (joined mover c.keys fit.keys)
            (joined_new mover c.keys fit.keys))
            (kept_changed (monitor_stored mover o i c' _ ei (ap₂ rules.cell keys_empty (ap (λ (a : ℕ). a % 32) same ∙ mod-eq_of_lt self_fits))
            (record { key = omega arith; keys = fits_empty }) o_there ho) p _ (λ x. refl)),
      )
