-- What the code does on a pick of a thread that can move is what the abstract machine's move does. Assumes nothing.
use Prim.Native.Nat.{ℕ, ◌+◌, ◌*◌, ◌%◌, ◌<◌}
use native.Mathlib.Nat.{mod-eq_of_lt}
use native.Mathlib.Omega.{arith}
use mathlib.Core.Path.{◌≡◌, refl, sym, ap, ap₂, subst as along}
use mathlib.Core.Bool.{true}
use mathlib.Core.List.{List}
use mathlib.Core.Option.{none}
use lib.ListN.{get_or}
use Rattle.plan_packed.specs.Format.{terms}
use Rattle.plan_packed.specs.Trees.{node_at, program_of}
use Rattle.plan_packed.specs.Check.{refusal}
use Rattle.rules.proofs.StateLaws.{there as present}
use Rattle.machine.specs.Inner.Frames as frames
use Rattle.machine.specs.Inner.Refocusing.{up}
use Rattle.machine.specs.Inner.Refocusing as refocus
use Rattle.machine.specs.Inner.Machine as machine
use Rattle.machine.specs.Inner.Playing.{table_of}
use Rattle.machine.specs.Inner.Playing as playing
use Rattle.machine.proofs.Runs.{Reached}
use Rattle.run_frames.specs.Inner.RedexKinds.{RedexKind, RedexKind as redex}
use Rattle.run_frames.specs.declared.refocusing.Ready.{Ready}
use Rattle.run_frames.specs.Inner.Going.{ready_at, ready_of, go_at, go_run, go_run_condition, go_value, go_truth}
use Rattle.run_state.specs.declared.Setting.{Setting}
use Rattle.run_state.specs.declared.Head.{Head}
use Rattle.run_look.specs.declared.Sight.{Sight}
use Rattle.run_look.specs.declared.Sight.TheVariants as sight
use Rattle.run_state.specs.declared.acted.Act.{Act}
use Rattle.run_look.specs.Inner.Look.{object_by, object_of, field_by, about_field, look_by, look_of}
use Rattle.run_act.specs.Inner.Act.{pure_by, act_by, act_of}
use Rattle.run_engine.specs.Inner.Engine as engine
use Rattle.run_pick.specs.Inner.Pick.{no_head, look_met}
use Rattle.run_engine.specs.Inner.Engine.{no_cell, no_object, head_at, cell_number}
use Rattle.refinement.proofs.Meant.{closed, StandsBy}
use Rattle.refinement.proofs.States.{setting_of, Related}
use Rattle.refinement.proofs.Looks.{MeetsBy, attempt_value}
use Rattle.refinement.proofs.Moves.{Mover, Acts, met, Ahead}
use Rattle.refinement.proofs.Moving.{head_for}
use Rattle.refinement.proofs.FieldActs.{read_meets, write_meets}
use Rattle.refinement.proofs.MonitorActs.{synch_meets, hold_meets}
use Rattle.refinement.proofs.SignalActs.{signal_meets, wake_meets}
use Rattle.refinement.proofs.ObjectActs.{new_meets, fork_meets, join_meets}
use Rattle.refinement.proofs.PlainActs.{pure_meets, condition_meets, while_meets, body_meets}

-- what the code would see and do, were r thread p's redex
abbrev other_for : engine.EngineState → Ready → Head
other_for m r = get_or m.heads ((get_or m.objects (object_of r) no_object).thread % 16) no_head

abbrev sees : Setting → engine.EngineState → ℕ → Ready → Sight
sees setting m p r = look_of setting (head_for m p r) (get_or m.cells (cell_number r) no_cell) (get_or m.objects (object_of r) no_object)
    (other_for m r).ready.redex (get_or m.places p 0)

abbrev does : Setting → engine.EngineState → ℕ → Ready → Act
does setting m p r = act_of setting m.tally.counts (head_for m p r) (get_or m.cells (cell_number r) no_cell) (get_or m.objects (object_of r) no_object)
    (other_for m r)

module _ {b : List ℕ} {m : engine.EngineState} {s : machine.State} {p : ℕ} (mover : Mover b m s p) where
  open mover use {thread as t, there}
  open mover.headed use {stack as S}

  abbrev Meets : Ready → Type 0
  Meets r = MeetsBy (sees (setting_of b) m p r) p r (machine.attempt (table_of b) s p) (Acts mover r (cell_number r) (does (setting_of b) m p r))

  meets : (P : RedexKind) (a b' c environment : ℕ) → StandsBy b P (ready_of P a b' c environment) S t.expression → Meets (ready_of P a b' c environment)
  unfolding object_by field_by about_field look_by pure_by act_by machine.actᶜ refocus.go playing.no_room_before table_of
  meets redex.Done a b' c environment h = attempt_value (table_of b) s p t there a h.1
  meets redex.NoRule a b' c environment h = absurd h
  meets redex.Run a b' c environment h =
      pure_meets mover 0 (ready_of redex.Run a b' c environment) refl refl _ h.2.0 (go_run a environment) h.2.1 h.2.2 (h.0, h.1, refl)
  meets redex.RunCondition a b' c environment h =
      condition_meets mover 0 (ready_of redex.RunCondition a b' c environment) refl refl (frames.Readyᶜ.and true (closed a environment))
      (go_run_condition a environment) h.2 refl (h.0, h.1, refl)
  meets redex.Val a b' c environment h =
      pure_meets mover 0 (ready_of redex.Val a b' c environment) refl refl _ h.2.0 (go_value a) h.2.1 h.2.2
      (h.0, (let e = h.1 in omega arith), ap (up (node_at b) (terms b) S) (sym h.1))
  meets redex.Truth a b' c environment h =
      condition_meets mover 0 (ready_of redex.Truth a b' c environment) refl refl h.2.0 (go_truth a) h.2.1 (h.2.2.needs_no_room s)
      (h.0, h.1, h.2.2.acts)
  meets redex.While a b' c environment h = while_meets mover a b' c environment 0 h.0 h.1 h.2 h.3
  meets redex.Body a b' c environment h = body_meets mover a b' c environment 0 h.0 h.1 h.2 h.3
  meets redex.Again a b' c environment h =
      pure_meets mover 0 (ready_of redex.Again a b' c environment) refl refl _ h.3.0 (go_at (ready_of redex.While a b' 0 environment)) h.3.1 h.3.2
      (redex.While, refl, (h.0, h.1, h.2, refl))
  meets redex.New a b' c environment h = new_meets mover a b' c environment 0 h.0 h.2 h.3
  meets redex.Read a b' c environment h =
      read_meets mover a b' c environment (a % 32 * 32 + b' % 32) (a % 32) (ap₂ (λ (x y : ℕ). x * 32 + y) (mod-eq_of_lt h.1) (mod-eq_of_lt h.3))
      (mod-eq_of_lt h.1) h.0 h.1 h.2 h.3 h.4
  meets redex.Write a b' c environment h =
      write_meets mover a b' c environment (a % 32 * 32 + b' % 32) (a % 32) (ap₂ (λ (x y : ℕ). x * 32 + y) (mod-eq_of_lt h.1) (mod-eq_of_lt h.3))
      (mod-eq_of_lt h.1) h.0 h.1 h.2 h.3 h.4 h.5
  meets redex.Fork a b' c environment h = fork_meets mover a b' c environment 0 h.0 h.1 h.2
  meets redex.Join a b' c environment h = join_meets mover a b' c environment (a % 32 * 32 + 0) (a % 32) (mod-eq_of_lt h.1) h.0 h.1 h.2
  meets redex.Synch a b' c environment h =
      synch_meets mover a b' c environment (a % 32 * 32 + 0) (ap (λ (x : ℕ). x * 32 + 0) (mod-eq_of_lt h.1)) h.0 h.1 h.2 h.3
  meets redex.Hold a b' c environment h =
      hold_meets mover a b' c environment (a % 32 * 32 + 0) (ap (λ (x : ℕ). x * 32 + 0) (mod-eq_of_lt h.1)) h.0 h.1 h.2 h.3
  meets redex.Signal a b' c environment h =
      signal_meets mover a b' c environment (a % 32 * 32 + 0) (ap (λ (x : ℕ). x * 32 + 0) (mod-eq_of_lt h.1)) h.0 h.1 h.2
  meets redex.Waiting a b' c environment h =
      wake_meets mover a b' c environment (a % 32 * 32 + 0) (ap (λ (x : ℕ). x * 32 + 0) (mod-eq_of_lt h.1)) h.0 h.1 h.2

meets_more : (w : Sight) (p : ℕ) (r : Ready) (A : machine.Attempt) (Z Z' : machine.Move → Type 0) → ((v : machine.Move) → Z v → Z' v) → MeetsBy w p r A Z
    → MeetsBy w p r A Z'
meets_more sight.Ready p r A Z Z' f h = (h.0, h.1, f h.0 h.2)
meets_more sight.Lacking p r A Z Z' f h = h
meets_more (sight.Blocked x) p r A Z Z' f h = h

-- WHAT A LOOK SAYS IS WHAT THE THREAD CAN DO, AND WHERE IT IS READY WHAT THE CODE DOES IS ITS MOVE
pub looks : (b : List ℕ) → refusal b ≡ none → (m : engine.EngineState) (s : machine.State) → Related b m s → Reached (table_of b) (program_of b) s →
    (p : ℕ) → p < 8
    → p < m.tally.counts.threads
    → MeetsBy (look_met (setting_of b) (met m p)) p (head_at m.heads p).ready (machine.attempt (table_of b) s p) (Ahead b m s p)
looks b ok m s rel reach p small here =
    let y = rel.kept.threads_count in
    let (t, there) = present s.threads p (omega arith) in
    let H = rel.each p t there in
    let P = H.stands.0 in
    let mover : Mover b m s p = record { ok = ok; related = rel; reached = reach; small = small; thread = t; there = there; headed = H } in
    let same : ready_of P r.first r.second r.third r.environment ≡ r =
    ap (λ (q : ℕ). ready_at q r.first r.second r.third r.environment) (sym H.stands.1) in
    meets_more (sees (setting_of b) m p r) p r (machine.attempt (table_of b) s p) _ (Ahead b m s p) (λ v z. record { mover = mover; acts = z })
    (along (Meets mover) same
    (meets mover P r.first r.second r.third r.environment
    (along (λ (r' : Ready). StandsBy b P r' H.stack t.expression) (sym same) H.stands.2)))
  where
    r : Ready
    r = (head_at m.heads p).ready
