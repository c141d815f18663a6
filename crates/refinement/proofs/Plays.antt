-- The engine's play of a schedule on an accepted plan is the abstract machine's run, and so the defined one: the same stop, counts, states of threads and
-- log. Assumes nothing.
use Prim.Native.Nat.{ℕ, suc, ◌+◌, ◌*◌, ◌%◌, ◌≤◌, ◌<◌}
use native.Mathlib.Nat.{mod-eq_of_lt, zero-add}
use native.Mathlib.Omega.{arith}
use mathlib.Core.Path.{◌≡◌, refl, sym, ap, ap₂, ◌∙◌, subst as along}
use mathlib.Core.Bool.{Bool, true, false, cond}
use mathlib.Core.List.{List, [], ◌∷◌, ◌++◌, map}
use mathlib.Core.Option.{Option, none}
use lib.Dec.{leb}
use lib.ListN.{length, get_or, get_elem?, drop}
use borrow.Author.Tests.{leb-false, leb-true}
use Rattle.plan_packed.specs.Trees.{program_of}
use Rattle.plan_packed.specs.Check.{refusal}
use Rattle.log_records.specs.Record.{Record}
use Rattle.log_records.specs.Packed.{bytes_of}
use Rattle.rules.specs.Step as step
use Rattle.rules.specs.Step.{for_monitor, for_join, for_notify, missing_field, not_thread, not_held}
use Rattle.rules.specs.Run.{Stop, Status, Outcome, play, outcome_of, instances, log}
use Rattle.rules.proofs.StateLaws.{there as present, outside}
use Rattle.format.specs.Area.{overwrite}
use Rattle.machine.specs.Inner.Machine as machine
use Rattle.machine.specs.Inner.Playing.{table_of}
use Rattle.machine.specs.Inner.Playing as playing
use Rattle.machine.proofs.Runs.{Reached, reached_total}
use Rattle.machine.proofs.Plays.{start_reached, move_reached, plays_outcome, plays_log}
use Rattle.run_frames.specs.declared.refocusing.Ready.{Ready}
use Rattle.run_refocusing.specs.Inner.Refocusing.{Stack}
use Rattle.run_outcome.specs.declared.NoRoom.{NoRoom}
use Rattle.run_outcome.specs.declared.Stop as code-stop
use Rattle.run_outcome.specs.declared.Stop.TheVariants as stop
use Rattle.run_outcome.specs.declared.Wait.{Wait}
use Rattle.run_outcome.specs.declared.Wait.TheVariants as wait
use Rattle.run_outcome.specs.declared.Stuck.{Stuck}
use Rattle.run_outcome.specs.declared.Stuck.TheVariants as stuck
use Rattle.run_outcome.specs.declared.ThreadState.{ThreadState}
use Rattle.run_outcome.specs.declared.ThreadState.TheVariants as state
use Rattle.run_outcome.specs.declared.Thread.{Thread}
use Rattle.run_outcome.specs.declared.Outcome as code-outcome
use Rattle.run_state.specs.declared.Entry.{Entry}
use Rattle.run_look.specs.declared.Block.{Block}
use Rattle.run_look.specs.declared.Block.TheVariants as block
use Rattle.run_look.specs.declared.Sight.{Sight}
use Rattle.run_look.specs.declared.Sight.TheVariants as sight
use Rattle.run_look.specs.Inner.Look.{blocked_of, state_of}
use Rattle.run_pick.specs.Inner.Answer.{Move, PickAnswer, PickAnswer as answer}
use Rattle.run_pick.specs.Inner.Pick.{Picked, look_met}
use Rattle.run_tally.specs.Inner.Tally.{shown_entry}
use Rattle.run_engine.specs.Inner.Engine as engine
use Rattle.run_open_threads.specs.Inner.Open.{absent}
use Rattle.run_engine.specs.Inner.Engine.{head_at, met_by, state_by, thread_by, thread_at, threads_of, stopped, stayed, after, turn_by, on_answer, play_of, start_of}
use Rattle.refinement.proofs.Meant.{WordsAndRoots}
use Rattle.refinement.proofs.States.{setting_of, Related}
use Rattle.refinement.proofs.Looks.{Written, Entered, BlockedBy, MeetsBy, attempt_absent}
use Rattle.refinement.proofs.Moves.{room_meant, met, Ahead}
use Rattle.refinement.proofs.Acts.{looks}
use Rattle.refinement.proofs.Shown.{shown_in, entered_shown, records_of, records_log}
use Rattle.refinement.proofs.Picks.{AnsweredBy, picks}
use Rattle.refinement.proofs.Starts.{start_related}
use Rattle.refinement.proofs.Logs.{overlay, no_records, put_logged, put_none, put_last, record_counts, log_length, count_grows}

-- ---- the states of the threads

abbrev wait_meant : Wait → step.Wait
wait_meant (wait.Monitor o) = for_monitor o
wait_meant (wait.Join o) = for_join o
wait_meant (wait.Notify o) = for_notify o

abbrev stuck_meant : Stuck → step.Stuck
stuck_meant (stuck.Field o f) = missing_field o f
stuck_meant (stuck.Thread o) = not_thread o
stuck_meant (stuck.Monitor o) = not_held o
stuck_meant stuck.NoRule = step.Stuck.no_rule

abbrev pub state_meant : ThreadState → Status
state_meant state.Absent = Status.absent
state_meant (state.Finished v) = Status.finished v
state_meant state.Ready = Status.ready
state_meant (state.Waiting w) = Status.waiting (wait_meant w)
state_meant (state.Stuck w) = Status.stuck (stuck_meant w)
state_meant (state.Lacking o f) = Status.lacking o f

-- the status that the code's words for a thread mean
abbrev pub status_of : Thread → Status
status_of t = state_meant t.state

blocked_status : (x : Block) (r : Ready) (A : machine.Attempt) → BlockedBy x r A → state_meant (blocked_of x r) ≡ playing.status A
unfolding playing.status
blocked_status block.Finished r A h = ap playing.status (sym h)
blocked_status block.Monitor r A h = ap playing.status (sym h)
blocked_status block.Join r A h = ap playing.status (sym h)
blocked_status block.Notify r A h = ap playing.status (sym h)
blocked_status block.Field r A h = ap playing.status (sym h)
blocked_status block.Thread r A h = ap playing.status (sym h)
blocked_status block.NotHeld r A h = ap playing.status (sym h)
blocked_status block.NoRule r A h = absurd h

meets_status : (w : Sight) (p : ℕ) (r : Ready) (A : machine.Attempt) (Z : machine.Move → Type 0) → MeetsBy w p r A Z
    → state_meant (state_of w r) ≡ playing.status A
unfolding playing.status
meets_status sight.Ready p r A Z h = ap playing.status (sym h.1)
meets_status sight.Lacking p r A Z h = ap₂ Status.lacking (sym h.2) (sym h.3) ∙ ap playing.status (sym h.1)
meets_status (sight.Blocked x) p r A Z h = blocked_status x r A h

cons_same : {A : Type 0} {x y : A} {xs ys : List A} → x ≡ y → xs ≡ ys → x ∷ xs ≡ y ∷ ys
cons_same {A} e h = ap₂ {C = List A} (λ x xs. x ∷ xs) e h

-- what the code says of its threads is what they can do
statuses : (b : List ℕ) → refusal b ≡ none → (m : engine.EngineState) (s : machine.State) → Related b m s → Reached (table_of b) (program_of b) s
    → map status_of (threads_of (setting_of b) m.tally.counts m.heads m.cells m.objects m.places) ≡ playing.statuses_from (table_of b) s 0 8
unfolding threads_of met_by thread_by playing.statuses_from playing.status
statuses b ok m s rel reach =
    cons_same (at 0 (omega arith)) (cons_same (at 1 (omega arith)) (cons_same (at 2 (omega arith)) (cons_same (at 3 (omega arith))
    (cons_same (at 4 (omega arith)) (cons_same (at 5 (omega arith)) (cons_same (at 6 (omega arith)) (cons_same (at 7 (omega arith)) refl)))))))
  where
    at : (p : ℕ) → p < 8 → status_of (thread_at (setting_of b) m.tally.counts m.heads m.cells m.objects m.places p) ≡ playing.status
        (machine.attempt (table_of b) s p)
    at p h = by (leb m.tally.counts.threads p) refl
      where
        by : (z : Bool) → leb m.tally.counts.threads p ≡ z
            → status_of (cond z absent (record { state = state_by (setting_of b) (met m p); learnt = (head_at m.heads p).learnt % 256 })) ≡ playing.status
            (machine.attempt (table_of b) s p)
        by true e = ap playing.status
            (sym (attempt_absent (table_of b) s p (let x = leb-true m.tally.counts.threads p e in let y = rel.kept.threads_count in omega arith)))
        by false e =
            meets_status (look_met (setting_of b) (met m p)) p (head_at m.heads p).ready (machine.attempt (table_of b) s p) (Ahead b m s p)
            (looks b ok m s rel reach p h (leb-false m.tally.counts.threads p e))

-- what it says of their totals too
totals : (b : List ℕ) (m : engine.EngineState) (s : machine.State) → Related b m s → Reached (table_of b) (program_of b) s
    → map (λ (t : Thread). t.learnt) (threads_of (setting_of b) m.tally.counts m.heads m.cells m.objects m.places) ≡ playing.totals_from s 0 8
unfolding threads_of met_by thread_by playing.totals_from playing.total_of
totals b m s rel reach =
    cons_same (at 0) (cons_same (at 1) (cons_same (at 2) (cons_same (at 3) (cons_same (at 4) (cons_same (at 5) (cons_same (at 6) (cons_same (at 7) refl)))))))
  where
    count : m.tally.counts.threads ≡ length s.threads
    count = rel.kept.threads_count

    at : (p : ℕ) → (thread_at (setting_of b) m.tally.counts m.heads m.cells m.objects m.places p).learnt ≡ playing.total_of
        (get_elem? s.threads p)
    at p = by (leb m.tally.counts.threads p) refl
      where
        by : (z : Bool) → leb m.tally.counts.threads p ≡ z
            → (cond z absent (record { state = state_by (setting_of b) (met m p); learnt = (head_at m.heads p).learnt % 256 })).learnt ≡ playing.total_of
            (get_elem? s.threads p)
        by true e = ap playing.total_of (sym (outside s.threads p (omega (arith, leb-true m.tally.counts.threads p e, count))))
        by false e =
            let x = present s.threads p (omega (arith, leb-false m.tally.counts.threads p e, count)) in
            let h = (rel.each p x.0 x.1).learnt in
            let l = reached_total (table_of b) reach p x.0 x.1 in
            mod-eq_of_lt (omega (arith, h, l)) ∙ h ∙ ap playing.total_of (sym x.1)

-- ---- a play against a run

abbrev pub stop_meant : code-stop.Stop → Stop
stop_meant stop.End = Stop.end
stop_meant stop.Race = Stop.race
stop_meant (stop.NoRoom r) = Stop.no_room (room_meant r)

-- the play P, from i picks, n moves, k records and the area l on, is the run R, with records for every move or for those that have one
record PlaysAs (b : List ℕ) (every : Bool) (i n k : ℕ) (l : List ℕ) (P : engine.Played) (R : playing.Run) : Type 0 where
  stop : stop_meant P.outcome.stop ≡ R.stop
  picks : P.outcome.picks ≡ i + R.picks
  moves : P.outcome.moves ≡ n + length (instances R)
  records : P.outcome.records ≡ k + length (records_of every R)
  threads : map status_of P.outcome.threads ≡ playing.statuses_from (table_of b) R.final 0 8
  totals : map (λ (t : Thread). t.learnt) P.outcome.threads ≡ playing.totals_from R.final 0 8
  area : P.area ≡ overlay l (3 * k) (bytes_of (records_of every R))

-- the outcome that the code's answer means
abbrev pub outcome_meant : code-outcome.Outcome → Outcome
outcome_meant r = record {
  stop = stop_meant r.stop;
  picks = r.picks;
  moves = r.moves;
  records = r.records;
  threads = map status_of r.threads;
  totals =
      map (λ (t : Thread). t.learnt) r.threads;
}

-- every pick is 0 to 7
abbrev Small : List ℕ → Type 0
Small ps = (j : ℕ) → j < length ps → get_or ps j 0 ≤ 7

outcome_same : {a a' : Stop} {c c' d d' e e' : ℕ} {l l' : List Status} {k k' : List ℕ} → a ≡ a' → c ≡ c' → d ≡ d' → e ≡ e' → l ≡ l' → k ≡ k'
    → ◌≡◌ {A = Outcome} (record { stop = a; picks = c; moves = d; records = e; threads = l; totals = k })
    (record { stop = a'; picks = c'; moves = d'; records = e'; threads = l'; totals = k' })
outcome_same a c d e l k = λ i. record { stop = a i; picks = c i; moves = d i; records = e i; threads = l i; totals = k i }

module _ (b ws rs : List ℕ) (ok : refusal b ≡ none) (loaded : WordsAndRoots b ws rs) where
  -- the rest of a play
  abbrev Rest : List ℕ → ℕ → Type 0
  Rest ps i =
      (m : engine.EngineState) (s : machine.State) → Related b m s → Reached (table_of b) (program_of b) s → 3 * (m.tally.records + length ps) ≤ length m.log
      → PlaysAs b m.every i m.tally.moves m.tally.records m.log (play_of ws rs (setting_of b) m ps i) (playing.run (table_of b) s ps)

  module _ (m : engine.EngineState) (s : machine.State) (rel : Related b m s) (reach : Reached (table_of b) (program_of b) s) (p : ℕ) (small : p < 8)
      (ps : List ℕ) (i : ℕ)
      (wide : 3 * (m.tally.records + suc (length ps)) ≤ length m.log) (rest : Rest ps (i + 1)) where
    abbrev go_on : machine.State → playing.Run
    go_on s = playing.run (table_of b) s ps

    -- the play and the run after the pick, by its answer
    abbrev Plays : PickAnswer → Stack → playing.Run → Type 0
    Plays z k R =
        PlaysAs b m.every i m.tally.moves m.tally.records m.log
        (on_answer z (play_of ws rs (setting_of b) (stayed m k) ps (i + 1)) (λ v. play_of ws rs (setting_of b) (after m p v k) ps (i + 1))
        (λ e x. stopped (setting_of b) m p x e i)) R

    passed_plays : (k : Stack) → k ≡ m.stack → Plays answer.Passed k (playing.resume s p go_on playing.passed)
    unfolding playing.resume playing.after_pass records_of instances
    passed_plays k e =
        let same : Related b (stayed m m.stack) s =
        record {
          heads_size = rel.heads_size;
          sized = rel.sized;
          kept = rel.kept;
          each = rel.each;
          places_size = rel.places_size;
          places =
              rel.places;
        } in
        let r = rest (stayed m k) s (along (λ (k : Stack). Related b (stayed m k) s) (sym e) same) reach (omega arith) in
        record {
          stop = r.stop;
          picks = (let q = r.picks in omega arith);
          moves = r.moves;
          records = r.records;
          threads = r.threads;
          totals =
              r.totals;
          area = r.area;
        }

    moved_plays : (v : Move) (k : Stack) (u : machine.Move) → playing.step (table_of b) s p ≡ playing.moved u → Entered p v.entry u.entry
        → Related b (after m p v k) u.state
        → Plays (answer.Moved v) k (playing.resume s p go_on (playing.moved u))
    unfolding playing.resume playing.after_move records_of instances
    moved_plays v k u e entered rel' =
        let x : Entry = shown_entry m.every v.entry in
        let y : Option Record = shown_in m.every p u.entry in
        let shown : Entered p x y = entered_shown m.every p v.entry u.entry small entered in
        let c = count_grows m.tally.records p x y shown in
        let w = log_length m.log m.tally.records p x in
        let r = rest (after m p v k) u.state rel' (move_reached b ok s p u reach e) (omega arith) in
        let q = put_logged m.log m.tally.records p x y (records_of m.every (go_on u.state)) shown (omega arith) in
        record {
          stop = r.stop;
          picks = (let q = r.picks in omega arith);
          moves = (let q = r.moves in omega arith);
          records = r.records ∙ q.1;
          threads = r.threads;
          totals = r.totals;
          area = r.area ∙ q.0;
        }

    race_plays : (x : Entry) (y : Record) (k : Stack) → Written p x y
        → Plays (answer.Stopped stop.Race x) k (playing.resume s p go_on (playing.race y))
    unfolding playing.resume playing.stopped records_of instances
    race_plays x y k written = record {
      stop = refl;
      picks = omega arith;
      moves = omega arith;
      records = record_counts m.tally.records p x y written;
      threads = statuses b ok m s rel reach;
      totals = totals b m s rel reach;
      area = put_last m.log m.tally.records p x y written (omega arith);
    }

    full_plays : (x : Entry) (R : NoRoom) (k : Stack) → x.kind ≡ 0
        → Plays (answer.Stopped (stop.NoRoom R) x) k (playing.resume s p go_on (playing.no_room (room_meant R)))
    unfolding playing.resume playing.stopped records_of instances
    full_plays x R k none_written =
        let q = put_none m.log m.tally.records p x none_written in
        record {
          stop = refl;
          picks = omega arith;
          moves = omega arith;
          records = (let e = q.1 in omega arith);
          threads = statuses b ok m s rel reach;
          totals = totals b m s rel reach;
          area = q.0 ∙ sym (no_records m.log (3 * m.tally.records));
        }

    -- one pick, and the rest
    answered_plays : (z : PickAnswer) (k : Stack) → AnsweredBy b m s p z k
        → Plays z k (playing.resume s p go_on (playing.step (table_of b) s p))
    answered_plays answer.Passed k (e, same) =
        along (λ (a : playing.PickAnswer). Plays answer.Passed k (playing.resume s p go_on a)) (sym e) (passed_plays k same)
    answered_plays (answer.Moved v) k (u, e, entered, rel') =
        along (λ (a : playing.PickAnswer). Plays (answer.Moved v) k (playing.resume s p go_on a)) (sym e) (moved_plays v k u e entered rel')
    answered_plays (answer.Stopped stop.End x) k h = absurd h
    answered_plays (answer.Stopped stop.Race x) k (y, e, written) =
        along (λ (a : playing.PickAnswer). Plays (answer.Stopped stop.Race x) k (playing.resume s p go_on a)) (sym e) (race_plays x y k written)
    answered_plays (answer.Stopped (stop.NoRoom R) x) k (e, none_written) =
        along (λ (a : playing.PickAnswer). Plays (answer.Stopped (stop.NoRoom R) x) k (playing.resume s p go_on a)) (sym e)
        (full_plays x R k none_written)

    abbrev turn : Picked
    turn = turn_by ws rs (setting_of b) m p

    pick_plays : Plays turn.answer turn.stack (playing.resume s p go_on (playing.step (table_of b) s p))
    pick_plays = answered_plays turn.answer turn.stack (picks b ws rs ok loaded m s rel reach p small)

  -- THE CODE'S PLAY FROM A STATE IS THE ABSTRACT MACHINE'S RUN FROM WHAT IT STANDS FOR
  plays : (ps : List ℕ) (i : ℕ) → Small ps → (m : engine.EngineState) (s : machine.State) → Related b m s → Reached (table_of b) (program_of b) s
      → 3 * (m.tally.records + length ps) ≤ length m.log
      → PlaysAs b m.every i m.tally.moves m.tally.records m.log (play_of ws rs (setting_of b) m ps i) (playing.run (table_of b) s ps)
  unfolding play_of playing.run playing.stopped records_of instances
  plays [] i small m s rel reach wide = record {
    stop = refl;
    picks = omega arith;
    moves = omega arith;
    records = omega arith;
    threads = statuses b ok m s rel reach;
    totals = totals b m s rel reach;
    area = sym (no_records m.log (3 * m.tally.records));
  }
  plays (p ∷ ps) i small m s rel reach wide =
      let low : p ≤ 7 = small 0 (omega arith) in
      along
      (λ (q : ℕ).
      PlaysAs b m.every i m.tally.moves m.tally.records m.log
      (on_answer (turn_by ws rs (setting_of b) m q).answer (play_of ws rs (setting_of b) (stayed m (turn_by ws rs (setting_of b) m q).stack) ps (i + 1))
      (λ v. play_of ws rs (setting_of b) (after m q v (turn_by ws rs (setting_of b) m q).stack) ps (i + 1)) (λ e x. stopped (setting_of b) m q x e i))
      (playing.resume s p (λ s. playing.run (table_of b) s ps) (playing.step (table_of b) s p)))
      (sym (mod-eq_of_lt {m = 8} (omega arith)))
      (pick_plays m s rel reach p (omega arith) ps i wide (λ m s rel reach wide. plays ps (i + 1) (λ j h. small (suc j) (omega arith)) m s rel reach wide))

  -- ---- from the start

  module _ (ps area : List ℕ) (small : Small ps) (wide : 3 * length ps ≤ length area) where
    from_start : (every : Bool)
        → PlaysAs b every 0 0 0 area (play_of ws rs (setting_of b) (start_of every rs area) ps 0) (playing.machine_run b ps)
    unfolding start_of playing.machine_run
    from_start every = plays ps 0 small (start_of every rs area) playing.start (start_related b ws rs ok loaded every area) (start_reached b ok) (let e =
        zero-add (length ps) in omega arith)

    overlay_start : (bs : List ℕ) → overlay area (3 * 0) bs ≡ overwrite bs area
    unfolding overlay overwrite
    overlay_start bs = ap (λ (k : ℕ). bs ++ drop k area) (zero-add (length bs))

    -- with records for every move or for those that have one: its stop, and the records
    pub plays_recorded : (every : Bool) → (stop_meant (play_of ws rs (setting_of b) (start_of every rs area) ps 0).outcome.stop ≡ (playing.machine_run b ps).stop)
        × ((play_of ws rs (setting_of b) (start_of every rs area) ps 0).outcome.records ≡ length (records_of every (playing.machine_run b ps)))
        × ((play_of ws rs (setting_of b) (start_of every rs area) ps 0).area ≡ overwrite (bytes_of (records_of every (playing.machine_run b ps))) area)
    plays_recorded every =
        let r = from_start every in
        let L = records_of every (playing.machine_run b ps) in
        (r.stop, r.records ∙ zero-add (length L), r.area ∙ overlay_start (bytes_of L))

    -- THE CODE'S PLAY IS THE ABSTRACT MACHINE'S RUN
    plays_machine : (outcome_meant (play_of ws rs (setting_of b) (start_of false rs area) ps 0).outcome ≡ playing.outcome_of (table_of b) (playing.machine_run b ps))
        × ((play_of ws rs (setting_of b) (start_of false rs area) ps 0).area ≡ overwrite (bytes_of (log (playing.machine_run b ps))) area)
    unfolding playing.outcome_of
    plays_machine =
        let r = from_start false in
        let x = plays_recorded false in
        let R = playing.machine_run b ps in (
          outcome_same r.stop (r.picks ∙ zero-add R.picks) (r.moves ∙ zero-add (length (instances R))) (x.1 ∙ ap length (records_log R)) r.threads
              r.totals,
          x.2 ∙ ap (λ (L : List Record). overwrite (bytes_of L) area) (records_log R),
        )

    -- AND SO THE DEFINED ONE
    pub plays_defined : (outcome_meant (play_of ws rs (setting_of b) (start_of false rs area) ps 0).outcome ≡ outcome_of (program_of b) (play (program_of b) ps))
        × ((play_of ws rs (setting_of b) (start_of false rs area) ps 0).area ≡ overwrite (bytes_of (log (play (program_of b) ps))) area)
    plays_defined =
        (plays_machine.0 ∙ sym (plays_outcome b ok ps), plays_machine.1 ∙ ap (λ (L : List Record). overwrite (bytes_of L) area) (sym (plays_log b ok ps)))
