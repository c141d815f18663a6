-- Every run of a well-formed program is an execution, and an execution is the run; of an accepted plan nothing is ever stuck or passed over but for
-- document 01's reasons; outcome and log are the execution's, which is demand 2. Assumes nothing.
use Prim.Native.Nat.{ℕ, suc, ◌≤◌}
use mathlib.Core.Path.{◌≡◌, refl, ap, subst as along}
use mathlib.Core.List.{List, [], ◌∷◌}
use mathlib.Core.Option.{Option, some, none}
use lib.ListN.{length, get_elem?}
use Rattle.plan_packed.specs.Syntax.{Expression, Program}
use Rattle.plan_packed.specs.Trees.{program_of}
use Rattle.plan_packed.specs.Check.{refusal}
use Rattle.plan_packed.proofs.WellFormed.{WellFormedProgram}
use Rattle.plan_packed.proofs.Decoded.{well_formed}
use Rattle.log_records.specs.Record.{Record}
use Rattle.rules.specs.State.{Thread, State, start}
use Rattle.rules.specs.Rules.{Rule, Moves}
use Rattle.rules.specs.Step.{no_rule, Move, AttemptOf, Attempt, attempt}
use Rattle.rules.specs.Room.{Blocked, MONITOR-HELD, UNFINISHED, NO-FIELD-TO-READ, NO-FIELD-TO-WRITE, NO-THREAD, NOT-NOTIFIED, NOT-FREE, NOT-HELD}
use Rattle.rules.specs.Room.{PassedOver, ABSENT, FINISHED, BLOCKED, Room, no_room_for, PickAnswerOf, within_room, answer, step}
use Rattle.rules.specs.Run.{Run, resume, run, play, stopped, after_pass, after_move, outcome_of, instances, log}
use Rattle.rules.specs.Execution.{Execution, ends, passes, lacks_key_lem, no_room_lem, moves, move_count}
use Rattle.rules.specs.NewKeys.{Unused}
use Rattle.rules.specs.Executed.{Executed}
use Rattle.rules.proofs.Invariant.{Inv}
use Rattle.rules.proofs.OneKey.{OneKey, one_key_start, one_key_move}
use Rattle.rules.proofs.NewKeys.{unused_start, unused_move, writes_new}
use Rattle.rules.proofs.Growth.{Modest, modest_start, modest_move, eight_totals, listed_total, listed_small}
use Rattle.rules.proofs.Equivalence.{Described, described, complete, complete_lacks, complete_passed}
use Rattle.rules.proofs.Preserved.{keeps}
use Rattle.rules.proofs.Progress.{Ruled, unless_ruled, ruled, inv_start}
use Rattle.rules.proofs.ThreadStates.{eight_statuses, listed_status}

-- what holds in every state that a run of a well-formed program comes to
pub record Reachable (g : Program) (s : State) : Type 0 where
  pub invariant : Inv g s
  pub one_key : OneKey g s
  pub unused : Unused s
  pub modest : Modest s

pub reachable_start : (g : Program) → WellFormedProgram g → Reachable g start
reachable_start g P = record { invariant = inv_start g P; one_key = one_key_start g; unused = unused_start; modest = modest_start }

pub reachable_move : (g : Program) → WellFormedProgram g → (s : State) (p : ℕ) → Reachable g s → {R : Rule} {r : Option Record} {s' : State}
    → Moves g s p R r s' → Reachable g s'
reachable_move g P s p I m = record {
  invariant = keeps g P s I.invariant p m;
  one_key = one_key_move g s p I.one_key m;
  unused = unused_move g s p I.unused m;
  modest = modest_move g s p I.modest m;
}

-- ---- a run is an execution

module _ (g : Program) (P : WellFormedProgram g) where
  admitted : (s : State) (p : ℕ) (ps : List ℕ) (m : Move) → Moves g s p m.rule m.entry m.state → Execution g m.state ps (run g m.state ps)
      → (k : Option Room) → no_room_for m.rule s p m.state ≡ k → Execution g s (p ∷ ps) (resume s p (λ s'. run g s' ps) (within_room m k))
  unfolding within_room resume
  admitted s p ps m h r none e = moves h e r
  admitted s p ps m h r (some k) e = no_room_lem h e

  dealt : (s : State) (p : ℕ) (ps : List ℕ) (I : Reachable g s) (a : Attempt) → Described g s I.one_key p a → Ruled a
      → ((s' : State) → Reachable g s' → Execution g s' ps (run g s' ps)) → Execution g s (p ∷ ps) (resume s p (λ s'. run g s' ps) (answer s p a))
  unfolding answer resume
  dealt s p ps I AttemptOf.absent h k ih = passes h (ih s I)
  dealt s p ps I (AttemptOf.finished v) h k ih = passes h (ih s I)
  dealt s p ps I (AttemptOf.waiting w) h k ih = passes h (ih s I)
  dealt s p ps I (AttemptOf.stuck r) h k ih = passes (unless_ruled r _ k h) (ih s I)
  dealt s p ps I (AttemptOf.lacking r) h k ih = lacks_key_lem h
  dealt s p ps I (AttemptOf.moves m) h k ih = admitted s p ps m h (ih m.state (reachable_move g P s p I h)) (no_room_for m.rule s p m.state) refl

  pub run_executes : (s : State) (ps : List ℕ) → Reachable g s → Execution g s ps (run g s ps)
  unfolding run step
  run_executes s [] I = ends
  run_executes s (p ∷ ps) I = dealt s p ps I (attempt g s p) (described g s I.one_key p) (ruled g s I.invariant p) (λ s' I'. run_executes s' ps I')

-- ---- an execution is the run

blocked_passed : (p : ℕ) {s : State} {t : Thread} {e : Expression} {a : Attempt} → Blocked s t e a → answer s p a ≡ PickAnswerOf.passed
unfolding answer
blocked_passed p (MONITOR-HELD h n) = refl
blocked_passed p (UNFINISHED h n) = refl
blocked_passed p (NO-FIELD-TO-READ h) = refl
blocked_passed p (NO-FIELD-TO-WRITE h) = refl
blocked_passed p (NO-THREAD h) = refl
blocked_passed p (NOT-NOTIFIED n h) = refl
blocked_passed p (NOT-FREE z h) = refl
blocked_passed p (NOT-HELD h n) = refl

pub over_passed : {s : State} {p : ℕ} {a : Attempt} → PassedOver s p a → answer s p a ≡ PickAnswerOf.passed
unfolding answer
over_passed (ABSENT h) = refl
over_passed (FINISHED h e) = refl
over_passed {p = p} (BLOCKED K h e b) = blocked_passed p b

pub executes_run : (g : Program) {s : State} {ps : List ℕ} {r : Run} → Execution g s ps r → run g s ps ≡ r
unfolding run step resume answer within_room
executes_run g ends = refl
executes_run g (passes {s} {p} {ps} h x) = rw (complete_passed g s p h, over_passed h) (ap after_pass (executes_run g x))
executes_run g (lacks_key_lem {s} {p} h) = rw (complete_lacks g s p h)
executes_run g (no_room_lem {s} {p = p} h e) = rw (complete g s p h, e)
executes_run g (moves {s} {s'} {p} {ps} {r} {R} {e} h k x) =
    rw (complete g s p h, k) (ap (after_move p (record { rule = R; entry = e; state = s' })) (executes_run g x))

-- ---- the move count is the number of rule instances

pub moves_counted : {g : Program} {s : State} {ps : List ℕ} {r : Run} (x : Execution g s ps r) → length (instances r) ≡ move_count x
unfolding move_count instances stopped after_pass after_move
moves_counted ends = refl
moves_counted (passes h x) = moves_counted x
moves_counted (lacks_key_lem h) = refl
moves_counted (no_room_lem h e) = refl
moves_counted (moves h k x) = ap suc (moves_counted x)

-- ---- plays

pub reachable_after : (g : Program) → WellFormedProgram g → {s : State} {ps : List ℕ} {r : Run} → Reachable g s → Execution g s ps r → Reachable g r.final
unfolding stopped after_pass after_move
reachable_after g P I ends = I
reachable_after g P I (passes h x) = reachable_after g P I x
reachable_after g P I (lacks_key_lem h) = I
reachable_after g P I (no_room_lem h e) = I
reachable_after g P I (moves {s} {p = p} h k x) = reachable_after g P (reachable_move g P s p I h) x

pub reachable_run : (g : Program) → WellFormedProgram g → (s : State) (ps : List ℕ) → Reachable g s → Reachable g (run g s ps).final
reachable_run g P s ps I = reachable_after g P I (run_executes g P s ps I)

pub play_executes : (g : Program) → WellFormedProgram g → (ps : List ℕ) → Execution g start ps (play g ps)
unfolding play
play_executes g P ps = run_executes g P start ps (reachable_start g P)

-- after any picks no thread is stuck for want of a rule
pub never_ruleless : (g : Program) → WellFormedProgram g → (ps : List ℕ) (p : ℕ) → attempt g (play g ps).final p ≡ AttemptOf.stuck no_rule → ⊥
unfolding play
never_ruleless g P ps p h = along Ruled h (ruled g (run g start ps).final (reachable_run g P start ps (reachable_start g P)).invariant p)

-- demand 2: outcome and log are those of an execution, each plain write of which stores a new key
pub play_executed : (g : Program) → WellFormedProgram g → (ps : List ℕ) → Executed g ps (outcome_of g (play g ps)) (log (play g ps))
unfolding outcome_of play
play_executed g P ps =
    let x = play_executes g P ps in
    let I = reachable_run g P start ps (reachable_start g P) in
    record {
      run = play g ps;
      execution = x;
      new_keys = writes_new [] unused_start tt x;
      same_stop = refl;
      same_picks = refl;
      same_moves = moves_counted x;
      same_records = refl;
      same_log = refl;
      eight = eight_statuses g (play g ps).final;
      states = λ p h y. listed_status g (play g ps).final I.one_key I.invariant p h y;
      eight_totals = eight_totals (play g ps).final;
      totals = listed_total x;
    }

-- a total is at most 255
pub total_small : (g : Program) → WellFormedProgram g → (ps : List ℕ) (p n : ℕ) → get_elem? (outcome_of g (play g ps)).totals p ≡ some n → n ≤ 255
unfolding outcome_of play
total_small g P ps p n h = listed_small (play g ps).final (reachable_run g P start ps (reachable_start g P)).modest 0 8 p n h

-- ---- accepted plans

-- every run of an accepted plan is an execution
pub plan_executes : (b : List ℕ) → refusal b ≡ none → (ps : List ℕ) → Execution (program_of b) start ps (play (program_of b) ps)
plan_executes b h ps = play_executes (program_of b) (well_formed b h) ps

-- after any picks, no thread of an accepted plan is stuck for a reason that document 01 does not give
pub plan_never_ruleless : (b : List ℕ) → refusal b ≡ none → (ps : List ℕ) (p : ℕ)
    → attempt (program_of b) (play (program_of b) ps).final p ≡ AttemptOf.stuck no_rule → ⊥
plan_never_ruleless b h ps p = never_ruleless (program_of b) (well_formed b h) ps p

-- after any picks, the next plain write's key is in no set
pub plan_new_keys : (b : List ℕ) → refusal b ≡ none → (ps : List ℕ) → Unused (play (program_of b) ps).final
unfolding play
plan_new_keys b h ps = (reachable_run (program_of b) (well_formed b h) start ps (reachable_start (program_of b) (well_formed b h))).unused

-- demand 2 of every run of an accepted plan
pub plan_executed : (b : List ℕ) → refusal b ≡ none → (ps : List ℕ)
    → Executed (program_of b) ps (outcome_of (program_of b) (play (program_of b) ps)) (log (play (program_of b) ps))
plan_executed b h ps = play_executed (program_of b) (well_formed b h) ps
