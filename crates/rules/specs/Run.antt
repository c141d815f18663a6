-- A run over a list of picks, and its outcome (document 01, "How a thread moves"). Assumes nothing.
use Prim.Native.Nat.{ℕ, zero, suc}
use mathlib.Core.List.{List, [], ◌∷◌, map, foldr}
use Rattle.std.proofs.Math.Option.{Option, some, none}
use Rattle.std.specs.Prelude.{length}
use Rattle.std.proofs.Math.ListN.{get_elem?}
use Rattle.plan_packed.specs.Syntax.{Program}
use Rattle.log_records.specs.Record.{Record}
use Rattle.rules.specs.State.{Form, expressions, ThreadOf, StateOf, State, start}
use Rattle.rules.specs.Rules.{Rule}
use Rattle.rules.specs.Step.{Wait, Stuck, MoveOf, AttemptOf, attempt}
use Rattle.rules.specs.Room.{Room, PickAnswerOf, step}

-- "end, race, or no room (thread, object, key, depth)"
pub data Stop : Type 0 where
  end : Stop
  race : Stop
  no_room : Room → Stop

-- a move as a run keeps it: its thread, its rule ("one rule to each move"), and its record if it leaves one
pub record MadeMove : Type 0 where
  pub thread : ℕ
  pub rule : Rule
  pub entry : Option Record

-- a run: how it ended, the picks dealt with before the end or stop, the moves made, the record of the access that lacked its key if that stopped it, and
-- the last state
pub record RunOf (F : Form) : Type 0 where
  pub stop : Stop
  pub picks : ℕ
  pub moves : List MadeMove
  pub lacked : Option Record
  pub final : StateOf F

-- a run by the rules
abbrev pub Run : Type 0
Run = RunOf expressions

-- "Other moves leave no record."
unfoldable pub logged : Option Record → List Record → List Record
logged none L = L
logged (some r) L = r ∷ L

module _ {F : Form} where
  -- the log of a run: the records of its moves, then that of the access that lacked its key: "Kinds 10 and 11 come only last."
  unfoldable pub log : RunOf F → List Record
  unfolding logged
  log r = foldr (λ (m : MadeMove) (L : List Record). logged m.entry L) (logged r.lacked []) r.moves

  -- the rule instances of a run, one for each move
  unfoldable pub instances : RunOf F → List Rule
  instances r = map (λ (m : MadeMove). m.rule) r.moves

  -- thread p's move as a run keeps it
  unfoldable pub made : ℕ → MoveOf F → MadeMove
  made p m = record { thread = p; rule = m.rule; entry = m.entry }

  -- a run after a pick that is passed over: one pick more "dealt with"
  unfoldable pub after_pass : RunOf F → RunOf F
  after_pass r = record { stop = r.stop; picks = suc r.picks; moves = r.moves; lacked = r.lacked; final = r.final }

  -- a run after a move of thread p: one pick more, and the move before the others
  unfoldable pub after_move : ℕ → MoveOf F → RunOf F → RunOf F
  unfolding made
  after_move p m r = record { stop = r.stop; picks = suc r.picks; moves = made p m ∷ r.moves; lacked = r.lacked; final = r.final }

  -- a run that ends here: how, and the record of the access that lacked its key if that stopped it
  unfoldable pub stopped : Stop → Option Record → StateOf F → RunOf F
  stopped e lacked s = record { stop = e; picks = 0; moves = []; lacked = lacked; final = s }

  -- the run from the answer to a pick of thread p in state s on, where k is the rest of the run: "each pick up to the stop, passed over or not, meets the
  -- state that the pick before it left"
  unfoldable pub resume : StateOf F → ℕ → (StateOf F → RunOf F) → PickAnswerOf F → RunOf F
  unfolding after_pass after_move stopped
  resume s p k PickAnswerOf.passed = after_pass (k s)
  resume s p k (PickAnswerOf.race r) = stopped race (some r) s
  resume s p k (PickAnswerOf.no_room w) = stopped (no_room w) none s
  resume s p k (PickAnswerOf.moved m) = after_move p m (k m.state)

  -- the run of a list of picks from state s, where `step` answers a pick: "A schedule is one byte per pick, 0 to 7."
  unfoldable pub run_by : (StateOf F → ℕ → PickAnswerOf F) → StateOf F → List ℕ → RunOf F
  unfolding resume stopped
  run_by step s [] = stopped end none s
  run_by step s (p ∷ ps) = resume s p (λ s'. run_by step s' ps) (step s p)

-- the run by the rules of a program
unfoldable pub run : Program → State → List ℕ → Run
unfolding step run_by
run g s ps = run_by (step g) s ps

-- "The list starts from the run's start given above"
unfoldable pub play : Program → List ℕ → Run
unfolding run start
play g ps = run g start ps

-- ---- the outcome

-- "absent, finished with its value, ready, waiting, stuck with its reason, or lacking the key of a named object's named field"; of a thread that waits in a
-- queue or was notified "the outcome calls it waiting, or ready once that acquire can be made" (document 02, E3)
pub data Status : Type 0 where
  absent : Status
  finished : ℕ → Status
  ready : Status
  waiting : Wait → Status
  stuck : Stuck → Status
  lacking : ℕ → ℕ → Status  -- object, field

module _ {F : Form} where
  -- "A move refused only for room counts as ready."
  unfoldable pub status : AttemptOf F → Status
  status AttemptOf.absent = absent
  status (AttemptOf.finished v) = finished v
  status (AttemptOf.waiting w) = waiting w
  status (AttemptOf.stuck r) = stuck r
  status (AttemptOf.lacking r) = lacking r.object r.field
  status (AttemptOf.moves m) = ready

  -- the statuses of n threads from thread p on, where `attempt` says what a thread can do
  unfoldable pub statuses_by : (StateOf F → ℕ → AttemptOf F) → StateOf F → ℕ → ℕ → List Status
  unfolding status
  statuses_by attempt s p zero = []
  statuses_by attempt s p (suc n) = status (attempt s p) ∷ statuses_by attempt s (suc p) n

  -- "The outcome gains one total per thread" (document 02, E6): 0 of a thread that is not there
  unfoldable pub total_of : Option (ThreadOf F) → ℕ
  total_of none = 0
  total_of (some t) = t.learnt

  -- the totals of n threads from thread p on
  unfoldable pub totals_from : StateOf F → ℕ → ℕ → List ℕ
  unfolding total_of
  totals_from s p zero = []
  totals_from s p (suc n) = total_of (get_elem? s.threads p) ∷ totals_from s (suc p) n

-- "The outcome holds: end, race, or no room (thread, object, key, depth); the picks dealt with before the end or stop; the moves made; the records
-- written; and for each of 8 threads [..]"; "the answer also gives its length: for a run by the count of records"
pub record Outcome : Type 0 where
  pub stop : Stop
  pub picks : ℕ
  pub moves : ℕ
  pub records : ℕ
  pub threads : List Status
  pub totals : List ℕ

-- the outcome of a run: "the moves made" are its rule instances, "the records written" those of its log; where `attempt` says what a thread can do
unfoldable pub outcome_by : {F : Form} → (StateOf F → ℕ → AttemptOf F) → RunOf F → Outcome
unfolding statuses_by totals_from instances log
outcome_by attempt r = record {
  stop = r.stop;
  picks = r.picks;
  moves = length (instances r);
  records = length (log r);
  threads = statuses_by attempt r.final 0 8;
  totals = totals_from r.final 0 8;
}

-- the statuses of n threads from thread p on, by the rules of a program
unfoldable pub statuses_from : Program → State → ℕ → ℕ → List Status
unfolding attempt statuses_by
statuses_from g s p n = statuses_by (attempt g) s p n

-- the outcome of a run by the rules of a program
unfoldable pub outcome_of : Program → Run → Outcome
unfolding statuses_from outcome_by
outcome_of g r = outcome_by (attempt g) r
