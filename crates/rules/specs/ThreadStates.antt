-- The thread states of an outcome, by the rules as relations (document 01, "How a thread moves"). Assumes nothing.
use Rattle.std.specs.Prelude.{ℕ, ◌≡◌}
use Rattle.std.proofs.Math.Option.{Option}
use Rattle.plan_packed.specs.Syntax.{Program}
use Rattle.log_records.specs.Record.{Record}
use Rattle.rules.specs.State.{State}
use Rattle.rules.specs.Rules.{Rule, Moves, Lacks}
use Rattle.rules.specs.Step.{AttemptOf}
use Rattle.rules.specs.Room.{PassedOver}
use Rattle.rules.specs.Run.{Status, absent, finished, ready, waiting, stuck, lacking}

-- thread p of state s is "absent, finished with its value, ready, waiting, stuck with its reason, or lacking the key of a named object's named field": its
-- pick would be passed over for that reason; a rule is there to move it by, "A move refused only for room counts as ready."; or its access lacks that key
abbrev pub HasStatus : Program → State → ℕ → Status → Type 0
HasStatus g s p absent = PassedOver s p AttemptOf.absent
HasStatus g s p (finished v) = PassedOver s p (AttemptOf.finished v)
HasStatus g s p ready = (R : Rule) × (e : Option Record) × (s' : State) × Moves g s p R e s'
HasStatus g s p (waiting w) = PassedOver s p (AttemptOf.waiting w)
HasStatus g s p (stuck r) = PassedOver s p (AttemptOf.stuck r)
HasStatus g s p (lacking o f) = (e : Record) × Lacks g s p e × (e.object ≡ o) × (e.field ≡ f)
