-- `run` meets its contract. Assumes nothing.
use Rattle.plan_parser.proofs.RunLaws.{Before}
use Prim.Native.Nat.{◌+◌, ◌-◌, ◌*◌}
use lib.ListN.{length}
use Rattle.plan_parser.proofs.run.Given as goal

abbrev pub invariant-loop-standing : goal.invariant-loop-standing
invariant-loop-standing l = Before l.counts l.tokens l.initial.goals l.initial.values l.initial.words l.initial.standing l.goals l.values l.words
    l.standing

abbrev pub decreases-loop-standing : goal.decreases-loop-standing
decreases-loop-standing l = 8 * (length l.tokens - l.standing.at) + l.standing.goals
