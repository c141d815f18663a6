-- `put_further` meets its contract. The invariant: the counts at the tokens before this one are written. Assumes nothing.
use Rattle.plan_reader.proofs.Counts.{At}
use Rattle.plan_reader.proofs.put_further.Given as goal

abbrev pub invariant-loop-index : goal.invariant-loop-index
invariant-loop-index l = At l.tokens l.initial.area l.from l.area l.next l.index
