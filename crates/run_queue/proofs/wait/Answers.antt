-- `wait` meets its contract. Assumes nothing.
use Rattle.run_queue.specs.Inner.Queue.{last_of, waited_of}
use borrow.Author.Rules.{rules}
use Rattle.run_queue.proofs.wait.Goals as goal

pub returns : goal.returns
unfolding waited_of last_of
returns c = simp c.count-before.ensures.0
