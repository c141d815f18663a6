-- `stack_all` meets its contract. Assumes nothing.
use Rattle.plan_parser.proofs.StackLaws.{stacks_twice}
use borrow.Author.Rules.{rules}
use Rattle.plan_parser.proofs.stacks.stack_all.Goals as goal

pub returns : goal.returns
returns c = record {
  stacked = stacks_twice _ _ _ _ _ _ _ _ (stacks_twice _ _ _ _ _ _ _ _ c.stack-first.ensures.0
      c.stack-second.ensures.0) c.stack_digits.ensures.0;
  upper_bound = (search rules, search rules);
}
