-- `stack_digits` meets its contract. Assumes nothing.
use native.Mathlib.Omega.{arith}
use Rattle.plan_parser_goals.specs.Inner.Encoded.{unpacked}
use Rattle.plan_parser.proofs.StackLaws.{stacks_twice, six_few}
use Rattle.plan_parser.proofs.stacks.stack_digits.Goals as goal

pub returns : goal.returns
unfolding unpacked
returns c = (
  stacks_twice _ _ _ _ _ _ _ _ (stacks_twice _ _ _ _ _ _ _ _ (stacks_twice _ _ _ _ _ _ _ _
      (stacks_twice _ _ _ _ _ _ _ _ (stacks_twice _ _ _ _ _ _ _ _ c.stack-first.ensures.0 c.stack-second.ensures.0)
      c.stack-third.ensures.0) c.stack-fourth.ensures.0)
      c.stack-fifth.ensures.0) c.stack.ensures.0,
  omega (
    arith,
    c.stack-first.ensures.1,
    c.stack-second.ensures.1,
    c.stack-third.ensures.1,
    c.stack-fourth.ensures.1,
    c.stack-fifth.ensures.1,
    c.stack.ensures.1,
  ),
  six_few _ _ _ _ _ _ _ _ c.stack-first.ensures.2
      c.stack-second.ensures.2
      c.stack-third.ensures.2 c.stack-fourth.ensures.2
      c.stack-fifth.ensures.2 c.stack.ensures.2,
)
