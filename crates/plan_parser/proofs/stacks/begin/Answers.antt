-- `begin` meets its contract. Assumes nothing.
use Rattle.plan_parser.proofs.StackLaws.{stacks_twice, stacks_as, main_goals, heading_goals}
use native.Mathlib.Omega.{arith}
use Rattle.plan_parser.proofs.stacks.begin.Goals as goal

pub returns-then-number-eq0 : goal.returns-then-number-eq0
returns-then-number-eq0 c = (
  stacks_as _ _ _ _ _ _ (main_goals _ c.if-number-eq0.true) c.stack-body.ensures.0,
  omega (
    arith,
    c.stack-body.ensures.1,
  ),
)

pub returns : goal.returns
returns c = (
  stacks_as _ _ _ _ _ _ (heading_goals _ c.if-number-eq0.false
      c.requires.0)
      (stacks_twice _ _ _ _ _ _ _ _ (stacks_twice _ _ _ _ _ _ _ _ (stacks_twice _ _ _ _ _ _ _ _
      (stacks_twice _ _ _ _ _ _ _ _ (stacks_twice _ _ _ _ _ _ _ _ (stacks_twice _ _ _ _ _ _ _ _
      c.stack-body.ensures.0
      c.stack-equals.ensures.0)
      c.stack-closing.ensures.0)
      c.stack-count.ensures.0) c.stack-opening.ensures.0)
      c.stack-own.ensures.0) c.stack.ensures.0),
  omega (
    arith,
    c.stack-body.ensures.1,
    c.stack-equals.ensures.1,
    c.stack-closing.ensures.1,
    c.stack-count.ensures.1,
    c.stack-opening.ensures.1,
    c.stack-own.ensures.1,
    c.stack.ensures.1,
  ),
)
