-- `stack` meets its contract. Assumes nothing.
use Rattle.plan_parser.proofs.StackLaws.{stacks_none, stacks_one}
use native.Mathlib.Omega.{arith}
use borrow.Author.Rules.{rules}
use Rattle.plan_parser.proofs.stacks.stack.Goals as goal

pub returns-then-code-eq0 : goal.returns-then-code-eq0
returns-then-code-eq0 c = (stacks_none _ _ _ c.if-code-eq0.true, search rules, search rules)

pub returns : goal.returns
returns c = (stacks_one _ _ _ _ c.requires.0 c.if-code-eq0.false (search rules), search rules, omega (arith, c.if-code-eq0.false))
