-- `put` meets its contract. Assumes nothing.
use Rattle.plan_parser.proofs.StackLaws.{puts_none, puts_one}
use native.Mathlib.Omega.{arith}
use borrow.Author.Rules.{rules}
use Rattle.plan_parser.proofs.stacks.put.Goals as goal

pub returns-then-value-eq0 : goal.returns-then-value-eq0
returns-then-value-eq0 c = puts_none _ _ _ _ _ (search rules) c.if-value-eq0.true (search rules)

pub returns-then-top-popped : goal.returns-then-top-popped
returns-then-top-popped c = puts_one _ _ _ _ 0 (search rules) (search rules) (omega (arith, c.if-value-eq0.false)) (search rules) (search rules)

pub returns-then-value-eq0-2 : goal.returns-then-value-eq0-2
returns-then-value-eq0-2 c = puts_none _ _ _ _ _ (search rules) c.if-value-eq0-2.true (search rules)

pub returns : goal.returns
returns c = puts_one _ _ _ _ _ (search rules) (search rules) (omega (arith, c.if-value-eq0-2.false)) (search rules) (search rules)
