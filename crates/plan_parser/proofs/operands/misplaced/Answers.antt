-- `misplaced` meets its contract. Assumes nothing.
use Rattle.plan_parser.proofs.DirectLaws.{misplaced_is}
use borrow.Author.Rules.{rules}
use Rattle.plan_parser.proofs.operands.misplaced.Goals as goal

pub returns : goal.returns
returns c = misplaced_is c.args.form c.args.code (search rules)
