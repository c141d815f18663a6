-- `token` meets its contract. Assumes nothing.
use lib.ListN.{get_or-eq_default}
use native.Mathlib.Omega.{arith}
use mathlib.Core.Path.{sym, ◌∙◌}
use Rattle.plan_parser.proofs.StackLaws.{any_default}
use Rattle.plan_parser.proofs.stacks.token.Goals as goal

pub returns-then-tokens-at : goal.returns-then-tokens-at
returns-then-tokens-at c = (sym (get_or-eq_default c.args.tokens.now 69 c.if-tokens-at.true), omega arith)

pub returns : goal.returns
returns c =
    let h = c.if-tokens-at.false in
    (c.wide.ensures.0 ∙ any_default c.args.tokens.now _ 0 69 h, omega arith)
