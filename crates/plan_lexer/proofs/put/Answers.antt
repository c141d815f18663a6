-- `put` meets its contract: no room, or one token more. Assumes nothing.
use Rattle.plan_lexer.proofs.KeptLaws.{adds_full, adds_one}
use Rattle.plan_lexer.proofs.put.Goals as goal

pub returns-then-tokens-count : goal.returns-then-tokens-count
returns-then-tokens-count c = adds_full _ _ _ c.if-tokens-count.true

pub returns : goal.returns
returns c = adds_one _ _ _ c.if-tokens-count.false
