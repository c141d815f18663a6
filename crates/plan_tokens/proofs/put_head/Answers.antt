-- `put_head` meets its contract. Assumes nothing.
use native.Mathlib.Omega.{arith}
use Rattle.plan_tokens.specs.Inner.Begun.{procedure_head}
use Rattle.plan_tokens.proofs.put_head.Goals as goal

pub put_word-requires : goal.put_word-requires
put_word-requires c = omega (arith, c.requires.at_in_bounds)

pub returns : goal.returns
unfolding procedure_head
returns c = c.put_word.ensures
