-- `log_clocks::lesser` meets its contract. Assumes nothing.
use native.Mathlib.Omega.{arith}
use borrow.Author.Tests.{ltb-true, ltb-false}
use mathlib.Core.Path.{sym, ◌∙◌}
use Rattle.log_clocks.proofs.lesser.Goals as goal

pub returns-then-less : goal.returns-then-less
returns-then-less c = let a = c.args in omega (arith, ltb-true a.one a.other (sym c.less.ensures ∙ c.if-less.true))

pub returns-else-less : goal.returns-else-less
returns-else-less c = let a = c.args in omega (arith, ltb-false a.one a.other (sym c.less.ensures ∙ c.if-less.false))
