-- `top` meets its contract. Assumes nothing.
use borrow.Author.Tests.{eq-eqb, ne_eqb}
use borrow.Author.Rules.{rules}
use Rattle.run_refocusing_step.proofs.top.Goals as goal

pub returns-then-depth-eq0 : goal.returns-then-depth-eq0
returns-then-depth-eq0 c = (simp (eq-eqb _ _ c.if-depth-eq0.true), search rules)

pub returns : goal.returns
returns c = (simp (ne_eqb _ _ c.if-depth-eq0.false), search rules)
