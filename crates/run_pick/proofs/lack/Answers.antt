-- `lack` meets its contract. Assumes nothing.
use borrow.Author.Tests.{eq-eqb, ne_eqb}
use Rattle.run_pick.specs.Inner.Pick.{lack_by}
use borrow.Author.Rules.{rules}
use Rattle.run_pick.proofs.lack.Goals as goal

pub returns-then-ready-eq-WRITE : goal.returns-then-ready-eq-WRITE
unfolding lack_by
returns-then-ready-eq-WRITE c = simp (c.entry.ensures, eq-eqb _ _ c.if-ready-eq-WRITE.true)

pub returns : goal.returns
unfolding lack_by
returns c = simp (c.entry-2.ensures, ne_eqb _ _ c.if-ready-eq-WRITE.false)
