-- `goes_on` meets its contract. Assumes nothing.
use borrow.Author.Tests.{lt-ltb, le-ltb}
use Rattle.std.proofs.lemmas.Bool.{lt-leb}
use Rattle.run_act.specs.Inner.Act.{goes_on_by}
use Rattle.run_act.proofs.goes_on.Goals as goal

pub returns-then-redex-ge-RUN : goal.returns-then-redex-ge-RUN
unfolding goes_on_by
returns-then-redex-ge-RUN c = simp (le-ltb _ _ c.if-redex-ge-RUN.true)

pub returns-else-redex-ge-RUN : goal.returns-else-redex-ge-RUN
unfolding goes_on_by
returns-else-redex-ge-RUN c = simp (lt-ltb _ _ c.if-redex-ge-RUN.false, lt-leb _ _ c.if-redex-ge-RUN.false)
