-- `act_signal` meets its contract. Assumes nothing.
use borrow.Author.Tests.{eq-eqb, ne_eqb}
use Rattle.run_monitors.specs.Inner.Monitors.{act_signal}
use borrow.Author.Rules.{rules}
use Rattle.run_monitors.proofs.act_signal.Goals as goal

pub returns-then-signal-eq0 : goal.returns-then-signal-eq0
unfolding act_signal
returns-then-signal-eq0 c = simp (c.act_wait.ensures, eq-eqb _ _ c.if-signal-eq0.true)

pub returns : goal.returns
unfolding act_signal
returns c = simp (c.go_on.ensures, c.value.ensures, ne_eqb _ _ c.if-signal-eq0.false)
