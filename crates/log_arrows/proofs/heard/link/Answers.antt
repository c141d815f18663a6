-- `log_arrows::heard::link` meets its contract: its tests are the definition's. Assumes nothing.
use Rattle.log_arrows.specs.Inner.Links.{link_row}
use borrow.Author.Tests.{eq-eqb, ne_eqb}
use Rattle.log_arrows.proofs.heard.link.Goals as goal

pub returns-then-columns-monitor : goal.returns-then-columns-monitor
unfolding link_row
returns-then-columns-monitor c = rw (eq-eqb _ _ c.if-columns-monitor.true)

pub returns-then-columns-volatile : goal.returns-then-columns-volatile
unfolding link_row
returns-then-columns-volatile c = rw (ne_eqb _ _ c.if-columns-monitor.false, c.if-columns-volatile.true)

pub returns-then-columns-thread : goal.returns-then-columns-thread
unfolding link_row
returns-then-columns-thread c = rw (ne_eqb _ _ c.if-columns-monitor.false, c.if-columns-volatile.false, eq-eqb _ _ c.if-columns-thread.true)

pub returns : goal.returns
unfolding link_row
returns c = rw (ne_eqb _ _ c.if-columns-monitor.false, c.if-columns-volatile.false, ne_eqb _ _ c.if-columns-thread.false)
