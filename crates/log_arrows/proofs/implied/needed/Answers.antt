-- `log_arrows::implied::needed` meets its contract. Assumes nothing.
use Rattle.log_arrows.specs.Inner.Implied.{heard_in}
use Rattle.log_arrows.proofs.Tests.{needed_own, needed_none, needed_not_implied}
use Rattle.log_arrows.proofs.implied.needed.Goals as goal

pub returns-then-thread-own : goal.returns-then-thread-own
returns-then-thread-own c = needed_own (heard_in c.args.rows.now) c.args.own c.args.index c.args.thread c.if-thread-own.true

pub returns-then-row-thread-eq0 : goal.returns-then-row-thread-eq0
returns-then-row-thread-eq0 c = needed_none (heard_in c.args.rows.now) c.args.own
    c.args.index c.args.thread c.if-thread-own.false c.if-row-thread-eq0.true

pub returns : goal.returns
returns c = needed_not_implied (heard_in c.args.rows.now) c.args.own c.args.index c.args.thread
    c.by_one.result c.if-thread-own.false c.if-row-thread-eq0.false c.by_one.ensures
