-- `log_arrows::implied::by` meets its contract. Assumes nothing.
use Rattle.log_arrows.specs.Inner.Implied.{heard_in}
use Rattle.log_arrows.proofs.Tests.{by_itself, by_none, by_newest}
use native.Mathlib.Omega.{arith}
use Rattle.log_arrows.proofs.implied.by.Goals as goal

pub returns-then-other-thread : goal.returns-then-other-thread
returns-then-other-thread c = by_itself (heard_in c.args.rows.now) c.args.index c.args.thread c.args.other c.if-other-thread.true

pub overflow_cast-mark : goal.overflow_cast-mark
overflow_cast-mark c = omega (arith, c.requires.earlier.most c.args.other c.requires.other_in, c.requires.earlier.inside)

pub returns-then-mark-eq0 : goal.returns-then-mark-eq0
returns-then-mark-eq0 c = by_none (heard_in c.args.rows.now) c.args.index c.args.thread c.args.other
    c.if-other-thread.false c.if-mark-eq0.true

pub offset_bounds-rows-mark : goal.offset_bounds-rows-mark
offset_bounds-rows-mark c = omega (
  arith,
  c.requires.earlier.most c.args.other c.requires.other_in,
  c.requires.earlier.inside,
)

pub bounds-rows-mark : goal.bounds-rows-mark
bounds-rows-mark c =
    omega (
      arith,
      c.requires.earlier.most c.args.other c.requires.other_in,
      c.requires.earlier.inside,
    )

pub returns : goal.returns
returns c = by_newest (heard_in c.args.rows.now) c.args.index c.args.thread c.args.other
    c.if-other-thread.false c.if-mark-eq0.false
