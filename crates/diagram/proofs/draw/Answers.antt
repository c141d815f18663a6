-- `diagram::draw` meets its contract. Assumes nothing.
use native.Mathlib.Omega.{arith}
use Rattle.log_arrows.proofs.OfLog.{log_short}
use Rattle.diagram.proofs.Pictures.{drawn, too_short}
use Rattle.diagram.proofs.draw.Goals as goal

pub overflow_mul-log : goal.overflow_mul-log
overflow_mul-log c = omega (arith, log_short c.args.log.now c.requires.passed)

pub overflow_add-log : goal.overflow_add-log
overflow_add-log c = omega (arith, log_short c.args.log.now c.requires.passed)

pub returns-then-area-log : goal.returns-then-area-log
returns-then-area-log c = rw c.at.ensures (too_short c.requires (omega (arith, c.if-area-log.true)))

pub put_picture-requires : goal.put_picture-requires
put_picture-requires c = record { judged = c.requires; room = omega (arith, c.if-area-log.false) }

pub returns : goal.returns
returns c =
    drawn c.requires (omega (arith, c.if-area-log.false))
    c.put_picture.ensures
