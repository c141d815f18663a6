-- `put_wide` meets its contract. Assumes nothing.
use native.Mathlib.Omega.{arith}
use Rattle.plan_layout.proofs.LaidLaws.{gap_short}
use Rattle.plan_layout.proofs.Within.{within_later, within_more}
use Rattle.plan_layout.proofs.put_wide.Goals as goal

pub put_wide_gap-next-requires : goal.put_wide_gap-next-requires
put_wide_gap-next-requires c = (c.requires.2, omega (arith, c.requires.3))

pub put_wide_token-requires : goal.put_wide_token-requires
put_wide_token-requires c =
    let w = c.put_wide_gap-next.ensures in (c.requires.0, c.requires.1, omega (arith, c.requires.3, w.next, w.kept, gap_short c.args.gap c.requires.2))

pub returns : goal.returns
returns c =
    let w = c.put_wide_gap-next.ensures in
    within_more (within_later _ (omega arith) w)
    (within_later _ (omega (arith, w.next, gap_short c.args.gap c.requires.2)) c.put_wide_token.ensures)
