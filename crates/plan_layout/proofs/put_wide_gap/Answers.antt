-- `put_wide_gap` meets its contract. Assumes nothing.
use native.Mathlib.Omega.{arith}
use Rattle.plan_layout.proofs.Within.{wide_feed, wide_plain}
use Rattle.plan_layout.proofs.put_wide_gap.Goals as goal

pub put_byte-next-requires : goal.put_byte-next-requires
put_byte-next-requires c = omega (arith, c.requires.1)

pub put_spaces-requires : goal.put_spaces-requires
put_spaces-requires c = let w = c.put_byte-next.ensures in omega
    (arith, c.requires.1, w.next, w.kept)

pub returns-then-gap : goal.returns-then-gap
returns-then-gap c =
    wide_feed c.args.gap c.if-gap.true c.requires.0 (omega (arith, c.requires.1))
    c.put_byte-next.ensures c.put_spaces.ensures

pub put_spaces-requires-2 : goal.put_spaces-requires-2
put_spaces-requires-2 c = omega (arith, c.requires.1)

pub returns : goal.returns
returns c = wide_plain c.args.gap
    c.if-gap.false c.requires.0 (omega (arith, c.requires.1)) c.put_spaces-2.ensures
