-- `put_gap` meets its contract. Assumes nothing.
use Prim.Native.Nat.{ℕ}
use native.Mathlib.Omega.{arith}
use mathlib.Core.Path.{sym, ap}
use lib.ListN.{length, length-replicate}
use Rattle.text.proofs.Added.{added_more, added_as}
use Rattle.plan_layout.proofs.LaidLaws.{gap_feed, gap_plain}
use Rattle.plan_layout.proofs.put_gap.Goals as goal

pub put_byte-next-requires : goal.put_byte-next-requires
put_byte-next-requires c =
    omega (arith, c.requires, ap length (gap_feed c.args.gap c.if-gap.true))

pub put_spaces-requires : goal.put_spaces-requires
put_spaces-requires c =
    let w = c.put_byte-next.ensures in
    omega (
      arith,
      c.requires,
      w.next,
      w.kept,
      ap length (gap_feed c.args.gap c.if-gap.true),
      length-replicate {A = ℕ} c.args.gap.spaces 32,
    )

pub returns-then-gap : goal.returns-then-gap
returns-then-gap c =
    added_as (sym (gap_feed c.args.gap
    c.if-gap.true))
    (added_more c.put_byte-next.ensures c.put_spaces.ensures)

pub put_spaces-requires-2 : goal.put_spaces-requires-2
put_spaces-requires-2 c =
    omega (arith, c.requires, ap length (gap_plain c.args.gap c.if-gap.false), length-replicate {A = ℕ} c.args.gap.spaces 32)

pub returns : goal.returns
returns c =
    added_as (sym (gap_plain c.args.gap c.if-gap.false))
    c.put_spaces-2.ensures
