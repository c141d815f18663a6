-- `small::put_below_100` meets its contract. Assumes nothing.
use Prim.Native.Nat.{◌/◌}
use native.Mathlib.Omega.{arith}
use Rattle.text.proofs.Added.{added_more, added_as}
use Rattle.text_sample_lines.proofs.Digits.{one_digit, two_digits, one_length, more_length}
use borrow.Author.Rules.{rules}
use Rattle.text_sample_lines.proofs.small.put_below_100.Goals as goal

pub put_last-requires : goal.put_last-requires
put_last-requires c = omega (arith, one_length c.args.number (omega arith))

pub returns-then-number-lt10 : goal.returns-then-number-lt10
returns-then-number-lt10 c = added_as (one_digit c.args.number (omega arith)) c.put_last.ensures

pub put_last-next-requires : goal.put_last-next-requires
put_last-next-requires c = omega (arith, more_length c.args.number (omega arith))

pub put_last-requires-2 : goal.put_last-requires-2
put_last-requires-2 c =
    omega (
      arith,
      more_length c.args.number (omega arith),
      one_length (c.args.number / 10) (omega arith),
    )

pub returns : goal.returns
returns c = added_as (two_digits c.args.number (omega arith)
    (omega arith)) (added_more c.put_last-next.ensures c.put_last-2.ensures)
