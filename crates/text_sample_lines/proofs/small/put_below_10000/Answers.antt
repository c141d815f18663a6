-- `small::put_below_10000` meets its contract. Assumes nothing.
use native.Mathlib.Omega.{arith}
use mathlib.Core.Path.{sym}
use Rattle.text.proofs.Decimals.{decimal_more}
use Rattle.text.proofs.Added.{added_more, added_as}
use Rattle.text_sample_lines.proofs.Digits.{more_length}
use borrow.Author.Rules.{rules}
use Rattle.text_sample_lines.proofs.small.put_below_10000.Goals as goal

pub put_below_1000-next-requires : goal.put_below_1000-next-requires
put_below_1000-next-requires c = (omega arith, omega (arith, more_length c.args.number (omega arith)))

pub put_last-requires : goal.put_last-requires
put_last-requires c =
    let w = c.put_below_1000-next.ensures in
    omega (arith, w.next, w.kept, more_length c.args.number (omega arith))

pub returns : goal.returns
returns c = added_as (sym (decimal_more c.args.number (omega arith)))
    (added_more c.put_below_1000-next.ensures c.put_last.ensures)
