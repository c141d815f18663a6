-- `small::put_thousands` meets its contract. Assumes nothing.
use Prim.Native.Nat.{ℕ, ◌*◌}
use native.Mathlib.Omega.{arith}
use mathlib.Core.Path.{◌≡◌, ap, ◌∙◌}
use Rattle.text.specs.Text.{decimal}
use Rattle.text.proofs.Added.{added_more, added_as}
use Rattle.text_sample_lines.proofs.Digits.{one_digit, one_length, thousandfold, thousand_length}
use borrow.Author.Rules.{rules}
use Rattle.text_sample_lines.proofs.small.put_thousands.Goals as goal

pub put_last-requires : goal.put_last-requires
put_last-requires c = omega (arith, one_length (c.args.number * 1000) (omega arith))

pub returns-then-number-eq0 : goal.returns-then-number-eq0
returns-then-number-eq0 c =
    let n = c.args.number in
    let e : n ≡ n * 1000 = omega arith in
    added_as (one_digit n (omega arith) ∙ ap decimal e) c.put_last.ensures

pub put_below_10000-next-requires : goal.put_below_10000-next-requires
put_below_10000-next-requires c = (omega arith, omega (arith, thousand_length c.args.number (omega arith)))

pub put_word-requires : goal.put_word-requires
put_word-requires c =
    let w = c.put_below_10000-next.ensures in
    omega (arith, w.next, w.kept, thousand_length c.args.number (omega arith))

pub returns : goal.returns
returns c = added_as (thousandfold c.args.number (omega arith))
    (added_more c.put_below_10000-next.ensures c.put_word.ensures)
