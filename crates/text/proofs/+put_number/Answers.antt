use native.Mathlib.Omega.{arith}
use mathlib.Core.Path.{sym, ap}
use lib.ListN.{length, length-append}
use Rattle.text.specs.Text.{decimal}
use Rattle.text.proofs.Decimals.{decimal_digit, decimal_more}
use Rattle.text.proofs.Added.{added_more, added_as}
use Prim.Native.Nat.{◌+◌, ◌/◌, ◌%◌}
use mathlib.Core.List.{[], ◌∷◌}
use Rattle.text.proofs.+put_number.Goals as goal

pub put_byte-requires : goal.put_byte-requires
put_byte-requires t c = omega (arith, ap length (decimal_digit c.args.number (omega arith)))

pub returns-then-number-lt10 : goal.returns-then-number-lt10
returns-then-number-lt10 t c = added_as (sym (decimal_digit c.args.number (omega arith))) c.put_byte.ensures

pub put_number-next-requires : goal.put_number-next-requires
put_number-next-requires t c = (
  omega arith,
  omega (
    arith,
    ap length (decimal_more c.args.number (omega arith)),
    length-append (decimal (c.args.number / 10)) ((48 + c.args.number % 10) ∷ []),
  ),
)

pub put_byte-requires-2 : goal.put_byte-requires-2
put_byte-requires-2 t c =
    let w = c.put_number-next.ensures in
    let n = c.args.number in
    omega (arith, w.next, w.kept, ap length (decimal_more n (omega arith)), length-append (decimal (n / 10)) ((48 + n % 10) ∷ []))

pub returns : goal.returns
returns t c =
    added_as (sym (decimal_more c.args.number (omega arith)))
    (added_more c.put_number-next.ensures c.put_byte-2.ensures)
