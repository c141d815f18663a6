-- `with_digit`: the code is its definition. Assumes nothing.
use native.Mathlib.Omega.{arith}
use borrow.Author.Tests.{lt-ltb, le-ltb}
use Rattle.text_inputs.specs.Numerals.{with_digit}
use Rattle.text_inputs.proofs.numerals.with_digit.Goals as goal

pub returns-then-number-lt100000 : goal.returns-then-number-lt100000
unfolding with_digit
returns-then-number-lt100000 c =
    (simp (lt-ltb _ _ c.if-number-lt100000.true) (omega (arith, c.wide.ensures.0)), omega (arith, c.wide.ensures.1))

pub returns : goal.returns
unfolding with_digit
returns c = (simp (le-ltb _ _ c.if-number-lt100000.false), omega arith)
