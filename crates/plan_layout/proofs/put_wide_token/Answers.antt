-- `put_wide_token` meets its contract. Assumes nothing.
use native.Mathlib.Omega.{arith}
use Rattle.plan_notation.specs.Tokens.{text_of}
use Rattle.plan_notation.proofs.Widths.{few_bytes}
use Rattle.plan_layout.proofs.Within.{wide_token}
use Rattle.plan_layout.proofs.put_wide_token.Goals as goal

pub overflow_add-result : goal.overflow_add-result
overflow_add-result c = record {
  fits = omega
      (arith, c.requires.1, c.requires.2, few_bytes _ c.requires.0);
}

pub returns : goal.returns
returns c =
    wide_token (text_of c.args.token) _ c.row-row.ensures (few_bytes _ c.requires.0) c.requires.1
    (omega (arith, c.requires.2))
    c.put_word.ensures
