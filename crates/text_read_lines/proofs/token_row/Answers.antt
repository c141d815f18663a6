-- `token_row`: the code is its definition. Assumes nothing.
use native.Mathlib.Omega.{arith}
use mathlib.Core.Path.{sym, ap}
use borrow.Author.Tests.{lt-ltb, le-ltb, ne_eqb}
use Rattle.text_read_lines.specs.Reasons.{token_row}
use Rattle.text_read_lines.proofs.token_row.Goals as goal

pub returns-in-0-to-31 : goal.returns-in-0-to-31
unfolding token_row
returns-in-0-to-31 c =
    simp (lt-ltb c.args.token 32 (omega arith))

pub returns-in-42 : goal.returns-in-42
unfolding token_row
returns-in-42 c = sym (ap token_row c.in-42.is)

pub returns-in-43 : goal.returns-in-43
unfolding token_row
returns-in-43 c = sym (ap token_row c.in-43.is)

pub returns-in-44 : goal.returns-in-44
unfolding token_row
returns-in-44 c = sym (ap token_row c.in-44.is)

pub returns-in-45 : goal.returns-in-45
unfolding token_row
returns-in-45 c = sym (ap token_row c.in-45.is)

pub returns-in-46 : goal.returns-in-46
unfolding token_row
returns-in-46 c = sym (ap token_row c.in-46.is)

pub returns-in-62 : goal.returns-in-62
unfolding token_row
returns-in-62 c = sym (ap token_row c.in-62.is)

pub returns-in-63 : goal.returns-in-63
unfolding token_row
returns-in-63 c = sym (ap token_row c.in-63.is)

pub returns-in-66 : goal.returns-in-66
unfolding token_row
returns-in-66 c = sym (ap token_row c.in-66.is)

pub returns-in_default : goal.returns-in_default
unfolding token_row
returns-in_default c =
    simp (
      le-ltb c.args.token 32 (omega arith),
      ne_eqb c.args.token 42 (λ e. omega arith),
      ne_eqb c.args.token 43 (λ e. omega arith),
      ne_eqb c.args.token 44 (λ e. omega arith),
      ne_eqb c.args.token 45 (λ e. omega arith),
      ne_eqb c.args.token 46 (λ e. omega arith),
      ne_eqb c.args.token 62 (λ e. omega arith),
      ne_eqb c.args.token 63 (λ e. omega arith),
      ne_eqb c.args.token 66 (λ e. omega arith),
    )
