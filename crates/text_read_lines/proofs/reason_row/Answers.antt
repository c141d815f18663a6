-- `reason_row`: the code is its definition, a reason by its number. Assumes nothing.
use native.Mathlib.Omega.{arith}
use mathlib.Core.Path.{sym, ap}
use borrow.Author.Tests.{ne_eqb}
use Rattle.plan_parser_goals.specs.Inner.Encoded.{reason_of}
use Rattle.text_read_lines.specs.Reasons.{reason_row}
use Rattle.text_read_lines.proofs.reason_row.Goals as goal

pub returns-in-1000 : goal.returns-in-1000
unfolding reason_of reason_row
returns-in-1000 c = sym (ap (λ n. reason_row (reason_of n)) c.in-1000.is)

pub returns-in-1001 : goal.returns-in-1001
unfolding reason_of reason_row
returns-in-1001 c = sym (ap (λ n. reason_row (reason_of n)) c.in-1001.is)

pub returns-in-1002 : goal.returns-in-1002
unfolding reason_of reason_row
returns-in-1002 c = sym (ap (λ n. reason_row (reason_of n)) c.in-1002.is)

pub returns-in_default : goal.returns-in_default
unfolding reason_of reason_row
returns-in_default c =
    simp (
      ne_eqb c.args.reason 1000 (λ e. omega arith),
      ne_eqb c.args.reason 1001 (λ e. omega arith),
      ne_eqb c.args.reason 1002 (λ e. omega arith),
    ) c.goal_row.ensures
