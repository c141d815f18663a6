-- `failure_row`: the code is its definition, a failure by its numbers. Assumes nothing.
use native.Mathlib.Omega.{arith}
use mathlib.Core.Path.{sym, ap, ◌∙◌}
use borrow.Author.Tests.{ne_eqb}
use Rattle.plan_reader.specs.Inner.Reading.{fault_of}
use Rattle.read.specs.Answer.{failure_of}
use Rattle.text_read_lines.specs.Reasons.{failure_row}
use Rattle.text_read_lines.proofs.failure_row.Goals as goal

pub returns-in-0 : goal.returns-in-0
unfolding failure_of fault_of failure_row
returns-in-0 c = c.reason_row.ensures ∙ sym (ap (λ n. failure_row (failure_of n c.args.reason)) c.in-0.is)

pub returns-in-1 : goal.returns-in-1
unfolding failure_of fault_of failure_row
returns-in-1 c = sym (ap (λ n. failure_row (failure_of n c.args.reason)) c.in-1.is)

pub returns-in-2 : goal.returns-in-2
unfolding failure_of fault_of failure_row
returns-in-2 c = sym (ap (λ n. failure_row (failure_of n c.args.reason)) c.in-2.is)

pub returns-in-4 : goal.returns-in-4
unfolding failure_of fault_of failure_row
returns-in-4 c = sym (ap (λ n. failure_row (failure_of n c.args.reason)) c.in-4.is)

pub returns-in_default : goal.returns-in_default
unfolding failure_of fault_of failure_row
returns-in_default c =
    simp (
      ne_eqb c.args.kind 0 (λ e. omega arith),
      ne_eqb c.args.kind 1 (λ e. omega arith),
      ne_eqb c.args.kind 2 (λ e. omega arith),
      ne_eqb c.args.kind 4 (λ e. omega arith),
    )
