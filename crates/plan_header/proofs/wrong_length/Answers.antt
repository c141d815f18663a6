-- `wrong_length`: under 8 bytes, or not the length that the header asks for.
use native.Mathlib.Omega.{arith}
use borrow.Author.Tests.{lt-ltb, le-ltb}
use Rattle.plan_packed.proofs.Reading.{procedures_lt, terms_lt}
use Rattle.plan_packed.specs.Format.{plan_length}
use Rattle.plan_packed.specs.Refusals.{wrong_length}
use Rattle.plan_header.proofs.wrong_length.Goals as goal

pub overflow_mul-result : goal.overflow_mul-result
overflow_mul-result c = omega (arith, procedures_lt c.args.plan.now)

pub overflow_add-result : goal.overflow_add-result
overflow_add-result c = omega (arith, procedures_lt c.args.plan.now)

pub overflow_mul-result-else-plan-lt8 : goal.overflow_mul-result-else-plan-lt8
overflow_mul-result-else-plan-lt8 c = omega (arith, terms_lt c.args.plan.now)

pub overflow_add-result-else-plan-lt8 : goal.overflow_add-result-else-plan-lt8
overflow_add-result-else-plan-lt8 c = omega (
  arith,
  procedures_lt c.args.plan.now,
  terms_lt c.args.plan.now,
)

pub returns-then-plan-lt8 : goal.returns-then-plan-lt8
unfolding wrong_length
returns-then-plan-lt8 c = simp (lt-ltb _ _ c.if-plan-lt8.true)

pub returns-else-plan-lt8 : goal.returns-else-plan-lt8
unfolding wrong_length plan_length
returns-else-plan-lt8 c = simp (le-ltb _ _ c.if-plan-lt8.false, c.procedures.ensures, c.terms.ensures)
