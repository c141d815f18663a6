-- `word_at`: the 40 bits from the first bit of the term on.
use native.Mathlib.Omega.{arith}
use Rattle.plan_packed.proofs.Reading.{procedures_lt, word_is}
use Rattle.plan_terms.proofs.term.word_at.Goals as goal

pub overflow_mul-procedures : goal.overflow_mul-procedures
overflow_mul-procedures c = omega (arith, c.requires, procedures_lt c.args.plan.now)

pub overflow_add-procedures : goal.overflow_add-procedures
overflow_add-procedures c = omega (arith, c.requires, procedures_lt c.args.plan.now)

pub overflow_mul-term : goal.overflow_mul-term
overflow_mul-term c = omega (arith, c.requires, procedures_lt c.args.plan.now)

pub overflow_add-procedures-2 : goal.overflow_add-procedures-2
overflow_add-procedures-2 c = omega (arith, c.requires, procedures_lt c.args.plan.now)

pub overflow_mul-procedures-2 : goal.overflow_mul-procedures-2
overflow_mul-procedures-2 c = omega (arith, c.requires, procedures_lt c.args.plan.now)

pub field-requires : goal.field-requires
field-requires c = let h = c.requires.2 in (omega arith, omega arith)

pub returns : goal.returns
returns c =
    let a = c.args in
    word_is a.plan.now a.procedures a.term c.field.result c.requires.0 c.field.ensures
