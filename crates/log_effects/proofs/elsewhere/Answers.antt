-- `log_effects::elsewhere` meets its contract. Assumes nothing.
use mathlib.Core.Logic.{inl, inr}
use native.Mathlib.Omega.{arith}
use Rattle.log_effects.specs.Inner.Step.{rests}
use Rattle.log_effects.proofs.Steps.{forks_by, joins_by}
use Rattle.log_effects.proofs.elsewhere.Goals as goal

pub tell-requires : goal.tell-requires
tell-requires c =
    let p = c.requires in
    let f = c.columns_at-columns.ensures.field_is in
    record { row_in = omega (arith, p.field_below (inl c.if-kind-eq-FORK.true), p.room); other_in = omega (arith, p.thread_below, p.room); time_in = p.time_below; sound = p.sound }

pub returns-then-kind-eq-FORK : goal.returns-then-kind-eq-FORK
returns-then-kind-eq-FORK c = forks_by c.columns_at-columns.ensures.field_is c.if-kind-eq-FORK.true c.tell.ensures

pub tell-requires-then-kind-eq-JOIN : goal.tell-requires-then-kind-eq-JOIN
tell-requires-then-kind-eq-JOIN c =
    let p = c.requires in
    let f = c.columns_at-columns-then-kind-eq-JOIN.ensures.field_is in
    record { row_in = omega (arith, p.thread_below, p.room); other_in = omega (arith, p.field_below (inr c.if-kind-eq-JOIN.true), p.room); time_in = p.time_below; sound = p.sound }

pub returns-then-kind-eq-JOIN : goal.returns-then-kind-eq-JOIN
returns-then-kind-eq-JOIN c = joins_by c.columns_at-columns-then-kind-eq-JOIN.ensures.field_is c.if-kind-eq-JOIN.true c.tell-then-kind-eq-JOIN.ensures

pub returns-else-kind-eq-JOIN : goal.returns-else-kind-eq-JOIN
returns-else-kind-eq-JOIN c = rests c.if-kind-eq-FORK.false c.if-kind-eq-JOIN.false
