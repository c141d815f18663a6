-- `with`: by the slot, 15 or another.
use borrow.Author.Tests.{eq-eqb, ne_eqb}
use Rattle.plan_packed.specs.Inner.Steps.{with_slot}
use Rattle.format.proofs.BitLaws.{shl_one}
use Rattle.plan_bound_slots.proofs.with.Goals as goal

pub returns-then-slot-eq15 : goal.returns-then-slot-eq15
unfolding with_slot
returns-then-slot-eq15 c = simp (eq-eqb _ _ c.if-slot-eq15.true)

pub returns-else-slot-eq15 : goal.returns-else-slot-eq15
unfolding with_slot
returns-else-slot-eq15 c = simp (ne_eqb _ _ c.if-slot-eq15.false, shl_one c.args.slot c.requires)
