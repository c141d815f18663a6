use mathlib.Core.Path.{◌≡◌, ◌∙◌}
use native.Mathlib.Omega.{arith}
use mathlib.Core.Bool.{not}
use borrow.Author.Count.{below_more}
use Rattle.format.proofs.LowestLaws.{found, found_none}
use Rattle.plan_packed.specs.Refusals.{uses_unbound_slot}
use Rattle.plan_bound_slots.proofs.Roots.{there, root_call, opens}
use Rattle.plan_bound_slots.proofs.lowest_open.Goals as goal
use Rattle.plan_bound_slots.proofs.lowest_open.Goals.{After-closed_with}

pub parameters-parameters-requires : goal.parameters-parameters-requires
parameters-parameters-requires c = there c.requires.right _ c.loop-procedure-test.true

pub root-requires : goal.root-requires
root-requires c = there c.requires.right _ c.loop-procedure-test.true

pub closed_with-requires : goal.closed_with-requires
closed_with-requires c = root_call c.requires.right _ c.loop-procedure-test.true c.requires.loaded c.root.ensures c.parameters-parameters.ensures

-- the procedure of this turn
seen :
    (c : After-closed_with) →
    uses_unbound_slot c.args.plan.now c.loop-procedure.procedure ≡ not
    c.closed_with.result
seen c =
    opens c.requires.right _ c.loop-procedure-test.true c.requires.loaded c.root.ensures c.parameters-parameters.ensures
    c.closed_with.ensures

pub returns-then-not-closed_with : goal.returns-then-not-closed_with
returns-then-not-closed_with c = found _ _ _ c.loop-procedure-test.true
    (seen (goal.at.returns-then-not-closed_with c).After-closed_with ∙ c.if-not-closed_with.true-raw)
    c.loop-procedure.invariant

pub loop-procedure-preserved : goal.loop-procedure-preserved
loop-procedure-preserved c =
    below_more _ _ c.loop-procedure.invariant (seen (goal.at.loop-procedure-preserved c).After-closed_with ∙ c.if-not-closed_with.false-raw)

pub returns : goal.returns
returns c =
    let l = c.loop-procedure in
    let e : l.procedure ≡ c.args.procedures = omega arith in
    found_none (uses_unbound_slot c.args.plan.now) _ _ (omega arith) (omega arith) (rw e at l.invariant)
