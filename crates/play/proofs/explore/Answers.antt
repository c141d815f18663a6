-- `explore` meets its contract. Assumes nothing.
use native.Mathlib.Omega.{arith}
use Rattle.plan_packed.specs.Format.{procedures}
use Rattle.run_refusals.proofs.Passed.{Inside, inside}
use Rattle.play.specs.Inner.Roots.{Roots}
use Rattle.play.proofs.Explores.{explored_by}
use Rattle.play.proofs.explore.Goals as goal
use Rattle.play.proofs.explore.Goals.{After-slice_known-2-1}

-- the plan's numbers lie inside it
within : (c : After-slice_known-2-1) → Inside c.args.plan.now
within c = inside _ c.requires.0.plan_passes

pub procedures-procedures-requires : goal.procedures-procedures-requires
procedures-procedures-requires c = let w = (within c).long in omega arith

pub roots-roots-requires : goal.roots-roots-requires
roots-roots-requires c =
    let w = within (goal.at.roots-roots-requires c).After-slice_known-2-1 in
    let p = c.procedures-procedures.ensures in
    (omega (arith, w.few_procedures), omega (arith, w.long))

pub volatiles-mask-requires : goal.volatiles-mask-requires
volatiles-mask-requires c = let w = (within (goal.at.volatiles-mask-requires c).After-slice_known-2-1).long in omega arith

pub version-version-requires : goal.version-version-requires
version-version-requires c = let w = (within (goal.at.version-version-requires c).After-slice_known-2-1).long in omega arith

pub explore-requires : goal.explore-requires
explore-requires c =
    let p = c.requires in
    record { few = p.0.few; room = omega (arith, p.0.wide); few_notes = p.1.few; room_notes = omega (arith, p.1.wide) }

pub returns : goal.returns
returns c =
    let a = c.args in
    let all = c.roots-roots in
    let r : Roots a.plan.now (procedures a.plan.now) all.result =
    λ i q. all.ensures i (omega (arith, c.procedures-procedures.ensures)) in
    let m = c.volatiles-mask.ensures in
    let v = c.version-version.ensures in
    let e = c.explore in
    explored_by a.plan.now a.words.now all.result a.picks.now a.log.now a.notes.now _ _ c.requires.0 c.requires.1 r e.result
    a.every _ _ m v e.ensures
