use mathlib.Core.Path.{◌≡◌}
use native.Mathlib.Omega.{arith}
use native.Mathlib.Numerals.{add-one}
use Rattle.plan_packed.specs.Inner.Steps.{note_all}
use Rattle.plan_packed.proofs.Reading.{procedures_lt}
use Rattle.plan_packed.proofs.Shown.{root_below}
use Rattle.plan_packed.proofs.NoteLaws.{no_notes, root_noted}
use Rattle.plan_naming.proofs.notes.name_roots.Goals as goal

pub loop-procedure-init : goal.loop-procedure-init
loop-procedure-init c = rw c.requires.notes_value (no_notes c.args.plan.now)

pub root-root-requires : goal.root-root-requires
root-root-requires c =
    let z = c.requires.headed.sized in
    (omega (arith, z, procedures_lt c.args.plan.now), omega (arith, z))

pub name-requires : goal.name-requires
name-requires c =
    let a = c.args in
    let f = c.requires.headed.few in
    omega (
      arith,
      c.root-root.ensures,
      root_below a.plan.now a.procedures a.count c.loop-procedure.procedure c.requires.headed
          c.loop-procedure-test.true,
    )

pub loop-procedure-preserved : goal.loop-procedure-preserved
unfolding note_all
loop-procedure-preserved c =
    let a = c.args in
    let b = a.plan.now in
    let f = c.requires.headed.few in
    let l = c.loop-procedure in
    let h = root_below b a.procedures a.count l.procedure c.requires.headed c.loop-procedure-test.true in
    rw add-one (root_noted b l.procedure c.root-root.result l.notes _ c.root-root.ensures (omega (arith, h)) c.name.ensures l.invariant)

pub returns : goal.returns
returns c =
    let a = c.args in
    let l = c.loop-procedure in
    let e : l.procedure ≡ a.procedures = omega arith in
    rw e at l.invariant
