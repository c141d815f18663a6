use mathlib.Core.Path.{◌≡◌}
use native.Mathlib.Omega.{arith}
use native.Mathlib.Numerals.{add-one}
use Rattle.plan_packed.proofs.Reading.{procedures_lt}
use Rattle.plan_packed.proofs.Shown.{root_below}
use Rattle.plan_packed.proofs.SortLaws.{no_root, one_root}
use Rattle.plan_packed.proofs.NameLaws.{no_names, root_step}
use Rattle.plan_packed.proofs.RowLaws.{tagged}
use Rattle.plan_naming.proofs.name_roots.Goals as goal

pub loop-procedure-init : goal.loop-procedure-init
loop-procedure-init c = (no_root c.args.plan.now _, rw c.requires.times_value (no_names c.args.plan.now))

pub root-root-requires : goal.root-root-requires
root-root-requires c =
    let z = c.requires.right.headed.sized in
    (omega (arith, z, procedures_lt c.args.plan.now), omega (arith, z))

pub name-best-requires : goal.name-best-requires
name-best-requires c =
    let a = c.args in
    let z = c.requires.right.headed in
    let f = z.few in record {
      index_bound = omega (
        arith,
        c.root-root.ensures,
        root_below a.plan.now a.procedures a.count c.loop-procedure.procedure z
            c.loop-procedure-test.true,
      );
      rows_value = c.requires.rows_value;
      tagged = tagged a.plan.now a.procedures a.count a.words.now c.requires.right c.requires.loaded;
    }

pub loop-procedure-preserved : goal.loop-procedure-preserved
loop-procedure-preserved c =
    let a = c.args in
    let b = a.plan.now in
    let z = c.requires in
    let f = z.right.headed.few in
    let l = c.loop-procedure in
    let h = root_below b a.procedures a.count l.procedure z.right.headed c.loop-procedure-test.true in
    let e = c.root-root.ensures in (
      rw add-one
          (one_root b l.procedure a.count a.words.now l.best c.root-root.result _ z.loaded e h c.name-best.ensures.value l.invariant.0),
      rw add-one (root_step b l.procedure c.root-root.result l.times _ e (omega (arith, h)) c.name-best.ensures.times_after l.invariant.1),
    )

pub returns : goal.returns
returns c =
    let a = c.args in
    let l = c.loop-procedure in
    let e : l.procedure ≡ a.procedures = omega arith in record { lowest = rw e at l.invariant.0; counted = rw e at l.invariant.1 }
