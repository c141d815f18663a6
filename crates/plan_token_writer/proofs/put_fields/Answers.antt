use native.Mathlib.Omega.{arith}
use mathlib.Core.Path.{◌≡◌, sym}
use Rattle.text.proofs.Added.{added_none, added_more, added_as}
use Rattle.plan_token_writer.proofs.Fields.{one_field, fields_within, no_field}
use Rattle.plan_token_writer.proofs.put_fields.Goals as goal

pub loop-field-init : goal.loop-field-init
loop-field-init c = (omega arith, c.requires.0, added_as (sym (no_field _ _)) (added_none _ _))

pub put_field-next-requires : goal.put_field-next-requires
put_field-next-requires c =
    let l = c.loop-field in
    let h = c.loop-field-test.true in
    (h, omega (arith, c.requires.1, l.invariant.2.next, l.invariant.2.kept, fields_within c.args.mask c.args.first l.field l.invariant.0 h))

pub loop-field-preserved : goal.loop-field-preserved
loop-field-preserved c =
    let l = c.loop-field in
    (omega (arith, l.invariant.0), omega arith, added_as (one_field _ _ _ l.invariant.0) (added_more l.invariant.2 c.put_field-next.ensures))

pub returns : goal.returns
returns c =
    let l = c.loop-field in
    let e : l.field ≡ 32 = omega (arith, l.invariant.1) in
    rw e at l.invariant.2
