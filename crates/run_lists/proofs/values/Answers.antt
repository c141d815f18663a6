use mathlib.Core.Path.{◌≡◌, ◌∙◌}
use Prim.Native.Nat.{◌<◌, ◌%◌}
use native.Mathlib.Omega.{arith}
use Rattle.run_lists.specs.Inner.Lists.{value_in, values_of}
use Rattle.run_lists.proofs.Digits.{value_below, value_shl, value_lt, value_fits, value_more}
use Rattle.run_lists.proofs.values.Goals as goal

pub loop-place-init : goal.loop-place-init
loop-place-init c = (omega arith, omega arith)

pub overflow_add-values : goal.overflow_add-values
unfolding value_in
overflow_add-values c =
    let h = value_below c.args.environment (c.loop-place.codes % 64) in
    let t : c.loop-place.place < 8 = omega arith in
    record { fits = rw (value_shl _ c.loop-place.place h t) (omega (arith, value_fits c.loop-place.values _ c.loop-place.place c.loop-place.invariant.0 h t)) }

pub loop-place-preserved : goal.loop-place-preserved
unfolding value_in
loop-place-preserved c =
    let l = c.loop-place in
    let e = c.args.environment in
    let h = value_below e (l.codes % 64) in
    let t : l.place < 8 = omega arith in
    rw (value_shl _ l.place h t) (
      value_lt l.values _ l.place l.invariant.0 h,
      value_more l.values l.place e l.codes t ∙ l.invariant.1,
    )

pub returns : goal.returns
unfolding values_of
returns c =
    let l = c.loop-place in
    let e : l.place ≡ 8 = omega arith in
    let q = rw e at l.invariant.1 in omega (arith, q)
