use Rattle.log_arrows.specs.Inner.Implied.{heard_in, thread_at, arrows_below}
use Rattle.log_arrows.proofs.Adding.{below_start, below_more}
use lib.ListN.{length}
use native.Mathlib.Omega.{arith}
use mathlib.Core.Path.{◌≡◌, refl, ap, ◌∙◌}
use Prim.Native.Nat.{◌/◌}
use Rattle.log_arrows.proofs.listed.all.Goals as goal

pub loop-index-init : goal.loop-index-init
loop-index-init c = (refl, refl, omega arith, below_start (heard_in c.args.rows.now) (thread_at c.args.log.now) c.args.from.now c.args.to.now)

pub to_one-held-requires : goal.to_one-held-requires
to_one-held-requires c =
    let l = c.loop-index in
    let room = c.requires.room in record { earlier = c.requires.earlier l.index c.loop-index-test.true; index_in = omega (arith, c.requires.short); own_in = c.columns_at-columns.ensures.narrow.thread_below; room = record { from_room = omega (arith, room.from_room); to_room = omega (arith, room.to_room) } }

pub loop-index-preserved : goal.loop-index-preserved
loop-index-preserved c =
    let l = c.loop-index in
    let columns = c.columns_at-columns in
    let one = c.to_one-held in (
      one.auto.from ∙ l.invariant.0,
      one.auto.to ∙ l.invariant.1,
      omega (arith, l.invariant.2, one.ensures.one_less columns.ensures.narrow.thread_below),
      below_more (heard_in c.args.rows.now) (thread_at c.args.log.now) l.index columns.result.thread l.held l.from l.to
          one.result _ _
          columns.ensures.thread_is l.invariant.3 one.ensures,
    )

pub returns : goal.returns
returns c =
    let l = c.loop-index in
    let whole : l.index ≡ length c.args.log.now / 3 = omega arith in record { few = omega (arith, l.invariant.2); arrows = l.invariant.3 ∙ ap (arrows_below (heard_in c.args.rows.now) (thread_at c.args.log.now)) whole }
