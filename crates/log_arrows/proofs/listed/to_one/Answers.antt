use Rattle.log_arrows.specs.Inner.Implied.{heard_in, is_needed}
use Rattle.log_arrows.proofs.Adding.{added_start, needed_some, added_room, added_needed, added_skipped, added_eight}
use lib.ListN.{length, length-set}
use native.Mathlib.Omega.{arith}
use mathlib.Core.Path.{◌≡◌, refl, sym, ap, ◌∙◌}
use mathlib.Core.Bool.{true}
use Prim.Native.Nat.{◌+◌, ◌<◌}
use Rattle.log_arrows.proofs.listed.to_one.Goals as goal
use Rattle.log_arrows.proofs.listed.to_one.Goals.{Then-needed, then-needed, else-needed}

is_needed_lem : (c : Then-needed) → is_needed (heard_in c.args.rows.now) c.args.own c.args.index c.loop-thread.thread ≡ true
is_needed_lem c = sym c.needed.ensures ∙ c.if-needed.true

some_record : (c : Then-needed) → 0 < heard_in c.args.rows.now c.args.index c.loop-thread.thread
some_record c = needed_some _ _ _ _ (is_needed_lem c)

room : (c : Then-needed) → c.loop-thread.held < c.args.count + 7
room c = added_room _ _ _ _ _ _ _ _ _ _ c.loop-thread.invariant.2 (is_needed_lem c) c.requires.own_in (omega arith)

pub loop-thread-init : goal.loop-thread-init
loop-thread-init c = (
  refl,
  refl,
  added_start (heard_in c.args.rows.now) c.args.own c.args.index c.args.count c.args.from.now
      c.args.to.now,
)

pub needed-requires : goal.needed-requires
needed-requires c = record { earlier = c.requires.earlier; thread_in = omega arith }

pub overflow_sub-from : goal.overflow_sub-from
overflow_sub-from c = omega (arith, some_record c)

pub offset_bounds-from-held : goal.offset_bounds-from-held
offset_bounds-from-held c = omega (arith, room c, c.requires.room)

pub bounds-from-held : goal.bounds-from-held
bounds-from-held c = omega (arith, room c, c.requires.room)

pub overflow_cast-to : goal.overflow_cast-to
overflow_cast-to c = omega (arith, c.requires.index_in)

pub offset_bounds-to-held : goal.offset_bounds-to-held
offset_bounds-to-held c = omega (arith, room c, c.requires.room)

pub bounds-to-held : goal.bounds-to-held
bounds-to-held c = omega (arith, room c, c.requires.room)

pub overflow_add-held : goal.overflow_add-held
overflow_add-held c = omega (arith, room c, c.requires.room)

pub loop-thread-preserved : goal.loop-thread-preserved
loop-thread-preserved c =
    let l = c.loop-thread in
    elim c.if-needed.branch [
      | then-needed w ↦
          let k : is_needed (heard_in c.args.rows.now) c.args.own c.args.index l.thread ≡ true = sym c.needed.ensures ∙ w.if-needed.true in
          let m : l.held < c.args.count + 7 = added_room _ _ _ _ _ _ _ _ _ _ l.invariant.2 k c.requires.own_in (omega arith) in
          let f = c.requires.room.from_room in
          let g = c.requires.room.to_room in (
            ap length w.from-is ∙ length-set l.from l.held _ ∙ l.invariant.0,
            ap length w.to-is ∙ length-set l.to l.held _ ∙ l.invariant.1,
            rw (w.from-is, w.to-is, w.held-is) (added_needed _ _ _ _ _ _ _ _ _ _ l.invariant.2 k (omega (arith, m, f, l.invariant.0)) (omega (arith, m, g, l.invariant.1))),
          )
      | else-needed w ↦ (
        ap length w.from-is ∙ l.invariant.0,
        ap length w.to-is ∙ l.invariant.1,
        rw (w.from-is, w.to-is, w.held-is) (added_skipped _ _ _ _ _ _ _ _ _ _ l.invariant.2 (sym c.needed.ensures ∙ w.if-needed.false)),
      )
    ]

pub returns : goal.returns
returns c = added_eight _ _ _ _ _ _ _ _ _ _ (omega arith) c.loop-thread.invariant.2
