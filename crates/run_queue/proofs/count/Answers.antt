use mathlib.Core.Path.{sym, ◌∙◌}
use native.Mathlib.Omega.{arith}
use lib.ListN.{drop_of_length-le}
use Rattle.run_queue.specs.Inner.Queue.{count_of}
use Rattle.run_queue.proofs.Places.{count_next}
use borrow.Author.Rules.{rules}
use Rattle.run_queue.proofs.count.Goals as goal
use Rattle.run_queue.proofs.count.Goals.{then-queued, else-queued}

pub loop-place-init : goal.loop-place-init
loop-place-init c = (omega arith, omega arith)

pub loop-place-preserved : goal.loop-place-preserved
loop-place-preserved c =
    let e = count_next c.args.object c.args.places.now c.loop-place.place-index (omega arith) in
    let test = c.queued.ensures in
    elim c.if-queued.branch [
      | then-queued w ↦ (omega arith, let q = rw (sym test ∙ w.if-queued.true) at e in omega arith)
      | else-queued w ↦ (omega arith, let q = rw (sym test ∙ w.if-queued.false) at e in omega arith)
    ]

pub returns : goal.returns
unfolding count_of
returns c =
    let q = rw (drop_of_length-le c.args.places.now {i = c.loop-place.place-index} (omega arith)) at c.loop-place.invariant.1 in (omega arith, omega arith)
