use mathlib.Core.Path.{refl, sym, ◌∙◌}
use native.Mathlib.Omega.{arith}
use Rattle.run_queue.specs.Inner.Queue.{nearer, notified_of}
use Rattle.run_queue.proofs.Places.{changed_from, changed_next, changed_all}
use borrow.Author.Rules.{rules}
use Rattle.run_queue.proofs.notify.Goals as goal

pub loop-place-init : goal.loop-place-init
unfolding changed_from notified_of
loop-place-init c = refl

pub loop-place-preserved : goal.loop-place-preserved
loop-place-preserved c =
    let l = c.loop-place in
    let r = changed_next (nearer c.args.object) l.place-index l.places (omega arith) in rw c.nearer.ensures r ∙ l.invariant

pub returns : goal.returns
returns c = let l = c.loop-place in sym (changed_all (nearer c.args.object) l.place-index l.places (omega arith)) ∙ l.invariant
