use Rattle.format.specs.Version.{version_of}
use Rattle.log_arrows.specs.Inner.Newest.{HeardRows}
use Rattle.log_arrows.proofs.Going.{going_start, Here, short, source_below, target_below, next_by}
use Rattle.log_records.specs.Packed.{log_of}
use lib.ListN.{length-set}
use native.Mathlib.Omega.{arith}
use mathlib.Core.Path.{refl, subst, ◌∙◌}
use Prim.Native.Nat.{ℕ}
use Rattle.log_arrows.proofs.heard.rows.Goals as goal
use Rattle.log_arrows.proofs.heard.rows.Goals.{After-columns_at-columns}

here : (p : After-columns_at-columns) → Here p.args.version p.args.log.now p.loop-index.index p.loop-index.links p.loop-index.heard
    p.columns_at-columns.result
here p =
    record {
      accepted_log = p.requires.accepted;
      below = omega arith;
      read = p.columns_at-columns.ensures;
      room = omega (arith, p.requires.sized);
      going = p.loop-index.invariant.1;
    }

pub loop-index-init : goal.loop-index-init
loop-index-init c = (refl, going_start (version_of c.args.version) c.args.log.now c.args.heard.now)

pub source-from-requires : goal.source-from-requires
source-from-requires c = c.columns_at-columns.ensures.narrow

pub target-to-requires : goal.target-to-requires
target-to-requires c = c.columns_at-columns.ensures.narrow

pub offset_bounds-links-thread : goal.offset_bounds-links-thread
offset_bounds-links-thread c = omega (arith, c.columns_at-columns.ensures.narrow.thread_below)

pub bounds-links-thread : goal.bounds-links-thread
bounds-links-thread c = omega (arith, c.columns_at-columns.ensures.narrow.thread_below)

pub offset_bounds-links-from : goal.offset_bounds-links-from
offset_bounds-links-from c = omega (arith, source_below (here (goal.at.offset_bounds-links-from c).After-columns_at-columns) c.source-from.result c.source-from.ensures)

pub bounds-links-from : goal.bounds-links-from
bounds-links-from c =
    omega (arith, source_below (here (goal.at.bounds-links-from c).After-columns_at-columns) c.source-from.result c.source-from.ensures)

pub offset_bounds-links-to : goal.offset_bounds-links-to
offset_bounds-links-to c = omega (
  arith,
  target_below (here (goal.at.offset_bounds-links-to c).After-columns_at-columns) c.target-to.result
      c.target-to.ensures,
)

pub bounds-links-to : goal.bounds-links-to
bounds-links-to c =
    omega (
      arith,
      target_below (here (goal.at.bounds-links-to c).After-columns_at-columns) c.target-to.result
          c.target-to.ensures,
    )

pub overflow_cast-index : goal.overflow_cast-index
overflow_cast-index c = omega (arith, short (here (goal.at.overflow_cast-index c).After-columns_at-columns))

pub overflow_add-index : goal.overflow_add-index
overflow_add-index c = omega (arith, short (here (goal.at.overflow_add-index c).After-columns_at-columns))

pub marked-moved-requires : goal.marked-moved-requires
marked-moved-requires c = c.columns_at-columns.ensures.narrow.thread_below

pub offset_bounds-links-thread-in-loop-index : goal.offset_bounds-links-thread-in-loop-index
offset_bounds-links-thread-in-loop-index c = omega (arith, c.columns_at-columns.ensures.narrow.thread_below)

pub bounds-links-thread-in-loop-index : goal.bounds-links-thread-in-loop-index
bounds-links-thread-in-loop-index c = omega (arith, c.columns_at-columns.ensures.narrow.thread_below)

pub offset_bounds-links-to-in-loop-index : goal.offset_bounds-links-to-in-loop-index
offset_bounds-links-to-in-loop-index c = omega (
  arith,
  target_below (here (goal.at.offset_bounds-links-to-in-loop-index c).After-columns_at-columns)
      c.target-to.result c.target-to.ensures,
)

pub bounds-links-to-in-loop-index : goal.bounds-links-to-in-loop-index
bounds-links-to-in-loop-index c =
    omega (
      arith,
      target_below (here (goal.at.bounds-links-to-in-loop-index c).After-columns_at-columns)
          c.target-to.result c.target-to.ensures,
    )

pub offset_bounds-heard-index : goal.offset_bounds-heard-index
offset_bounds-heard-index c = omega (arith, short (here (goal.at.offset_bounds-heard-index c).After-columns_at-columns))

pub bounds-heard-index : goal.bounds-heard-index
bounds-heard-index c = (here (goal.at.bounds-heard-index c).After-columns_at-columns).room

pub loop-index-preserved : goal.loop-index-preserved
loop-index-preserved c =
    let l = c.loop-index in
    let known = c.raised-known in
    let marked = c.marked-moved in
    let from = c.source-from in
    let to = c.target-to in (
      length-set l.heard l.index known.result ∙ l.invariant.0,
      next_by (here (goal.at.loop-index-preserved c).After-columns_at-columns) from.result to.result known.result marked.result
          c.raised-told.result from.ensures to.ensures known.ensures
          marked.ensures c.raised-told.ensures,
    )

pub returns : goal.returns
returns c =
    subst (λ (n : ℕ). HeardRows (version_of c.args.version) (log_of c.args.log.now) n
    c.loop-index.heard) (omega arith) c.loop-index.invariant.1.done
