use native.Mathlib.Numerals.{add-one}
use native.Mathlib.Omega.{arith}
use mathlib.Core.Path.{◌≡◌, ap}
use Rattle.text.proofs.Added.{added_as}
use Rattle.text_diagram_elements.specs.Diagram.{lane_texts}
use Rattle.text_diagram_elements.proofs.Together.{drawn_none, drawn_more}
use Rattle.text_diagram.proofs.lanes.put_lanes.Goals as goal

pub loop-thread-init : goal.loop-thread-init
unfolding lane_texts
loop-thread-init c = (omega arith, drawn_none _ _ _)

pub put_lane-next-requires : goal.put_lane-next-requires
put_lane-next-requires c = (
  omega arith,
  omega arith,
  omega (arith, c.loop-thread.invariant.1.short, c.loop-thread.invariant.1.wrote.kept, c.requires.2),
)

pub loop-thread-preserved : goal.loop-thread-preserved
unfolding lane_texts
loop-thread-preserved c = (
  omega arith,
  rw add-one (drawn_more c.loop-thread.invariant.1 c.put_lane-next.ensures (omega arith)),
)

pub shape_of-area : goal.shape_of-area
shape_of-area c = c.loop-thread.invariant.1.wrote.kept

pub returns : goal.returns
returns c =
    let l = c.loop-thread in
    let e : l.thread ≡ c.args.lanes = omega arith in
    record { wrote = added_as (ap (lane_texts c.args.records) e) l.invariant.1.wrote; short = omega (arith, l.invariant.1.short) }
