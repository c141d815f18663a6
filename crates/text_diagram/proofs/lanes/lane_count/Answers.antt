use native.Mathlib.Numerals.{add-one}
use native.Mathlib.Omega.{arith}
use mathlib.Core.Path.{refl, ap, ◌∙◌}
use mathlib.Core.Logic.{⊎_elim}
use Rattle.text_diagram_elements.specs.Diagram.{lane_count}
use Rattle.text_diagram_elements.proofs.NextRecord.{all_taken, lanes_next}
use Rattle.text_diagram.proofs.lanes.lane_count.Goals as goal

pub loop-index-init : goal.loop-index-init
unfolding lane_count
loop-index-init c = (omega arith, refl, omega arith)

pub loop-index-preserved : goal.loop-index-preserved
loop-index-preserved c =
    let b = c.args.log.now in
    let i = c.loop-index.index in
    let r = c.columns_at-columns.ensures in
    let e = lanes_next b i c.loop-index-test.true in (
      omega arith,
      rw add-one (⊎_elim (λ w. omega (arith, e, r.thread_is)) (λ w. omega (arith, e, r.thread_is)) c.if-lanes-columns.branch-raw),
      ⊎_elim (λ w. omega (arith, r.narrow.thread_below)) (λ w. omega arith) c.if-lanes-columns.branch-raw,
    )

pub returns : goal.returns
returns c =
    let l = c.loop-index in
    (l.invariant.1 ∙ ap lane_count (all_taken c.args.log.now l.index (omega arith)), l.invariant.2)
