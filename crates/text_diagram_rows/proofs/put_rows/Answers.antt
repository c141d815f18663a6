use native.Mathlib.Numerals.{add-one}
use native.Mathlib.Omega.{arith}
use mathlib.Core.Path.{ap}
use mathlib.Core.List.{List}
use Rattle.log_records.specs.Record.{Record}
use Rattle.text.proofs.Added.{added_as}
use Rattle.text_diagram_elements.specs.Diagram.{row_texts, race_of}
use Rattle.text_diagram_elements.proofs.Together.{drawn_none, drawn_more, drawn_as}
use Rattle.text_diagram_elements.proofs.NextRecord.{all_taken, rows_next}
use Rattle.text_diagram_rows.proofs.put_rows.Goals as goal

pub loop-index-init : goal.loop-index-init
unfolding row_texts
loop-index-init c = (omega arith, drawn_none _ _ _)

pub put_row-next-requires : goal.put_row-next-requires
put_row-next-requires c = (
  omega arith,
  omega arith,
  c.columns_at-columns.ensures.narrow,
  omega (
    arith,
    c.loop-index.invariant.1.short,
    c.loop-index.invariant.1.wrote.kept,
    c.requires.2,
  ),
)

pub loop-index-preserved : goal.loop-index-preserved
loop-index-preserved c =
    let a = c.args in
    let r = c.columns_at-columns in
    let e = rows_next a.log.now c.loop-index.index
    c.loop-index-test.true a.lanes (race_of a.race) r.result r.ensures in (
      omega arith,
      rw add-one
          (drawn_as e (drawn_more c.loop-index.invariant.1 c.put_row-next.ensures (omega arith))),
    )

pub shape_of-area : goal.shape_of-area
shape_of-area c = c.loop-index.invariant.1.wrote.kept

pub returns : goal.returns
returns c =
    let a = c.args in
    let l = c.loop-index in
    let e = ap (λ (L : List Record). row_texts a.lanes (race_of a.race) 0 L) (all_taken a.log.now l.index (omega arith)) in
    record { wrote = added_as e l.invariant.1.wrote; short = omega (arith, l.invariant.1.short) }
