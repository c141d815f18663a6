-- `text_diagram::links::put_between` meets its contract. Assumes nothing.
use Rattle.text_diagram_elements.proofs.Together.{drawn_as}
use Rattle.text_diagram_elements.proofs.NextRecord.{between_is}
use Rattle.text_diagram_links.proofs.put_between.Goals as goal

pub returns : goal.returns
returns c =
    let a = c.args in
    let p = c.requires.0 in
    let r = c.columns_at-start in
    let s = c.columns_at-end in
    drawn_as (between_is a.class.now a.log.now a.first a.second r.result s.result p.first_inside p.second_inside r.ensures
    s.ensures)
    c.put_segment.ensures
