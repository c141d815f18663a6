-- `diagram_text` meets its contract. Assumes nothing.
use Rattle.text_log_words.proofs.Telling.{picture_told}
use borrow.Author.Rules.{rules}
use Rattle.text_log_words.proofs.diagram_text.Goals as goal

pub returns : goal.returns
returns c =
    let settle = c.settle in
    let diagram = c.diagram-answered in
    let a = c.args in
    let given = c.requires in
    picture_told a.version a.log.now a.area.now given _ _ _ _ diagram.auto.area diagram.ensures settle.ensures
