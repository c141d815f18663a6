-- `canonical_text` meets its contract: an area that is long enough for every text. Assumes nothing.
use Rattle.text_plan_words.proofs.Areas.{write_told}
use borrow.Author.Rules.{rules}
use Rattle.text_plan_words.proofs.canonical_text.Goals as goal

pub returns : goal.returns
returns c =
    let settle = c.settle in
    let canonical = c.canonical-answered in
    let a = c.args in
    let given = c.requires in
    write_told a.plan.now a.area.now given _ _ _ _ canonical.ensures.answer canonical.ensures.area settle.ensures
