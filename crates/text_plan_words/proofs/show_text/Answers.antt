-- `show_text` meets its contract: an area that is long enough for every text. Assumes nothing.
use Rattle.text_plan_words.proofs.Areas.{show_told}
use borrow.Author.Rules.{rules}
use Rattle.text_plan_words.proofs.show_text.Goals as goal

pub returns : goal.returns
returns c =
    let settle = c.settle in
    let show = c.show-answered in
    let a = c.args in
    let given = c.requires in
    show_told a.plan.now a.area.now given _ _ _ _ show.ensures.answer show.ensures.area settle.ensures
