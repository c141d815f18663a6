-- `preview_text` meets its contract. Assumes nothing.
use Rattle.text_run_words.proofs.Runs.{preview_told}
use borrow.Author.Rules.{rules}
use Rattle.text_run_words.proofs.told.preview_text.Goals as goal

pub returns : goal.returns
returns c =
    let settle = c.settle in
    let preview-text = c.preview_text-answered in
    let a = c.args in
    let given = c.requires in
    let told = preview_told a.plan.now a.schedule.now a.pick a.area.now given in
    told _ _ _ _ preview-text.auto.area preview-text.ensures settle.ensures
