-- `states_text` meets its contract. Assumes nothing.
use Rattle.text_run_words.proofs.Runs.{states_told}
use borrow.Author.Rules.{rules}
use Rattle.text_run_words.proofs.told.states_text.Goals as goal

pub returns : goal.returns
returns c =
    let settle = c.settle in
    let states-text = c.states_text-answered in
    let a = c.args in
    let given = c.requires in
    states_told a.plan.now a.schedule.now a.area.now given _ _ _ _ states-text.auto.area states-text.ensures settle.ensures
