-- `play_text` meets its contract. Assumes nothing.
use Rattle.text_run_words.proofs.Runs.{play_told}
use borrow.Author.Rules.{rules}
use Rattle.text_run_words.proofs.told.play_text.Goals as goal

pub returns : goal.returns
returns c =
    let settle = c.settle in
    let play-text = c.play_text-answered in
    let a = c.args in
    let given = c.requires in
    play_told a.plan.now a.schedule.now a.area.now given _ _ _ _ play-text.auto.area play-text.ensures settle.ensures
