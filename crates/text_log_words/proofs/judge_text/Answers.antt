-- `judge_text` meets its contract. Assumes nothing.
use Rattle.text_log_words.proofs.Telling.{judge_told}
use borrow.Author.Rules.{rules}
use Rattle.text_log_words.proofs.judge_text.Goals as goal

pub returns : goal.returns
returns c =
    let settle = c.settle in
    let judge-text = c.judge_text-answered in
    let a = c.args in
    let given = c.requires in
    judge_told a.version a.log.now a.area.now given _ _ _ _ judge-text.auto.area judge-text.ensures settle.ensures
