-- `check_text` meets its contract.
use Rattle.text.specs.Text.{ascii}
use Rattle.text.proofs.Added.{added_as}
use Rattle.text_answer_lines.proofs.Answers.{check_refused, check_passed}
use Rattle.text_plan_words.specs.Texts.{check_text}
use Rattle.text_plan_words.proofs.check_text.Goals as goal

pub returns-in-Err : goal.returns-in-Err
unfolding check_text
returns-in-Err c = added_as (check_refused _ _ c.check.result c.check.ensures _ c.in-Err.is) c.put_refusal.ensures

pub returns-in-Ok : goal.returns-in-Ok
unfolding check_text ascii
returns-in-Ok c = added_as (check_passed _ _ c.check.result c.check.ensures c.in-Ok.is) c.put_word.ensures
