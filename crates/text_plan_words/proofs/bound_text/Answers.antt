-- `bound_text` meets its contract.
use Rattle.text.proofs.Added.{added_as}
use Rattle.text_plan_words.specs.Texts.{bound_line, bound_text}
use Rattle.text_answer_lines.proofs.Answers.{refused_text, value_text}
use Rattle.text_plan_words.proofs.bound_text.Goals as goal

pub returns-in-Err : goal.returns-in-Err
unfolding bound_text
returns-in-Err c = added_as (refused_text bound_line c.bound.result _ c.bound.ensures.answer _ c.in-Err.is) c.put_refusal.ensures

pub returns-in-Ok : goal.returns-in-Ok
unfolding bound_text
returns-in-Ok c = added_as (value_text bound_line c.bound.result _ c.bound.ensures.answer _ c.in-Ok.is) c.put_bound.ensures
