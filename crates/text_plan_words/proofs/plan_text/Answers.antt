-- `plan_text` meets its contract.
use native.Mathlib.Omega.{arith}
use Rattle.text.proofs.Added.{added_as}
use Rattle.text_answer_lines.proofs.Answers.{check_refused, check_passed, check_none}
use Rattle.text_plan_words.specs.Texts.{plan_text}
use Rattle.text_plan_words.proofs.Areas.{plan_few}
use Rattle.text_plan_words.proofs.plan_text.Goals as goal

pub put_word-requires : goal.put_word-requires
put_word-requires c = omega (arith, plan_few _ (check_none c.args.plan.now _ c.check.result c.check.ensures c.in-Ok.is))

pub returns-in-Err : goal.returns-in-Err
unfolding plan_text
returns-in-Err c = added_as (check_refused c.args.plan.now _ c.check.result c.check.ensures _ c.in-Err.is) c.put_refusal.ensures

pub returns-in-Ok : goal.returns-in-Ok
unfolding plan_text
returns-in-Ok c = added_as (check_passed c.args.plan.now _ c.check.result c.check.ensures c.in-Ok.is) c.put_word.ensures
