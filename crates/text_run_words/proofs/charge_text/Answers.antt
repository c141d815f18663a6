-- `charge_text` meets its contract. Assumes nothing.
use mathlib.Core.Bool.{false}
use mathlib.Core.Path.{ap, ◌∙◌}
use Rattle.text.proofs.Added.{added_as}
use Rattle.answers.specs.Answer.{Answer, answered}
use Rattle.charge.specs.Charge.{charged}
use Rattle.text_run_words.specs.Texts.{charge_lines, charge_text}
use borrow.Author.Rules.{rules}
use Rattle.text_run_words.proofs.charge_text.Goals as goal

pub returns : goal.returns
unfolding charge_text
returns c =
    let put-charges = c.put_charges in
    let charge2 = c.charge-option in
    let charge = c.charge-plain in
    let a = c.args in
    let e = ap (λ (x : Answer). charge_lines x (answered charge2.result)) charge.ensures.answer in
    added_as (e ∙ ap (charge_lines (charged a.plan.now a.schedule.now false)) charge2.ensures.answer) put-charges.ensures
