-- `put_charges` meets its contract. Assumes nothing.
use Prim.Native.Nat.{ℕ}
use native.Mathlib.Omega.{arith}
use mathlib.Core.Path.{refl, ◌∙◌}
use Rattle.text.proofs.Added.{added_as}
use Rattle.answers.specs.Answer.{answered}
use Rattle.text_answer_lines.specs.Texts.{answer_text}
use Rattle.text_run_words.specs.Texts.{cents_lines, charge_lines}
use Rattle.text_answer_lines.proofs.Answers.{refused_text, value_text}
use borrow.Author.Rules.{rules}
use Rattle.text_run_words.proofs.put_charges.Goals as goal

pub returns-in-Err : goal.returns-in-Err
unfolding charge_lines
returns-in-Err c =
    let lines = c.put_refusal in
    let a = c.args in
    let k = c.in-Err in
    added_as (refused_text _ a.plain _ refl _ k.is) lines.ensures

pub returns-in-Err-option : goal.returns-in-Err-option
unfolding charge_lines
returns-in-Err-option c =
    let lines = c.put_refusal-in-Err-option in
    let a = c.args in
    let k = c.in-Err-option in
    let j = c.in-Ok in
    let e = refused_text (λ m. cents_lines j.cents m) a.option _ refl _ k.is in
    let f = value_text (λ n. answer_text (λ m. cents_lines n m) (answered a.option)) a.plain _ refl j.cents j.is in
    added_as (e ∙ f) lines.ensures

pub returns-in-Ok-option : goal.returns-in-Ok-option
unfolding charge_lines
returns-in-Ok-option c =
    let put-cents = c.put_cents in
    let a = c.args in
    let k = c.in-Ok-option in
    let j = c.in-Ok in
    let e = value_text (λ m. cents_lines j.cents m) a.option _ refl k.more k.is in
    let f = value_text (λ n. answer_text (λ m. cents_lines n m) (answered a.option)) a.plain _ refl j.cents j.is in
    added_as (e ∙ f) put-cents.ensures
