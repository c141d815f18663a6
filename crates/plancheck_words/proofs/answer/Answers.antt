-- `answer` meets its contract. Assumes nothing.
use native.Mathlib.Omega.{arith}
use mathlib.Core.Path.{◌≡◌, refl, sym, ◌∙◌}
use Rattle.text_answer_lines.proofs.Settling.{within}
use Rattle.plancheck_words.proofs.Telling.{given_text, given_packed, of_given, plan_told}
use borrow.Author.Rules.{rules}
use Rattle.plancheck_words.proofs.answer.Goals as goal

pub returns-then-area-lt574501 : goal.returns-then-area-lt574501
returns-then-area-lt574501 c = record { answered = record { long = λ q. absurd (omega arith); short = λ q. (refl, refl) }; within = (omega arith, refl) }

pub returns-then-is_text : goal.returns-then-is_text
returns-then-is_text c =
    let read-text = c.read_text in
    let if2 = c.if-is_text in
    let is-text = c.is_text in
    let if1 = c.if-area-lt574501 in
    let a = c.args in
    let e = given_text a.plan.now (sym is-text.ensures ∙ if2.true) in record { answered = record { long = λ q. of_given e read-text.ensures; short = λ q. absurd (omega (arith, if1.false)) }; within = within read-text.ensures }

pub returns : goal.returns
returns c =
    let packed-text = c.packed_text in
    let if2 = c.if-is_text in
    let is-text = c.is_text in
    let if1 = c.if-area-lt574501 in
    let a = c.args in
    let e = given_packed a.plan.now (sym is-text.ensures ∙ if2.false) in record { answered = record { long = λ q. plan_told e packed-text.ensures; short = λ q. absurd (omega (arith, if1.false)) }; within = within packed-text.ensures }
