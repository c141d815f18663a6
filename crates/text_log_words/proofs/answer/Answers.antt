-- `answer` meets its contract. Assumes nothing.
use native.Mathlib.Omega.{arith}
use mathlib.Core.Path.{refl}
use Rattle.text_answer_lines.proofs.Settling.{within}
use Rattle.text_log_words.proofs.Telling.{of_judge, of_diagram}
use borrow.Author.Rules.{rules}
use Rattle.text_log_words.proofs.answer.Goals as goal

pub returns-then-area-lt2680576 : goal.returns-then-area-lt2680576
returns-then-area-lt2680576 c = record { answered = record { long = λ q. absurd (omega arith); short = λ q. (refl, refl) }; within = (omega arith, refl) }

pub returns-in-Judge : goal.returns-in-Judge
returns-in-Judge c =
    let if1 = c.if-area-lt2680576 in
    let t = of_judge c.in-Judge.is c.judge_text.ensures in record { answered = record { long = λ q. t; short = λ q. absurd (omega (arith, if1.false)) }; within = within t }

pub returns-in-Diagram : goal.returns-in-Diagram
returns-in-Diagram c =
    let if1 = c.if-area-lt2680576 in
    let t = of_diagram c.in-Diagram.is c.diagram_text.ensures in record { answered = record { long = λ q. t; short = λ q. absurd (omega (arith, if1.false)) }; within = within t }
