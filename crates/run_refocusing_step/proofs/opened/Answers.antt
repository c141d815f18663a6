-- `opened` meets its contract. Assumes nothing.
use mathlib.Core.Path.{sym}
use Rattle.run_refocusing_step.proofs.Others.{opened_other}
use borrow.Author.Rules.{rules}
use borrow.Enum.Refused.{opened}
use Rattle.run_refocusing_step.proofs.opened.Goals as goal

pub returns-in-Run : goal.returns-in-Run
returns-in-Run c = simp (c.open_expression.ensures, c.word.ensures, c.in-Run.is)

pub returns-in-RunCondition : goal.returns-in-RunCondition
returns-in-RunCondition c = simp (c.open_condition.ensures, c.word-in-RunCondition.ensures, c.in-RunCondition.is)

pub returns-in_default : goal.returns-in_default
returns-in_default c = let a = c.args in sym (opened_other a.go.stage a.words.now a.go (opened c.in_default.in_default-own.keys3))
