-- `wanted` meets its contract. Assumes nothing.
use mathlib.Core.Path.{sym, ◌∙◌}
use Rattle.run_refocusing_step.proofs.Others.{wanted_other}
use borrow.Author.Rules.{rules}
use borrow.Enum.Refused.{opened}
use Rattle.run_refocusing_step.proofs.wanted.Goals as goal

pub returns-in-Want : goal.returns-in-Want
returns-in-Want c = simp (c.want.ensures, c.in-Want.is)

pub returns-in-WantCondition : goal.returns-in-WantCondition
returns-in-WantCondition c = simp (c.want_condition.ensures, c.in-WantCondition.is)

pub returns-in_default : goal.returns-in_default
returns-in_default c =
    let a = c.args in
    c.stay.ensures ∙ sym (wanted_other a.go.stage a.words.now a.go a.depth (opened c.in_default.in_default-own.keys3))
