-- `listed` meets its contract. Assumes nothing.
use mathlib.Core.Path.{sym}
use Rattle.run_refocusing_step.specs.Inner.Ahead.{ahead_of}
use Rattle.run_refocusing_step.proofs.Others.{ahead_other, into_other}
use borrow.Author.Rules.{rules}
use borrow.Enum.Refused.{opened}
use Rattle.run_refocusing_step.proofs.listed.Goals as goal

pub returns-in-List : goal.returns-in-List
returns-in-List c = (simp (c.called.ensures.0, c.in-List.is), c.called.ensures.1)

pub returns-in_default : goal.returns-in_default
returns-in_default c =
    let a = c.args in
    let h = ahead_other a.go.stage a.left a.words.now a.go (opened c.in_default.in_default-own.keys2) in
    let i = into_other a.go.stage a.words.now a.roots.now a.go (ahead_of a.left a.words.now a.go).frame (opened c.in_default.in_default-own.keys2) in
    (sym (rw (i, h)), c.requires.1)
