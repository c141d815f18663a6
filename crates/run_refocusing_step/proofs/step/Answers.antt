-- `step` meets its contract. Assumes nothing.
use mathlib.Core.Path.{◌≡◌, refl, ap}
use Rattle.run_refocusing_step.proofs.Others.{step_other}
use Rattle.run_refocusing_step.proofs.Along.{along_step}
use Rattle.run_refocusing_step.specs.declared.Turn.{Turn}
use Rattle.run_refocusing_step.specs.Inner.Ahead.{ahead_of}
use Rattle.run_refocusing_step.specs.Inner.Down.{frame_at, top_of, opened_of, down_of, step_of}
use borrow.Author.Rules.{rules}
use borrow.Enum.Refused.{opened}
use Rattle.run_refocusing_step.proofs.step.Goals as goal

pub frame_at-requires : goal.frame_at-requires
frame_at-requires c = c.top.ensures.1

pub frame_at-requires-in-Truth : goal.frame_at-requires-in-Truth
frame_at-requires-in-Truth c = c.top-in-Truth.ensures.1

pub returns-in-Value : goal.returns-in-Value
unfolding step_of
returns-in-Value c = record { value = simp (c.back-turn.ensures, c.frame_at.ensures, c.top.ensures.0, c.in-Value.is); right = c.requires.3 }

pub returns-in-Truth : goal.returns-in-Truth
unfolding step_of
returns-in-Truth c = record { value = simp (c.back_condition-turn.ensures, c.frame_at-in-Truth.ensures, c.top-in-Truth.ensures.0, c.in-Truth.is); right = c.requires.3 }

pub returns-in_default : goal.returns-in_default
unfolding step_of
returns-in_default c =
    let a = c.args in
    let ws = a.words.now in
    let o = opened_of ws a.go in
    let x = frame_at a.stack.now (top_of a.base a.depth) in
    let h : step_of ws a.roots.now a.go a.depth x ≡ down_of ws a.roots.now a.go a.depth =
    step_other a.go.stage ws a.roots.now a.go a.depth x (opened c.in_default.in_default-own.keys3) in record {
      value = simp (c.wanted-turn.ensures, c.listed-listed.ensures.0, c.opened-opened.ensures)
          (ap (λ (t : Turn). record { left = (ahead_of a.left ws o).left; turn = t })
          (along_step ws a.roots.now a.go o (ahead_of a.left ws o).frame a.depth x h o.stage refl));
      right = c.listed-listed.ensures.1;
    }
