-- `text_state_lines::put_thread` meets its contract. Assumes nothing.
use native.Mathlib.Omega.{arith}
use mathlib.Core.Path.{sym, ◌∙◌}
use Rattle.text.proofs.Added.{added_none, added_as}
use Rattle.text_state_lines.proofs.LineParts.{absent_line, present_line_lem}
use Rattle.text_state_lines.proofs.put_thread.Goals as goal

pub returns-then-absent : goal.returns-then-absent
returns-then-absent c =
    let a = c.args in record { wrote = added_as (absent_line a.index a.thread.learnt a.thread.state (sym c.absent.ensures ∙ c.if-absent.true)) (added_none _ _); within = omega arith }

pub returns : goal.returns
returns c =
    let a = c.args in record {
      wrote = added_as
          (present_line_lem a.index a.thread.learnt a.thread.state
          (sym c.absent.ensures ∙ c.if-absent.false))
          c.put_present.ensures.wrote;
      within = c.put_present.ensures.within;
    }
