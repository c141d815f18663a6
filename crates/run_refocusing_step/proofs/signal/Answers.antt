-- `signal` meets its contract. Assumes nothing.
use borrow.Author.Tests.{ne_eqb}
use Rattle.run_refocusing_step.specs.Inner.Down.{signal_of, signal_by}
use borrow.Author.Rules.{rules}
use Rattle.run_refocusing_step.proofs.signal.Goals as goal

pub returns-in-18 : goal.returns-in-18
unfolding signal_of signal_by
returns-in-18 c =
    rw (← c.tag-tag.ensures)
    (simp (c.want.ensures, c.frame_of.ensures, c.first-first.ensures, c.in-18.is))

pub returns-in-19 : goal.returns-in-19
unfolding signal_of signal_by
returns-in-19 c =
    rw (← c.tag-tag.ensures)
    (simp (c.want-in-19.ensures, c.frame_of-in-19.ensures, c.first-first.ensures, c.in-19.is))

pub returns-in-20 : goal.returns-in-20
unfolding signal_of signal_by
returns-in-20 c =
    rw (← c.tag-tag.ensures)
    (simp (c.want-in-20.ensures, c.frame_of-in-20.ensures, c.first-first.ensures, c.in-20.is))

pub returns-in_default : goal.returns-in_default
unfolding signal_of signal_by
returns-in_default c =
    simp (c.at.ensures, c.ready_of.ensures)
    (rw (← c.tag-tag.ensures)
    (simp (
      ne_eqb _ _ c.in_default.in_default-own.rest.0.0.1,
      ne_eqb _ _ c.in_default.in_default-own.rest.0.1,
      ne_eqb _ _ c.in_default.in_default-own.rest.1,
    )))
