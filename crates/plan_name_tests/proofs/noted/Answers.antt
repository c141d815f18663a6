-- `noted`: by the comparison with 0.
use Rattle.plan_packed.specs.Inner.Steps.{note_of}
use Rattle.plan_packed.proofs.NoteLaws.{note_again}
use Rattle.plan_name_tests.proofs.noted.Goals as goal

pub returns-then-note-eq0 : goal.returns-then-note-eq0
unfolding note_of
returns-then-note-eq0 c = rw c.if-note-eq0.true

pub returns-else-note-eq0 : goal.returns-else-note-eq0
returns-else-note-eq0 c = note_again c.args.note c.args.sort c.if-note-eq0.false
