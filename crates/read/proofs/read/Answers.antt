-- `read` meets its contract. Assumes nothing.
use mathlib.Core.Path.{ap, ◌∙◌}
use lib.ListN.{length}
use Rattle.read.proofs.Answers.{read_length}
use Rattle.read.proofs.read.Goals as goal

pub shape_of-area : goal.shape_of-area
shape_of-area c = ap length c.read_from-told.ensures.1 ∙ read_length _ _

pub returns : goal.returns
returns c = record { answer = c.answer.ensures ∙ c.read_from-told.ensures.0; area = c.read_from-told.ensures.1 }
