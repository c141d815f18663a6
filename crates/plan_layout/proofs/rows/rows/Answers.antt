-- `rows`: the rows of the code and those of the texts, each computed, are the same. Assumes nothing.
use mathlib.Core.Path.{refl}
use Rattle.plan_notation.specs.Tokens.{texts}
use Rattle.text.specs.Text.{ascii}
use Rattle.plan_layout.specs.Inner.Rows.{text_rows}
use Rattle.plan_layout.proofs.rows.rows.Goals as goal

pub invariant_of-result : goal.invariant_of-result
unfolding text_rows texts ascii
invariant_of-result c = refl

pub returns : goal.returns
unfolding text_rows texts ascii
returns c = refl
