-- `is_blank`: the code is its definition. Assumes nothing.
use mathlib.Core.Path.{refl}
use Rattle.plan_notation.specs.Lexing.{is_blank}
use Rattle.text_inputs.proofs.plans.is_blank.Goals as goal

pub returns : goal.returns
unfolding is_blank
returns c = refl
