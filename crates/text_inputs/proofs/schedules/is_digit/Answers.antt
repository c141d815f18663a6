-- `is_digit_lem`: the code is its definition. Assumes nothing.
use mathlib.Core.Path.{refl}
use Rattle.text_inputs.specs.Schedules.{is_digit}
use Rattle.text_inputs.proofs.schedules.is_digit.Goals as goal

pub returns : goal.returns
unfolding is_digit
returns c = refl
