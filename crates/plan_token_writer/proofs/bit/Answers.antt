-- `bit` meets its contract. Assumes nothing.
use mathlib.Core.Path.{refl}
use Rattle.plan_packed.specs.Format.{mask_bit}
use Rattle.plan_token_writer.proofs.bit.Goals as goal

pub returns : goal.returns
unfolding mask_bit
returns c = refl
