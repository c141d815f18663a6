-- `put_bytes`: by the bytes, one after the other. Assumes nothing.
use native.Mathlib.Omega.{arith}
use mathlib.Core.Path.{◌∙◌}
use Rattle.plan_packing.proofs.PackedWords.{one_byte, none_left, all_left}
use Rattle.plan_packing.proofs.put_bytes.Goals as goal

pub loop-place-init : goal.loop-place-init
loop-place-init g c = all_left _ _ _ _

pub loop-place-preserved : goal.loop-place-preserved
loop-place-preserved g c = one_byte _ _ _ _ _ (omega arith) ∙ c.loop-place.invariant

pub returns : goal.returns
returns g c = none_left _ _ _ _ _ (omega arith) ∙ c.loop-place.invariant
