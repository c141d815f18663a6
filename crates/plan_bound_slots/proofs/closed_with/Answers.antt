-- `closed_with`: the parameters are the first slots.
use Prim.Native.Nat.{ℕ, ◌-◌}
use native.Mathlib.Omega.{arith}
use mathlib.Core.Path.{ap, ◌∙◌}
use mathlib.Core.Bool.{Bool}
use lib.Pow.{pow_pos}
use Rattle.format.proofs.BitLaws.{shl_one}
use Rattle.plan_packed.specs.Slots.{closed}
use Rattle.plan_packed.specs.Inner.Steps.{slots, tree_in}
use Rattle.plan_packed.proofs.SlotMasks.{parameters_are}
use Rattle.plan_bound_slots.proofs.closed_with.Goals as goal

pub overflow_sub-parameters : goal.overflow_sub-parameters
overflow_sub-parameters c = rw (shl_one _ c.requires.2) (omega (arith, pow_pos c.args.parameters))

pub returns : goal.returns
returns c =
    let k = c.args.parameters in
    c.closed_expression.ensures
    ∙ ap (λ (s : ℕ → Bool). closed s (tree_in c.args.words.now c.args.root))
    (ap (λ (m : ℕ). slots (m - 1)) (shl_one k c.requires.2) ∙ parameters_are k)
