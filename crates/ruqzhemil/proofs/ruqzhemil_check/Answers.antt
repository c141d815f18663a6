-- `ruqzhemil::ruqzhemil_check` meets its contract: the number of what `plan::check` answers. Assumes nothing.
use Rattle.plan_refusals.specs.Answer.{answered}
use Rattle.ruqzhemil.proofs.Refusals.{small_plan}
use Rattle.abi_convention.specs.Convention.{check_number}
use mathlib.Core.Path.{ap, ◌∙◌}
use borrow.Author.Rules.{rules}
use Rattle.ruqzhemil.proofs.ruqzhemil_check.Goals as goal

pub of_check-requires : goal.of_check-requires
unfolding answered
of_check-requires c = rw c.check-checked.ensures (small_plan _)

pub returns : goal.returns
unfolding answered
returns c = c.of_check.ensures ∙ ap check_number c.check-checked.ensures
