-- `child`: the bits at the place that the row names.
use mathlib.Core.Path.{ap, ◌∙◌}
use Prim.Native.Nat.{ℕ, ◌%◌}
use borrow.Author.Rules.{rules}
use Rattle.plan_packed.specs.Inner.Rows.{child_at}
use Rattle.plan_operands.proofs.rows.child.Goals as goal

pub returns : goal.returns
returns c =
    ap (λ (x : ℕ). x % 1024) c.bits_to.ensures ∙ ap (λ (p : ℕ). child_at p c.args.word) c.number.ensures
