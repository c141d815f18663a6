-- `bits_to`: a shift is a quotient by a power of two.
use mathlib.Core.Path.{ap}
use Prim.Native.Nat.{ℕ, ◌/◌, ◌%◌, ◌^◌}
use borrow.Author.Rules.{rules}
use Rattle.plan_operands.proofs.rows.bits_to.Goals as goal

pub returns : goal.returns
returns c = ap (λ (x : ℕ). c.args.word / 2 ^ (x % 64)) c.wide.ensures.0
