-- `operand` meets its contract. Assumes nothing.
use Prim.Native.Nat.{ℕ, ◌/◌, ◌%◌, ◌^◌}
use native.Mathlib.Omega.{arith}
use mathlib.Core.Path.{ap}
use Rattle.plan_token_writer.specs.Inner.Items.{operand_by}
use Rattle.plan_token_writer.proofs.Operands.{shift_is}
use Rattle.plan_token_writer.proofs.operand.Goals as goal

pub returns : goal.returns
unfolding operand_by
returns c = (ap (λ (k : ℕ). c.args.word / 2 ^ k % 1024) (shift_is c.args.number c.requires), omega arith)
