-- `bits_after`: the remainder by a power of two.
use mathlib.Core.Path.{◌≡◌, ap, ◌∙◌}
use Prim.Native.Nat.{ℕ, ◌*◌, ◌%◌, ◌^◌}
use native.Mathlib.Omega.{arith}
use lib.Pow.{pow_pos}
use Rattle.format.proofs.BitLaws.{shl_one}
use borrow.Author.Rules.{rules}
use Rattle.plan_operands.proofs.rows.bits_after.Goals as goal

unit_is : (x : ℕ) → (1 * 2 ^ (x % 64)) % 2 ^ 64 ≡ 2 ^ (x % 64)
unit_is x = shl_one (x % 64) (omega arith)

pub nonzero_rem-result-2 : goal.nonzero_rem-result-2
nonzero_rem-result-2 c = rw (unit_is c.wide.result) (pow_pos (c.wide.result % 64))

pub returns : goal.returns
returns c =
    ap (λ (m : ℕ). c.args.word % m) (unit_is c.wide.result) ∙ ap (λ (x : ℕ). c.args.word % 2 ^ (x % 64)) c.wide.ensures.0
