-- Of refusals by their reasons these are the answers of every check and tool. Assumes nothing.
use Prim.Native.Nat.{ℕ}
use mathlib.Core.Path.{◌≡◌, refl}
use Rattle.std.specs.Prelude.{Result}
use Rattle.refusals.specs.declared.Refusal as code
use Rattle.refusals.specs.Numbers.{refusal_of}
use Rattle.plan_refusals.specs.Answer as check
use Rattle.answers.specs.Answer as tool
use Rattle.numbered_refusals.specs.Inner.Answered.{check_by, tool_by}

pub same_check : (x : Result (Unit {0}) code.Refusal) → check_by refusal_of x ≡ check.answered x
unfolding check.answered
same_check x = refl

pub same_tool : (x : Result ℕ code.Refusal) → tool_by refusal_of x ≡ tool.answered x
same_tool x = refl
