-- `judge::judge` meets its contract: refusal 14, then `judge_version`. Assumes nothing.
use native.Mathlib.Omega.{arith}
use Rattle.log_conflicts.specs.Judge.{wrong_version, right_version}
use Rattle.judge.proofs.judge.Goals as goal

pub returns-then-version-gt1 : goal.returns-then-version-gt1
returns-then-version-gt1 c = rw c.at.ensures (wrong_version (omega (arith, c.if-version-gt1.true)))

pub returns : goal.returns
returns c = right_version (omega (arith, c.if-version-gt1.false)) c.judge_version.ensures
