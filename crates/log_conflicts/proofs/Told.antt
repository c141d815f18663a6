-- The judge that is told a version answers as one of that version, once, and 14 to every other version. Assumes nothing.
use Prim.Native.Nat.{ℕ, ◌≤◌}
use native.Mathlib.Omega.{arith}
use mathlib.Core.List.{List}
use Rattle.format.specs.Version.{version_of}
use Rattle.log_conflicts.specs.Judge.{Judged, Answers, AnswersTold, wrong_version, right_version}

-- a version that is 0 or 1 is not refused
pub told_known : {version : ℕ} {b : List ℕ} {a : Judged} → version ≤ 1 → AnswersTold version b a → Answers (version_of version) b a
told_known l (wrong_version h) = absurd (omega arith)
told_known l (right_version h w) = w
