-- What the judge answers is small: the index of an access, the number and the place of a refusal. Assumes nothing.
use Prim.Native.Nat.{ℕ, ◌≤◌}
use native.Mathlib.Omega.{arith}
use mathlib.Core.Path.{subst}
use mathlib.Core.List.{List}
use mathlib.Core.Option.{some, none}
use Rattle.format.specs.Version.{Version}
use Rattle.log_conflicts.specs.Judge.{Judged, refused, named, names_first, Answers, refuses, judges, AnswersTold, wrong_version, right_version}
use Rattle.log_records.specs.Packed.{log_of}
use Rattle.log_records.proofs.Accepted.{accepted}
use Rattle.log_records.proofs.RoundTrip.{count_log}
use Rattle.rules.proofs.StateLaws.{inside}
use Rattle.plan_refusals.specs.Inner.Small.{SmallCheck}
use Rattle.abi_numbers.specs.Inner.Small.{SmallJudged}
use Rattle.ruqzhemil.proofs.Refusals.{small_log}

small_index : {v : Version} (b : List ℕ) (j : ℕ) → Answers v b (named (some j)) → j ≤ 4096
small_index b j (judges e (names_first u low)) =
    let a = accepted b e in
    omega (arith, inside (log_of b) j u.access u.at_j, count_log b, a.length_threes, a.length_most)

small_answered : {v : Version} (b : List ℕ) (a : Judged) → Answers v b a → SmallJudged a
small_answered b (named none) h = tt
small_answered b (named (some j)) h = small_index b j h
small_answered b (refused r) (refuses e) = subst SmallCheck e (small_log b)

pub small_judged : (version : ℕ) (b : List ℕ) (a : Judged) → AnswersTold version b a → SmallJudged a
small_judged version b a (wrong_version l) = (omega arith, omega arith)
small_judged version b a (right_version l h) = small_answered b a h
