-- `agreement::judge_first` meets its contract: the part from 0 on is the first bytes. Assumes nothing.
use native.Mathlib.Nat.{sub-zero}
use mathlib.Core.Path.{subst as along}
use lib.ListN.{take}
use Prim.Native.Nat.{ℕ}
use borrow.Author.Rules.{rules}
use Rattle.log_conflicts.specs.Judge.{AnswersTold}
use Rattle.judge.specs.Answer as judge
use Rattle.agreement.proofs.judge_first.Goals as goal

pub returns : goal.returns
returns c =
    let a = c.args in
    along (λ (n : ℕ). AnswersTold a.version (take n a.area.now) (judge.answered c.judge.result)) (sub-zero a.bytes) c.judge.ensures
