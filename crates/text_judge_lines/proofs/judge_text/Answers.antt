-- `text_judge_lines::judge_text` meets its contract, by what the judge answers. Assumes nothing.
use native.Mathlib.Omega.{arith}
use mathlib.Core.Path.{subst as along}
use Rattle.std.specs.Prelude.{Option, Ok}
use Prim.Native.Nat.{ℕ}
use Rattle.std.proofs.lemmas.Result.{err_from_is_err_and}
use Rattle.log_conflicts.specs.Judge.{AnswersTold}
use Rattle.judge.specs.Answer.{answered}
use Rattle.text_judge_lines.specs.Told.{short}
use Rattle.text_judge_lines.proofs.Answers.{refused_told, ordered_told, named_here, conflict_told}
use Rattle.text_judge_lines.proofs.judge_text.Goals as goal

pub returns-then-area-lt200 : goal.returns-then-area-lt200
returns-then-area-lt200 c = short (omega arith)

pub put_named-requires : goal.put_named-requires
put_named-requires c =
    let s = c.args in
    let b = s.log.now in record {
      named = named_here s.version b s.area.now (omega arith)
          (along (λ (j : Option ℕ). AnswersTold s.version b (answered (Ok j))) c.in-Some.is
          c.in_ok-judged.ensures);
      room = omega arith;
    }

pub returns-in_err-judged : goal.returns-in_err-judged
returns-in_err-judged c =
    let s = c.args in
    let p = err_from_is_err_and c.from_residual.result c.from_residual.ensures.1 in
    rw (p.1, p.2) (refused_told s.version s.log.now s.area.now (omega arith) c.in_err-judged.ensures)

pub returns-in-None : goal.returns-in-None
returns-in-None c =
    let s = c.args in
    let b = s.log.now in
    ordered_told s.version b s.area.now (omega arith)
    (along (λ (j : Option ℕ). AnswersTold s.version b (answered (Ok j))) c.in-None.is
    c.in_ok-judged.ensures) c.put_ordered.ensures

pub returns-in-Some : goal.returns-in-Some
returns-in-Some c =
    let s = c.args in
    let b = s.log.now in
    conflict_told s.version b s.area.now (omega arith)
    (along (λ (j : Option ℕ). AnswersTold s.version b (answered (Ok j))) c.in-Some.is
    c.in_ok-judged.ensures) c.put_named.ensures
