-- `diagram::diagram` meets its contract, by what the judge answers. Assumes nothing.
use Prim.Native.Nat.{ℕ}
use mathlib.Core.Path.{subst as along}
use Rattle.std.specs.Prelude.{Option, Ok}
use Rattle.std.proofs.lemmas.Result.{err_from_is_err_and}
use Rattle.log_conflicts.specs.Judge.{AnswersTold}
use Rattle.judge.specs.Answer.{answered}
use Rattle.diagram.proofs.Pictures.{refused_picture, ordered_judged, named_judged}
use Rattle.diagram.proofs.diagram.Goals as goal

pub draw-requires : goal.draw-requires
draw-requires c =
    ordered_judged (along (λ (j : Option ℕ). AnswersTold c.args.version c.args.log.now (answered (Ok j))) c.in-None.is
    c.in_ok-judged.ensures)

pub draw_race-requires : goal.draw_race-requires
draw_race-requires c =
    named_judged (along (λ (j : Option ℕ). AnswersTold c.args.version c.args.log.now (answered (Ok j))) c.in-Some.is
    c.in_ok-judged.ensures)

pub returns-in_err-judged : goal.returns-in_err-judged
returns-in_err-judged c =
    let p = err_from_is_err_and c.from_residual.result c.from_residual.ensures.1 in
    rw (p.1, p.2) (refused_picture c.in_err-judged.ensures)
