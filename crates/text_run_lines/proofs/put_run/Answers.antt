-- `text_run_lines::put_run` meets its contract. Assumes nothing.
use native.Mathlib.Omega.{arith}
use Rattle.play.specs.Answer.{stop_of}
use Rattle.text.proofs.Added.{added_more}
use Rattle.text_last_lines.proofs.LineParts.{outcome_short}
use borrow.Author.Rules.{rules}
use Rattle.text_run_lines.proofs.put_run.Goals as goal

pub put_outcome-requires : goal.put_outcome-requires
put_outcome-requires c =
    let a = c.args in
    let w = c.put_log-at.ensures in
    omega (arith, w.within, w.wrote.kept, outcome_short (stop_of a.stop) a.picks a.moves a.records (omega arith) (omega arith) (omega arith))

pub returns : goal.returns
returns c = added_more c.put_log-at.ensures.wrote c.put_outcome.ensures
