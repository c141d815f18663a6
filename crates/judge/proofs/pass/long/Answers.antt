-- `judge::pass::long` meets its contract. Assumes nothing.
use Rattle.judge.proofs.Answered.{answers_found}
use mathlib.Core.Path.{sym, ◌∙◌}
use Rattle.judge.proofs.pass.long.Goals as goal

pub returns : goal.returns
returns c =
    answers_found c.requires c.by_rows-found.ensures
    (sym c.full.ensures ∙ c.if-full.false) _ c.judgement.ensures
