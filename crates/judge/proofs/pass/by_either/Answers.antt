-- `judge::pass::by_either` meets its contract. Assumes nothing.
use Rattle.judge.proofs.Answered.{finds_large}
use Rattle.judge.proofs.pass.by_either.Goals as goal

pub returns-then-all : goal.returns-then-all
returns-then-all c = finds_large c.if-all.true c.by_rows.ensures

pub returns : goal.returns
returns c = finds_large c.if-all.false c.by_rows-2.ensures
