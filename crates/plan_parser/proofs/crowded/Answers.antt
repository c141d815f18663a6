-- `crowded` meets its contract. Assumes nothing.
use borrow.Author.Tests.{lt-ltb, le-ltb}
use Rattle.plan_parser.specs.Inner.Reading.{crowded_by}
use Rattle.plan_parser.proofs.crowded.Goals as goal

pub returns-then-words-lt1024 : goal.returns-then-words-lt1024
unfolding crowded_by
returns-then-words-lt1024 c = rw (lt-ltb _ 1024 c.if-words-lt1024.true)

pub returns : goal.returns
unfolding crowded_by
returns c = rw (le-ltb _ 1024 c.if-words-lt1024.false)
