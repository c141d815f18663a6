-- `known` meets its contract. Assumes nothing.
use borrow.Author.Tests.{lt-ltb, le-ltb}
use Rattle.read.specs.Answer.{known_kind}
use Rattle.read.proofs.known.Goals as goal

pub returns-then-kind-lt3 : goal.returns-then-kind-lt3
unfolding known_kind
returns-then-kind-lt3 c = rw (lt-ltb _ 3 c.if-kind-lt3.true)

pub returns-else-kind-lt3 : goal.returns-else-kind-lt3
unfolding known_kind
returns-else-kind-lt3 c = rw (le-ltb _ 3 c.if-kind-lt3.false)
