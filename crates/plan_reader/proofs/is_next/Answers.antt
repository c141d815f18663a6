-- `is_next` meets its contract. Assumes nothing.
use Rattle.std.proofs.lemmas.Bool.{lt-ltb, le-ltb}
use Rattle.plan_reader.specs.Inner.Reading.{is_next}
use Rattle.plan_reader.proofs.is_next.Goals as goal

pub returns-then-last-token : goal.returns-then-last-token
unfolding is_next
returns-then-last-token c = simp (lt-ltb _ _ c.if-last-token.true)

pub returns-else-last-token : goal.returns-else-last-token
unfolding is_next
returns-else-last-token c = simp (le-ltb _ _ c.if-last-token.false)
