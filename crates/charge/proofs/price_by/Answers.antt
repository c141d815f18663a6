-- `price_by` meets its contract. Assumes nothing.
use Rattle.play.specs.Answer.{stop_of}
use Rattle.charge.specs.Charge.{price_by}
use borrow.Author.Rules.{rules}
use Rattle.charge.proofs.price_by.Goals as goal

pub returns-in-End : goal.returns-in-End
unfolding price_by stop_of
returns-in-End c = simp (c.price.ensures, c.in-End.is)

pub returns-in-Race : goal.returns-in-Race
unfolding price_by stop_of
returns-in-Race c = simp (c.price-in-Race.ensures, c.in-Race.is)

pub returns-in-NoRoom : goal.returns-in-NoRoom
unfolding price_by stop_of
returns-in-NoRoom c = simp c.in-NoRoom.is
