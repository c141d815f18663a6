-- `diagram::draw_race` meets its contract. Assumes nothing.
use Rattle.diagram.proofs.Pictures.{named_search, red_last}
use Rattle.diagram.proofs.draw_race.Goals as goal

pub last_conflict-earlier-requires : goal.last_conflict-earlier-requires
last_conflict-earlier-requires c = named_search c.requires

pub draw-requires : goal.draw-requires
draw-requires c = red_last c.requires c.last_conflict-earlier.ensures
