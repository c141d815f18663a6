-- `text_diagram::rows::in_race` meets its contract. Assumes nothing.
use Rattle.text_diagram_elements.proofs.Races.{is_write_lem, is_access_lem}
use Rattle.text_diagram_rows.proofs.in_race.Goals as goal

pub returns-then-index-race : goal.returns-then-index-race
returns-then-index-race c = is_write_lem c.args.race c.in-Some.race c.in-Some.is
    c.args.index c.if-index-race.true

pub returns-else-index-race : goal.returns-else-index-race
returns-else-index-race c = is_access_lem c.args.race c.in-Some.race c.in-Some.is
    c.args.index c.if-index-race.false
