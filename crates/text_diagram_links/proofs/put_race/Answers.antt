-- `text_diagram::links::put_race` meets its contract. Assumes nothing.
use native.Mathlib.Omega.{arith}
use Rattle.log_records.specs.Packed.{log_of}
use Rattle.text.specs.Text.{ascii}
use Rattle.text_diagram_elements.proofs.Together.{drawn_none, drawn_as}
use Rattle.text_diagram_elements.proofs.Races.{race_line, no_race}
use Rattle.text_diagram_links.proofs.put_race.Goals as goal

pub put_between-requires : goal.put_between-requires
put_between-requires c =
    let p = c.requires in (
      record {
        few = p.0;
        first_inside = p.1.write_inside c.in-Some.race c.in-Some.is;
        second_inside = p.1.access_inside c.in-Some.race c.in-Some.is;
      },
      omega (arith, p.2),
    )

pub returns-in-Some : goal.returns-in-Some
unfolding ascii
returns-in-Some c =
    drawn_as (race_line c.args.race c.in-Some.race c.in-Some.is
    (log_of c.args.log.now)) c.put_between.ensures

pub returns-in-None : goal.returns-in-None
returns-in-None c = drawn_as
    (no_race c.args.race (log_of c.args.log.now) c.in-None.is)
    (drawn_none _ _ _)
