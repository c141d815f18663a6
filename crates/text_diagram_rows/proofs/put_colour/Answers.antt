-- `text_diagram::rows::put_colour` meets its contract. Assumes nothing.
use native.Mathlib.Omega.{arith}
use mathlib.Core.Path.{sym, ◌∙◌}
use mathlib.Core.Bool.{true, false}
use Rattle.text.specs.Text.{ascii}
use Rattle.text.proofs.Added.{added_as}
use Rattle.text_diagram_elements.specs.Diagram.{race_of}
use Rattle.text_diagram_elements.proofs.Races.{colour_is}
use Rattle.text_diagram_rows.proofs.put_colour.Goals as goal

pub returns-then-in_race : goal.returns-then-in_race
unfolding ascii
returns-then-in_race c =
    record {
      wrote = added_as (colour_is (race_of c.args.race)
          c.args.index true (sym c.if-in_race.true
          ∙ c.in_race.ensures)) c.put_word.ensures;
      short = omega (arith, c.put_word.ensures.next);
    }

pub returns-else-in_race : goal.returns-else-in_race
unfolding ascii
returns-else-in_race c =
    record {
      wrote = added_as (colour_is (race_of c.args.race)
          c.args.index false (sym c.if-in_race.false
          ∙ c.in_race.ensures)) c.put_word-else-in_race.ensures;
      short = omega (arith, c.put_word-else-in_race.ensures.next);
    }
