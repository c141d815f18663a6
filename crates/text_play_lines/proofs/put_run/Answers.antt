-- `text_play_lines::put_run` meets its contract. Assumes nothing.
use native.Mathlib.Omega.{arith}
use mathlib.Core.Path.{◌≡◌, sym, ◌∙◌}
use mathlib.Core.Bool.{true≢false}
use lib.ListN.{length-append}
use Rattle.log_records.specs.Packed.{log_of}
use Rattle.run_outcome.specs.declared.Stop.TheVariants as stop
use Rattle.play.specs.Answer.{stop_of}
use Rattle.text_record_lines.specs.Lines.{record_lines}
use Rattle.text_last_lines.specs.Lines.{outcome_line}
use Rattle.text_last_lines.proofs.LineParts.{outcome_short}
use Rattle.text.proofs.Added.{added_more}
use Rattle.text_play_lines.proofs.Lengths.{log_short}
use Rattle.text_play_lines.proofs.put_run.Goals as goal

pub overflow_sub-records : goal.overflow_sub-records
overflow_sub-records c =
    omega (arith, (c.requires.raced c.in-Race.is).0)

pub put_unordered-requires : goal.put_unordered-requires
put_unordered-requires c =
    let a = c.args in
    let w = c.put_run-at.ensures in
    let lines = log_short a.log.now c.requires.short in
    let last = outcome_short (stop_of a.stop) a.picks a.moves a.records (omega arith) (omega arith) (omega arith) in
    record {
      has_last = (c.requires.raced c.in-Race.is).1;
      short = c.requires.short;
      room =
          omega (
            arith,
            c.requires.room,
            lines,
            last,
            w.next,
            w.kept,
            length-append (record_lines 0 (log_of a.log.now)) (outcome_line (stop_of a.stop) a.picks a.moves a.records),
          );
    }

pub returns-in-Race : goal.returns-in-Race
returns-in-Race c =
    let raced = c.in-Race.is in
    record {
      no_race = λ k. absurd (k raced);
      races = λ k v u. added_more
          c.put_run-at.ensures (c.put_unordered.ensures v u);
    }

pub returns-in-End : goal.returns-in-End
returns-in-End c =
    record {
      no_race = λ k. c.put_run-at.ensures;
      races = λ k. let z : stop.End ≡ stop.Race = sym c.in-End.is ∙ k in absurd (true≢false cc);
    }

pub returns-in-NoRoom : goal.returns-in-NoRoom
returns-in-NoRoom c =
    record {
      no_race = λ k. c.put_run-at.ensures;
      races = λ k. let z : stop.NoRoom c.in-NoRoom.field-0 ≡ stop.Race = sym c.in-NoRoom.is ∙ k in absurd (true≢false cc);
    }
