-- `put_stop` meets its contract. Assumes nothing.
use native.Mathlib.Omega.{arith}
use mathlib.Core.Path.{sym}
use Rattle.play.specs.Answer.{stop_of}
use Rattle.text.specs.Text.{ascii}
use Rattle.text.proofs.Added.{added_as}
use Rattle.text_preview_lines.specs.Lines.{stop_words}
use Rattle.text_preview_lines.proofs.StopWords.{stop_is}
use Rattle.text_preview_lines.proofs.stops.put_stop.Goals as goal

pub returns-in-End : goal.returns-in-End
unfolding stop_words stop_of ascii
returns-in-End c = record {
  wrote = added_as (sym (stop_is c.in-End.is)) c.put_word.ensures;
  within = omega
      (arith, c.put_word.ensures.next);
}

pub returns-in-Race : goal.returns-in-Race
unfolding stop_words stop_of ascii
returns-in-Race c = record {
  wrote = added_as (sym (stop_is c.in-Race.is)) c.put_word-in-Race.ensures;
  within = omega
      (arith, c.put_word-in-Race.ensures.next);
}

pub returns-in-NoRoom : goal.returns-in-NoRoom
unfolding stop_words stop_of
returns-in-NoRoom c = record { wrote = added_as (sym (stop_is c.in-NoRoom.is)) c.put_room.ensures.wrote; within = c.put_room.ensures.within }
