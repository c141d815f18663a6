-- `put_room` meets its contract. Assumes nothing.
use native.Mathlib.Omega.{arith}
use mathlib.Core.Path.{sym}
use Rattle.play.specs.Answer.{room_of}
use Rattle.text.specs.Text.{ascii}
use Rattle.text.proofs.Added.{added_as}
use Rattle.text_preview_lines.specs.Lines.{room_words}
use Rattle.text_preview_lines.proofs.StopWords.{room_is}
use Rattle.text_preview_lines.proofs.stops.put_room.Goals as goal

pub returns-in-Thread : goal.returns-in-Thread
unfolding room_words room_of ascii
returns-in-Thread c = record {
  wrote = added_as (sym (room_is c.in-Thread.is)) c.put_word.ensures;
  within = omega
      (arith, c.put_word.ensures.next);
}

pub returns-in-Object : goal.returns-in-Object
unfolding room_words room_of ascii
returns-in-Object c = record {
  wrote = added_as (sym (room_is c.in-Object.is)) c.put_word-in-Object.ensures;
  within = omega
      (arith, c.put_word-in-Object.ensures.next);
}

pub returns-in-Key : goal.returns-in-Key
unfolding room_words room_of ascii
returns-in-Key c = record {
  wrote = added_as (sym (room_is c.in-Key.is)) c.put_word-in-Key.ensures;
  within = omega
      (arith, c.put_word-in-Key.ensures.next);
}

pub returns-in-Depth : goal.returns-in-Depth
unfolding room_words room_of ascii
returns-in-Depth c = record {
  wrote = added_as (sym (room_is c.in-Depth.is)) c.put_word-in-Depth.ensures;
  within = omega
      (arith, c.put_word-in-Depth.ensures.next);
}
