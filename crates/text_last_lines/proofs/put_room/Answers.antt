-- `text_last_lines::put_room` meets its contract. Assumes nothing.
use native.Mathlib.Omega.{arith}
use mathlib.Core.Path.{◌≡◌, sym, ap}
use lib.ListN.{length}
use Rattle.run_outcome.specs.declared.NoRoom.{NoRoom}
use Rattle.run_outcome.specs.declared.Stop.TheVariants as stop
use Rattle.play.specs.Answer.{room_of, stop_of}
use Rattle.text.specs.Text.{ascii}
use Rattle.text_last_lines.specs.Lines.{stop_word}
use Rattle.text.proofs.Added.{added_as}
use borrow.Author.Rules.{rules}
use Rattle.text_last_lines.proofs.put_room.Goals as goal

room_is : {x y : NoRoom} → x ≡ y → stop_word (stop_of (stop.NoRoom x)) ≡ stop_word (stop_of (stop.NoRoom y))
room_is e = ap (λ (x : NoRoom). stop_word (stop_of (stop.NoRoom x))) e

pub put_word-requires : goal.put_word-requires
unfolding stop_word stop_of room_of ascii
put_word-requires c = omega (arith, ap length (room_is c.in-Thread.is))

pub put_word-requires-in-Object : goal.put_word-requires-in-Object
unfolding stop_word stop_of room_of ascii
put_word-requires-in-Object c = omega (arith, ap length (room_is c.in-Object.is))

pub put_word-requires-in-Key : goal.put_word-requires-in-Key
unfolding stop_word stop_of room_of ascii
put_word-requires-in-Key c = omega (arith, ap length (room_is c.in-Key.is))

pub put_word-requires-in-Depth : goal.put_word-requires-in-Depth
unfolding stop_word stop_of room_of ascii
put_word-requires-in-Depth c = omega (arith, ap length (room_is c.in-Depth.is))

pub returns-in-Thread : goal.returns-in-Thread
unfolding stop_word stop_of room_of ascii
returns-in-Thread c = added_as (sym (room_is c.in-Thread.is)) c.put_word.ensures

pub returns-in-Object : goal.returns-in-Object
unfolding stop_word stop_of room_of ascii
returns-in-Object c = added_as (sym (room_is c.in-Object.is)) c.put_word-in-Object.ensures

pub returns-in-Key : goal.returns-in-Key
unfolding stop_word stop_of room_of ascii
returns-in-Key c = added_as (sym (room_is c.in-Key.is)) c.put_word-in-Key.ensures

pub returns-in-Depth : goal.returns-in-Depth
unfolding stop_word stop_of room_of ascii
returns-in-Depth c = added_as (sym (room_is c.in-Depth.is)) c.put_word-in-Depth.ensures
