-- `text_last_lines::put_stop` meets its contract. Assumes nothing.
use native.Mathlib.Omega.{arith}
use mathlib.Core.Path.{◌≡◌, sym, ap}
use lib.ListN.{length}
use Rattle.run_outcome.specs.declared.Stop.{Stop}
use Rattle.play.specs.Answer.{stop_of}
use Rattle.text.specs.Text.{ascii}
use Rattle.text_last_lines.specs.Lines.{stop_word}
use Rattle.text.proofs.Added.{added_as}
use borrow.Author.Rules.{rules}
use Rattle.text_last_lines.proofs.put_stop.Goals as goal

stop_is : {x y : Stop} → x ≡ y → stop_word (stop_of x) ≡ stop_word (stop_of y)
stop_is e = ap (λ (x : Stop). stop_word (stop_of x)) e

pub put_word-requires : goal.put_word-requires
unfolding stop_word stop_of ascii
put_word-requires c = omega (arith, ap length (stop_is c.in-End.is))

pub put_word-requires-in-Race : goal.put_word-requires-in-Race
unfolding stop_word stop_of ascii
put_word-requires-in-Race c = omega (arith, ap length (stop_is c.in-Race.is))

pub put_room-requires : goal.put_room-requires
put_room-requires c = omega (arith, ap length (stop_is c.in-NoRoom.is))

pub returns-in-End : goal.returns-in-End
unfolding stop_word stop_of ascii
returns-in-End c = added_as (sym (stop_is c.in-End.is)) c.put_word.ensures

pub returns-in-Race : goal.returns-in-Race
unfolding stop_word stop_of ascii
returns-in-Race c = added_as (sym (stop_is c.in-Race.is)) c.put_word-in-Race.ensures

pub returns-in-NoRoom : goal.returns-in-NoRoom
unfolding stop_word stop_of ascii
returns-in-NoRoom c = added_as (sym (stop_is c.in-NoRoom.is)) c.put_room.ensures
