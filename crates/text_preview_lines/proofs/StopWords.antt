-- The words for a stop, by what is known of an answer. Assumes nothing.
use mathlib.Core.Path.{◌≡◌, ap}
use Rattle.run_outcome.specs.declared.NoRoom.{NoRoom}
use Rattle.run_outcome.specs.declared.Stop.{Stop}
use Rattle.play.specs.Answer.{room_of, stop_of}
use Rattle.text_preview_lines.specs.Lines.{room_words, stop_words}

pub room_is : {x y : NoRoom} → x ≡ y → room_words (room_of x) ≡ room_words (room_of y)
room_is e = ap (λ (x : NoRoom). room_words (room_of x)) e

pub stop_is : {x y : Stop} → x ≡ y → stop_words (stop_of x) ≡ stop_words (stop_of y)
stop_is e = ap (λ (x : Stop). stop_words (stop_of x)) e
