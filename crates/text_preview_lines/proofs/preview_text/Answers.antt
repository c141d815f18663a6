-- `text_preview_lines::preview_text` meets its contract. Assumes nothing.
use native.Mathlib.Omega.{arith}
use mathlib.Core.Path.{ap}
use mathlib.Core.Option.{some, none}
use Rattle.std.proofs.lemmas.Result.{err_from_is_err_and}
use Rattle.play.specs.Answer.{room_of, stop_of, status_of}
use Rattle.preview.specs.Preview.{passed, moved, race, no_room, stopped}
use Rattle.preview.specs.Answer.{record_of, preview_of}
use Rattle.text.specs.Text.{ascii}
use Rattle.text_preview_lines.specs.Lines.{preview_line}
use Rattle.text_preview_lines.specs.Told.{short}
use Rattle.text_preview_lines.proofs.Answers.{refused_told, shown_told}
use Rattle.text_preview_lines.proofs.preview_text.Goals as goal

pub returns-then-area-lt200 : goal.returns-then-area-lt200
returns-then-area-lt200 c = short (omega arith)

pub put_recorded-requires : goal.put_recorded-requires
put_recorded-requires c = (omega arith, omega arith)

pub put_recorded-requires-in-Race : goal.put_recorded-requires-in-Race
put_recorded-requires-in-Race c = (omega arith, omega arith)

pub returns-in_err-shown : goal.returns-in_err-shown
returns-in_err-shown c =
    let p = err_from_is_err_and c.from_residual.result c.from_residual.ensures.1 in
    rw (p.1, p.2) (refused_told _ _ _ _ (omega arith) _ c.in_err-shown.ensures.answer)

pub returns-in-Stopped : goal.returns-in-Stopped
unfolding preview_of preview_line
returns-in-Stopped c =
    shown_told _ _ _ _ (omega arith) c.in_ok-shown.shown c.in_ok-shown.ensures.answer
    (stopped (stop_of c.in-Stopped.stop))
    (ap preview_of c.in-Stopped.is) c.put_stopped.ensures

pub returns-in-Passed : goal.returns-in-Passed
unfolding preview_of preview_line
returns-in-Passed c =
    shown_told _ _ _ _ (omega arith) c.in_ok-shown.shown c.in_ok-shown.ensures.answer
    (passed (status_of c.in-Passed.state))
    (ap preview_of c.in-Passed.is) c.put_passed.ensures

pub returns-in-Moved : goal.returns-in-Moved
unfolding preview_of preview_line
returns-in-Moved c =
    shown_told _ _ _ _ (omega arith) c.in_ok-shown.shown c.in_ok-shown.ensures.answer
    (moved none)
    (ap preview_of c.in-Moved.is) c.put_moved.ensures

pub returns-in-Recorded : goal.returns-in-Recorded
unfolding preview_of preview_line
returns-in-Recorded c =
    shown_told _ _ _ _ (omega arith) c.in_ok-shown.shown c.in_ok-shown.ensures.answer
    (moved (some (record_of c.in-Recorded.bytes)))
    (ap preview_of c.in-Recorded.is) c.put_recorded.ensures

pub returns-in-Race : goal.returns-in-Race
unfolding preview_of preview_line ascii
returns-in-Race c =
    shown_told _ _ _ _ (omega arith) c.in_ok-shown.shown c.in_ok-shown.ensures.answer
    (race (record_of c.in-Race.bytes))
    (ap preview_of c.in-Race.is) c.put_recorded-in-Race.ensures

pub returns-in-NoRoom : goal.returns-in-NoRoom
unfolding preview_of preview_line
returns-in-NoRoom c =
    shown_told _ _ _ _ (omega arith) c.in_ok-shown.shown c.in_ok-shown.ensures.answer
    (no_room (room_of c.in-NoRoom.room))
    (ap preview_of c.in-NoRoom.is) c.put_no_room.ensures
