-- `write_shown` meets its contract: the bytes of each preview. Assumes nothing.
use Rattle.preview.specs.Answer.{preview_of}
use Rattle.abi_preview.proofs.Written.{stopped, passed, moved, recorded, raced, no_room_lem}
use Rattle.abi_preview.proofs.write_shown.Goals as goal

pub thread_bytes-requires : goal.thread_bytes-requires
unfolding preview_of
thread_bytes-requires c = rw c.in-Passed.is at c.requires.0

pub returns-in-Stopped : goal.returns-in-Stopped
returns-in-Stopped c = rw c.in-Stopped.is (stopped _ _ _ _ c.fill.ensures c.stop_bytes.ensures c.no_record.ensures)

pub returns-in-Passed : goal.returns-in-Passed
returns-in-Passed c = rw c.in-Passed.is (passed _ _ _ _ c.fill-in-Passed.ensures c.thread_bytes.ensures c.no_record-in-Passed.ensures)

pub returns-in-Moved : goal.returns-in-Moved
returns-in-Moved c = rw c.in-Moved.is (moved _ _ _ c.fill-in-Moved.ensures c.no_reason.ensures c.no_record-in-Moved.ensures)

pub returns-in-Recorded : goal.returns-in-Recorded
returns-in-Recorded c =
    let g = c.in-Recorded.is in
    rw g (recorded _ _ _ c.fill-in-Recorded.ensures c.no_reason-in-Recorded.ensures (rw g at c.requires.1))

pub returns-in-Race : goal.returns-in-Race
returns-in-Race c =
    let g = c.in-Race.is in
    rw g (raced _ _ _ c.fill-in-Race.ensures c.stop_bytes-in-Race.ensures (rw g at c.requires.1))

pub returns-in-NoRoom : goal.returns-in-NoRoom
returns-in-NoRoom c =
    rw c.in-NoRoom.is (no_room_lem _ _ _ _ c.fill-in-NoRoom.ensures c.stop_bytes-in-NoRoom.ensures c.no_record-in-NoRoom.ensures)
