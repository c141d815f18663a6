-- `abi_thread_bytes::room_byte` meets its contract: the byte of each lack of room. Assumes nothing.
use Rattle.play.specs.Answer.{stop_of, room_of}
use Rattle.abi_thread_bytes.specs.Bytes.{stop_byte}
use borrow.Author.Rules.{rules}
use Rattle.abi_thread_bytes.proofs.room_byte.Goals as goal

pub returns-in-Thread : goal.returns-in-Thread
unfolding stop_byte stop_of room_of
returns-in-Thread c = simp c.in-Thread.is

pub returns-in-Object : goal.returns-in-Object
unfolding stop_byte stop_of room_of
returns-in-Object c = simp c.in-Object.is

pub returns-in-Key : goal.returns-in-Key
unfolding stop_byte stop_of room_of
returns-in-Key c = simp c.in-Key.is

pub returns-in-Depth : goal.returns-in-Depth
unfolding stop_byte stop_of room_of
returns-in-Depth c = simp c.in-Depth.is
