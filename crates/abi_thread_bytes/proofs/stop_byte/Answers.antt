-- `abi_thread_bytes::stop_byte` meets its contract: the byte of each stop. Assumes nothing.
use mathlib.Core.Path.{ap, sym, ◌∙◌}
use Rattle.run_outcome.specs.declared.Stop.{Stop}
use Rattle.play.specs.Answer.{stop_of}
use Rattle.abi_thread_bytes.specs.Bytes.{stop_byte}
use borrow.Author.Rules.{rules}
use Rattle.abi_thread_bytes.proofs.stop_byte.Goals as goal

pub returns-in-End : goal.returns-in-End
unfolding stop_byte stop_of
returns-in-End c = simp c.in-End.is

pub returns-in-Race : goal.returns-in-Race
unfolding stop_byte stop_of
returns-in-Race c = simp c.in-Race.is

pub returns-in-NoRoom : goal.returns-in-NoRoom
returns-in-NoRoom c = c.room_byte.ensures ∙ sym (ap (λ (s : Stop). stop_byte (stop_of s)) c.in-NoRoom.is)
