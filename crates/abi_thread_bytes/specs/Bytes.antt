-- The bytes of a stop and of a thread's state. Assumes nothing.
use Rattle.std.specs.Prelude.{ℕ}
use Rattle.rules.specs.Step.{Wait, Stuck}
use Rattle.rules.specs.Room.{Room}
use Rattle.rules.specs.Run.{Stop, Status}
use Rattle.abi_thread_bytes.specs.declared.ThreadBytes.{ThreadBytes}

-- byte 0: 0 end, 1 race, 2 no thread, 3 no object, 4 no key, 5 no depth
unfoldable pub stop_byte : Stop → ℕ
stop_byte Stop.end = 0
stop_byte Stop.race = 1
stop_byte (Stop.no_room Room.thread) = 2
stop_byte (Stop.no_room Room.object) = 3
stop_byte (Stop.no_room Room.key) = 4
stop_byte (Stop.no_room Room.depth) = 5

-- the three that a state gives
abbrev pub three : ℕ → ℕ → ℕ → ThreadBytes
three s n f = record { state = s; named = n; field = f }

-- of a thread: 0 absent, 1 finished, 2 ready, 3 waiting for a monitor, 4 waiting for a join, 5 stuck for a missing field, 6 stuck for no thread,
-- 7 lacking, 8 waiting to be notified, 9 stuck for a monitor that it does not hold; then the value or the object; then the field; 0 where there is none.
-- 10 is a part without a rule, to which no accepted plan comes.
unfoldable pub thread_bytes : Status → ThreadBytes
thread_bytes Status.absent = three 0 0 0
thread_bytes (Status.finished v) = three 1 v 0
thread_bytes Status.ready = three 2 0 0
thread_bytes (Status.waiting (Wait.for_monitor o)) = three 3 o 0
thread_bytes (Status.waiting (Wait.for_join o)) = three 4 o 0
thread_bytes (Status.waiting (Wait.for_notify o)) = three 8 o 0
thread_bytes (Status.stuck (Stuck.missing_field o f)) = three 5 o f
thread_bytes (Status.stuck (Stuck.not_thread o)) = three 6 o 0
thread_bytes (Status.stuck (Stuck.not_held o)) = three 9 o 0
thread_bytes (Status.stuck Stuck.no_rule) = three 10 0 0
thread_bytes (Status.lacking o f) = three 7 o f
