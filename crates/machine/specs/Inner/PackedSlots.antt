-- The abstract machine; no reader of the entries' promises needs it. Slots in one number, five bits to a slot, slot 0 lowest. Assumes nothing.
use Rattle.std.specs.Prelude.{ℕ, ◌+◌, ◌-◌, ◌*◌, ◌/◌, ◌%◌, ◌^◌}
use Rattle.machine.specs.Inner.Frames.{Slots}

-- the slots that a number holds
unfoldable pub slots_in : ℕ → Slots
slots_in w x = w / 2 ^ (5 * x) % 32

-- the number with v in slot x
unfoldable pub put_in : ℕ → ℕ → ℕ → ℕ
put_in w x v = w - w / 2 ^ (5 * x) % 32 * 2 ^ (5 * x) + v * 2 ^ (5 * x)
