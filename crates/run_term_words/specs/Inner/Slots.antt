-- Eight slots of a value 0 to 31 in one number, slot 0 lowest, for inner contracts: no reader of the entries' promises needs them. Assumes nothing.
use Rattle.std.specs.Prelude.{ℕ, ◌+◌, ◌-◌, ◌*◌, ◌/◌, ◌%◌, ◌^◌, cond, ltb}

abbrev pub unit_of : ℕ → ℕ
unit_of x = 2 ^ (x * 5)

unfoldable pub slot_of : ℕ → ℕ → ℕ
slot_of e x = cond (ltb x 8) (e / 2 ^ (x * 5) % 32) 0

abbrev pub put_of : ℕ → ℕ → ℕ → ℕ
put_of e u v = e - e / u % 32 * u + v % 32 * u

unfoldable pub bind_of : ℕ → ℕ → ℕ → ℕ
bind_of e x v = cond (ltb x 8) (put_of (e % 1099511627776) (2 ^ (x * 5)) v) e
