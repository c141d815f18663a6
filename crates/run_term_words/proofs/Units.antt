-- What one in a slot is worth, and that what a slot holds is within the whole. Assumes nothing.
use mathlib.Core.Path.{◌≡◌}
use Prim.Native.Nat.{ℕ, ◌*◌, ◌/◌, ◌%◌, ◌^◌, ◌≤◌, ◌<◌}
use native.Mathlib.Nat.{one-mul, mod-eq_of_lt, mul-le-mul_right, div-mul-le_self, mod-le, le_trans}
use native.Mathlib.Omega.{arith}
use lib.Pow.{pow-lt}

pub one_shl : (x : ℕ) → x < 8 → (1 * 2 ^ (x * 5)) % 2 ^ 64 ≡ 2 ^ (x * 5)
one_shl x h = rw one-mul (mod-eq_of_lt (pow-lt {i = x * 5} {j = 64} (omega arith)))

pub unit_lt : (x : ℕ) → x < 8 → 2 ^ (x * 5) < 2 ^ 36
unit_lt x h = pow-lt {i = x * 5} {j = 36} (omega arith)

pub held_le : (e u : ℕ) → e / u % 32 * u ≤ e
held_le e u = le_trans (mul-le-mul_right u (mod-le (e / u) 32)) (div-mul-le_self e u)

pub new_le : (v u : ℕ) → v % 32 * u ≤ 32 * u
new_le v u = mul-le-mul_right u (omega arith)
