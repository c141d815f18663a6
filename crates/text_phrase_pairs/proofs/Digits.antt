-- How many digits a number of 64 bits has. Assumes nothing.
use Prim.Native.Nat.{ℕ, ◌<◌, ◌≤◌}
use native.Mathlib.Omega.{arith}
use lib.ListN.{length}
use Rattle.text.specs.Text.{decimal}
use Rattle.text.proofs.Decimals.{few_digits}

pub wide_digits : (n : ℕ) → n < 18446744073709551616 → length (decimal n) ≤ 20
wide_digits n h = few_digits 19 n (omega arith)
