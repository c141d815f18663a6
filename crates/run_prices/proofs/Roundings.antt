-- What the two roundings of a price are: the least number of hundreds, and of cents. Assumes nothing.
use Prim.Native.Nat.{ℕ, ◌*◌, ◌≤◌}
use native.Mathlib.Omega.{arith}
use mathlib.Core.Path.{◌≡◌, refl}
use mathlib.Core.Bool.{true}
use Rattle.run_prices.specs.Price.{started_hundreds, risen, price}

-- "each started hundred": so many hundreds hold the moves, and one less does not
pub hundreds_hold : (n : ℕ) → n ≤ 100 * started_hundreds n
unfolding started_hundreds
hundreds_hold n = omega arith

pub hundreds_least : (n k : ℕ) → n ≤ 100 * k → started_hundreds n ≤ k
unfolding started_hundreds
hundreds_least n k h = omega arith

-- "a part of a cent counting as a whole one": so many cents are 115 percent or more, and one less is not
pub cents_hold : (sum : ℕ) → 115 * sum ≤ 100 * risen sum
unfolding risen
cents_hold sum = omega arith

pub cents_least : (sum k : ℕ) → 115 * sum ≤ 100 * k → risen sum ≤ k
unfolding risen
cents_least sum k h = omega arith

-- the most that a run can cost: 4,096 moves, with the option
pub most : price true 4096 ≡ 3031
unfolding price
most = refl

pub hundreds_few : (n : ℕ) → n ≤ 4096 → started_hundreds n ≤ 41
unfolding started_hundreds
hundreds_few n h = omega arith
