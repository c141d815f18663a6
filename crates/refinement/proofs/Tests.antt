-- A test that is settled. Assumes nothing.
use mathlib.Core.Path.{◌≡◌}
use mathlib.Core.Bool.{Bool, true, false, cond}

pub test_true : {A : Type 0} (x : Bool) (a c : A) → x ≡ true → cond x a c ≡ a
test_true x a c e = rw e

pub test_false : {A : Type 0} (x : Bool) (a c : A) → x ≡ false → cond x a c ≡ c
test_false x a c e = rw e
