-- Check 7: the span of terms falls, and what two answers come to. Assumes nothing.
use mathlib.Core.Path.{◌≡◌, refl}
use mathlib.Core.Bool.{Bool, true, false, ◌&&◌}
use Prim.Native.Nat.{ℕ, ◌+◌, ◌-◌, ◌*◌, ◌%◌, ◌≤◌, ◌<◌}
use native.Mathlib.Omega.{arith}

pub and_true : (x y : Bool) → x ≡ true → (x && y) ≡ y
and_true x y h = rw h

pub and_false : (x y : Bool) → x ≡ false → (x && y) ≡ false
and_false x y h = rw h

pub and_swap : (x y : Bool) → y ≡ true → (x && y) ≡ x
and_swap true y h = h
and_swap false y h = refl

pub and_no : (x y : Bool) → y ≡ false → (x && y) ≡ false
and_no true y h = h
and_no false y h = refl

-- ---- the span of terms falls

pub mod_below : (v : ℕ) → v % 1024 < 1024
mod_below v = omega arith

pub apart : (s t x : ℕ) → 3 * (1024 - t) ≡ s → t < x → x < 1024 → 3 * (1024 - x) + 2 < s
apart s t x e h k = omega arith

pub inside : (s t x : ℕ) → 3 * (1024 - t) ≡ s → t < x → x < 1024 → 3 * (1024 - x) + 1 < s
inside s t x e h k = omega arith

pub beyond : (s f t x : ℕ) → 3 * (1024 - f) + 1 ≡ s → f ≤ t → t < x → x < 1024 → 3 * (1024 - x) + 1 < s
beyond s f t x e g h k = omega arith

pub here : (s f t : ℕ) → 3 * (1024 - f) + 1 ≡ s → f ≤ t → 3 * (1024 - t) < s
here s f t e h = omega arith

pub just : (s x : ℕ) → 3 * (1024 - x) + 2 ≡ s → 3 * (1024 - x) + 1 < s
just s x e = omega arith

-- ---- answers

pub and_three : (c e e' : Bool) → c ≡ true → (e && e') ≡ ((c && e) && e')
and_three c e e' h = rw h

pub and_none : (c e e' : Bool) → c ≡ false → false ≡ ((c && e) && e')
and_none c e e' h = rw h
