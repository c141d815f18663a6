-- How the values that come next in a call's list are taken, with n steps left. Assumes nothing.
use mathlib.Core.Path.{◌≡◌, refl}
use mathlib.Core.Bool.{Bool, true, false, cond}
use mathlib.Core.List.{List}
use Prim.Native.Nat.{ℕ, zero, suc, ◌+◌, ◌-◌, ◌<◌, ◌≤◌}
use native.Mathlib.Omega.{arith}
use borrow.Author.Tests.{lt-ltb, le-ltb}
use lib.Dec.{ltb}
use Rattle.run_frames.specs.declared.frame.Frame.{Frame}
use Rattle.run_refocusing_step.specs.declared.Gathered.{Gathered}
use Rattle.run_refocusing_step.specs.Inner.Ahead.{next_in, taken_of, gathered_of}

pub takes : (n : ℕ) (ws : List ℕ) (f : Frame) → 1 < n → next_in ws f < 32 → gathered_of (n - 1) ws f ≡ gathered_of (n - 1 - 1) ws (taken_of ws f)
unfolding gathered_of
takes zero ws f h l = absurd (omega arith)
takes (suc zero) ws f h l = absurd (omega arith)
takes (suc (suc n)) ws f h l =
    let q : suc (suc n) - 1 ≡ suc n = omega arith in
    let r : suc n - 1 ≡ n = omega arith in rw (q, r, lt-ltb _ _ l)

pub stops : (n : ℕ) (ws : List ℕ) (f : Frame) → 0 < n → 32 ≤ next_in ws f → gathered_of (n - 1) ws f ≡ record { left = n; frame = f }
unfolding gathered_of
stops zero ws f h l = absurd (omega arith)
stops (suc zero) ws f h l = refl
stops (suc (suc n)) ws f h l =
    let q : suc (suc n) - 1 ≡ suc n = omega arith in
    let r : suc n + 1 ≡ suc (suc n) = omega arith in rw (q, le-ltb _ _ l, r)

pub spent : (n : ℕ) (ws : List ℕ) (f : Frame) → n ≡ 1 → gathered_of (n - 1) ws f ≡ record { left = n; frame = f }
unfolding gathered_of
spent n ws f e = rw e

either : (n : ℕ) (b : Bool) (x y : Gathered) → (0 < x.left) × (x.left ≤ n) → (0 < y.left) × (y.left ≤ n)
    → (0 < (cond b x y).left) × ((cond b x y).left ≤ n)
either n true x y h k = h
either n false x y h k = k

-- a step is left, and no more than there were
pub within : (n : ℕ) (ws : List ℕ) (f : Frame) → (0 < (gathered_of n ws f).left) × ((gathered_of n ws f).left ≤ n + 1)
unfolding gathered_of
within zero ws f = (omega arith, omega arith)
within (suc n) ws f =
    let r = within n ws (taken_of ws f) in
    either (suc n + 1) (ltb (next_in ws f) 32) _ _ (r.0, omega (arith, r.1)) (omega arith, omega arith)
