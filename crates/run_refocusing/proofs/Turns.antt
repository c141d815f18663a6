-- How refocusing goes on, ends, and runs out of steps. Assumes nothing.
use mathlib.Core.Path.{◌≡◌}
use mathlib.Core.Bool.{true, false}
use mathlib.Core.List.{List}
use Prim.Native.Nat.{ℕ, zero, suc, ◌-◌, ◌<◌}
use native.Mathlib.Omega.{arith}
use Rattle.run_frames.specs.declared.refocusing.Refocusing.{Refocusing}
use Rattle.run_frames.specs.Inner.Going.{go_full}
use Rattle.run_refocusing.specs.Inner.Refocusing.{live_of, Stack, ended, stored, turn_at, refocus_of}

pub goes : (n : ℕ) (ws rs : List ℕ) (base : ℕ) (k : Stack) (g : Refocusing) (d : ℕ) → 0 < n → live_of g ≡ true
    → refocus_of n ws rs base k g d ≡ refocus_of (n - 1) ws rs base (stored k base (turn_at ws rs base k g d)) (turn_at ws rs base k g d).go
    (turn_at ws rs base k g d).depth
unfolding refocus_of
goes zero ws rs base k g d h e = absurd (omega arith)
goes (suc n) ws rs base k g d h e = let q : suc n - 1 ≡ n = omega arith in rw (q, e)

pub halts : (n : ℕ) (ws rs : List ℕ) (base : ℕ) (k : Stack) (g : Refocusing) (d : ℕ) → 0 < n → live_of g ≡ false → refocus_of n ws rs base k g d ≡ ended k g d
unfolding refocus_of
halts zero ws rs base k g d h e = absurd (omega arith)
halts (suc n) ws rs base k g d h e = rw e

pub spent : (n : ℕ) (ws rs : List ℕ) (base : ℕ) (k : Stack) (g : Refocusing) (d : ℕ) → n ≡ 0 → refocus_of n ws rs base k g d ≡ ended k go_full d
unfolding refocus_of
spent n ws rs base k g d e = rw e
