-- The words of kinds. Assumes nothing.
use Prim.Native.Nat.{ℕ, ◌-◌, ◌<◌, ◌≤◌}
use native.Mathlib.Omega.{arith}
use mathlib.Core.Path.{◌≡◌, refl, sym, ap}
use mathlib.Core.Bool.{Bool, true, false}
use lib.Dec.{ltb}
use lib.ListN.{length, get_or, get_or-eq_default}
use borrow.Author.Tests.{ltb-true, ltb-false}
use Rattle.log_records.specs.Record.{Kind, new, read, write, readv, writev, acquire, release, fork, join, lacks_read, lacks_write}
use Rattle.log_records.specs.Packed.{kinds, kind_of}
use Rattle.text.specs.Text.{ascii}
use Rattle.text_record_lines.specs.Lines.{kind_word}

pub kind_is : (k n : ℕ) → k ≡ n → kind_word (kind_of n) ≡ kind_word (kind_of k)
kind_is k n e = ap (λ (x : ℕ). kind_word (kind_of x)) (sym e)

-- a number that is none of 2 to 11
other_by : (k : ℕ) (over past : Bool) → ltb 1 k ≡ over → ltb k 12 ≡ past → (1 < k → k < 12 → ⊥) → kind_of k ≡ new
unfolding kind_of kinds
other_by k false past e g h = ap (λ (i : ℕ). get_or kinds i new) (let z : k - 1 ≡ 0 = omega (arith, ltb-false 1 k e) in z)
other_by k true true e g h = absurd (h (ltb-true 1 k e) (ltb-true k 12 g))
other_by k true false e g h = get_or-eq_default kinds new {n = k - 1} (omega (arith, ltb-false k 12 g))

pub other_kind : (k : ℕ) → (1 < k → k < 12 → ⊥) → kind_word new ≡ kind_word (kind_of k)
other_kind k h = ap kind_word (sym (other_by k (ltb 1 k) (ltb k 12) refl refl h))

-- each of 2 to 5 shut out, from the last to the first, and 6 to 11
pub no_access : (k : ℕ) → (5 < k → 11 < k) → (k ≡ 5 → ⊥) → (k ≡ 4 → ⊥) → (k ≡ 3 → ⊥) → (k ≡ 2 → ⊥) → 1 < k → k < 12 → ⊥
no_access k far a b c d h g =
    let more : 5 < k = omega arith in
    let past : 11 < k = far more in
    omega arith

pub kind_short : (k : Kind) → length (kind_word k) ≤ 11
unfolding kind_word ascii
kind_short new = omega arith
kind_short read = omega arith
kind_short write = omega arith
kind_short readv = omega arith
kind_short writev = omega arith
kind_short acquire = omega arith
kind_short release = omega arith
kind_short fork = omega arith
kind_short join = omega arith
kind_short lacks_read = omega arith
kind_short lacks_write = omega arith
