-- Plain accesses by the number of their kind, which a test looks for in two runs. Assumes nothing.
use Prim.Native.Nat.{ℕ, ◌<◌, ◌≤◌}
use native.Mathlib.Omega.{arith}
use mathlib.Core.Path.{◌≡◌, refl}
use mathlib.Core.Bool.{Bool, true, false}
use Rattle.format.proofs.Ranges.{by_range}
use Rattle.log_records.specs.Record.{is_plain}
use Rattle.log_records.specs.Packed.{kind_of}

abbrev IsPlain : Bool → ℕ → Type 0
IsPlain t k = t ≡ is_plain (kind_of k)

pub below_read : (k : ℕ) → k < 2 → false ≡ is_plain (kind_of k)
unfolding kind_of
below_read = by_range (IsPlain false) 0 2 ((k : ℕ) → k < 2 → IsPlain false k) (λ all k h. all k (omega arith) h) refl refl

pub read_or_write : (k : ℕ) → 2 ≤ k → k ≤ 3 → true ≡ is_plain (kind_of k)
unfolding kind_of
read_or_write = by_range (IsPlain true) 2 2 ((k : ℕ) → 2 ≤ k → k ≤ 3 → IsPlain true k) (λ all k g h. all k g (omega arith)) refl refl

pub between : (k : ℕ) → 3 < k → k < 10 → false ≡ is_plain (kind_of k)
unfolding kind_of
between =
    by_range (IsPlain false) 4 6 ((k : ℕ) → 3 < k → k < 10 → IsPlain false k) (λ all k g h. all k (omega arith) h)
    refl refl refl refl refl refl

pub lacks_read_or_write : (k : ℕ) → 10 ≤ k → k ≤ 11 → true ≡ is_plain (kind_of k)
unfolding kind_of
lacks_read_or_write = by_range (IsPlain true) 10 2 ((k : ℕ) → 10 ≤ k → k ≤ 11 → IsPlain true k) (λ all k g h. all k g (omega arith)) refl refl

pub above : (k : ℕ) → 11 < k → k < 16 → false ≡ is_plain (kind_of k)
unfolding kind_of
above = by_range (IsPlain false) 12 4 ((k : ℕ) → 11 < k → k < 16 → IsPlain false k) (λ all k g h. all k (omega arith) h) refl refl refl refl
