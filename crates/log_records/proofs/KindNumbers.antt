-- Kinds and their numbers, 1 to 11. Assumes nothing.
use Prim.Native.Nat.{ℕ, ◌≤◌, ◌<◌}
use native.Mathlib.Omega.{arith}
use mathlib.Core.Path.{◌≡◌, refl}
use lib.Dec.{leb}
use Rattle.format.proofs.Ranges.{EachOf, by_range}
use Rattle.log_records.specs.Record.{Kind, new, read, write, readv, writev, acquire, release, fork, join, lacks_read, lacks_write, kind_number, lacks_key}
use Rattle.log_records.specs.Packed.{kind_of}

-- what holds of each number of a kind
pub by_kind : (P : ℕ → Type 0) → EachOf P 1 11 ((k : ℕ) → 0 < k → k ≤ 11 → P k)
by_kind P = by_range P 1 11 _ (λ all k p q. all k (omega arith) (omega arith))

-- a kind's number is 1 to 11
pub kind_number_lem : (k : Kind) → (0 < kind_number k) × (kind_number k < 12)
kind_number_lem new = omega arith
kind_number_lem read = omega arith
kind_number_lem write = omega arith
kind_number_lem readv = omega arith
kind_number_lem writev = omega arith
kind_number_lem acquire = omega arith
kind_number_lem release = omega arith
kind_number_lem fork = omega arith
kind_number_lem join = omega arith
kind_number_lem lacks_read = omega arith
kind_number_lem lacks_write = omega arith

-- a kind is read back from its number
pub kind_back : (k : Kind) → kind_of (kind_number k) ≡ k
unfolding kind_of
kind_back new = refl
kind_back read = refl
kind_back write = refl
kind_back readv = refl
kind_back writev = refl
kind_back acquire = refl
kind_back release = refl
kind_back fork = refl
kind_back join = refl
kind_back lacks_read = refl
kind_back lacks_write = refl

-- the kinds that lack a key are 10 and 11
pub kind_lacks : (k : Kind) → leb 10 (kind_number k) ≡ lacks_key k
kind_lacks new = refl
kind_lacks read = refl
kind_lacks write = refl
kind_lacks readv = refl
kind_lacks writev = refl
kind_lacks acquire = refl
kind_lacks release = refl
kind_lacks fork = refl
kind_lacks join = refl
kind_lacks lacks_read = refl
kind_lacks lacks_write = refl

-- and a number from its kind
pub number_back : (n : ℕ) → 0 < n → n ≤ 11 → kind_number (kind_of n) ≡ n
unfolding kind_of
number_back = by_kind (λ n. kind_number (kind_of n) ≡ n) refl refl refl refl refl refl refl refl refl refl refl
