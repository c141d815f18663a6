-- Sets of write keys (document 001, section 4; document 01, "How a thread moves"). Assumes nothing.
use Rattle.std.specs.Prelude.{ℕ, zero, suc, ◌/◌, ◌%◌, ◌^◌, Bool, cond, ◌&&◌, not, eqb}
use Rattle.std.specs.Int.Bits.{bit_or}

-- a set as a number: key k is in it where binary digit k is 1
abbrev pub Keys : Type 0
Keys = ℕ

-- ∅
abbrev pub empty : Keys
empty = 0

-- {k}
abbrev pub singleton : ℕ → Keys
singleton k = 2 ^ k

-- k ∈ K
unfoldable pub holds : Keys → ℕ → Bool
holds K k = eqb (K / 2 ^ k % 2) 1

-- K ∪ L
unfoldable pub union : Keys → Keys → Keys
union K L = bit_or K L

-- W ⊆ K; for W = {w} this is w ∈ K
unfoldable pub subset : Keys → Keys → Bool
unfolding union
subset W K = eqb (union W K) K

-- K = ∅
unfoldable pub is_empty : Keys → Bool
is_empty K = eqb K 0

-- ---- how many keys

-- how many of the keys 0 to n - 1 pass a test
unfoldable pub count_below : (ℕ → Bool) → ℕ → ℕ
count_below h zero = 0
count_below h (suc n) = cond (h n) (suc (count_below h n)) (count_below h n)

-- |K|, of the keys 0 to 255
unfoldable pub size : Keys → ℕ
unfolding count_below
size K = count_below (holds K) 256

-- |W ∖ K|: how many keys of W are new to K
unfoldable pub count_new : Keys → Keys → ℕ
unfolding count_below
count_new W K = count_below (λ k. holds W k && not (holds K k)) 256
