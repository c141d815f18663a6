-- What a run costs by its moves (document 02, E13). Assumes nothing.
use Rattle.std.specs.Prelude.{ℕ, ◌+◌, ◌*◌, ◌/◌, Bool, cond}

-- "each started hundred moves": the hundreds that n moves take, the last one whole or begun
unfoldable pub started_hundreds : ℕ → ℕ
started_hundreds n = (n + 99) / 100

-- "A run costs 1,200 cents and 35 for each started hundred moves"
unfoldable pub run_cost : ℕ → ℕ
unfolding started_hundreds
run_cost n = 1200 + 35 * started_hundreds n

-- "the sum rises by 15 percent, a part of a cent counting as a whole one"
unfoldable pub risen : ℕ → ℕ
risen sum = (115 * sum + 99) / 100

-- "with the one-millisecond option": what a run of n moves costs
unfoldable pub price : Bool → ℕ → ℕ
unfolding run_cost risen
price option n = cond option (risen (run_cost n)) (run_cost n)
