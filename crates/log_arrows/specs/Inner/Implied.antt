-- The arrows that are needed, by what each record has heard. For inner contracts; no reader of the entries' promise needs it. Assumes nothing.
use Rattle.std.specs.Prelude.{ℕ, zero, suc, ◌+◌, ◌-◌, ◌<◌, ◌≤◌, ◌≡◌, Bool, false, not, ◌&&◌, ◌||◌, cond, List, [], ◌∷◌, ◌++◌, eqb, ltb, leb, length}
use Rattle.log_records.specs.Packed.{record_at}
use Rattle.log_clocks.specs.Inner.Rows.{Row, clock_of, row_at}
use Rattle.log_arrows.specs.Arrows.{pairs}

-- what record j has heard of thread u, by the rows of the records
abbrev pub heard_in : List Row → ℕ → ℕ → ℕ
heard_in rows j u = clock_of (row_at rows j) u

-- record j has a row, and has heard of earlier records alone
pub record Earlier (rows : List Row) (j : ℕ) : Type 0 where
  pub inside : j < length rows
  pub most : (u : ℕ) → u < 8 → heard_in rows j u ≤ j

-- h j u is 1 more than the index of the newest record of thread u that record j has heard of, or 0. The newest of another thread w has heard of that record.
abbrev pub implied_by : (h : ℕ → ℕ → ℕ) (j u w : ℕ) → Bool
implied_by h j u w = not (eqb w u) && ltb 0 (h j w) && leb (h j u) (h (h j w - 1) u)

-- one of the first n threads is such a w
unfoldable pub implied : (h : ℕ → ℕ → ℕ) (j u n : ℕ) → Bool
implied h j u zero = false
implied h j u (suc n) = implied h j u n || implied_by h j u n

-- the arrow from the newest record of thread u to record j of thread t is needed
unfoldable pub is_needed : (h : ℕ → ℕ → ℕ) (t j u : ℕ) → Bool
unfolding implied
is_needed h t j u = not (eqb u t) && ltb 0 (h j u) && not (implied h j u 8)

-- the needed arrows to record j of thread t from the first n threads
unfoldable pub arrows_to : (h : ℕ → ℕ → ℕ) (t j n : ℕ) → List (ℕ × ℕ)
unfolding is_needed
arrows_to h t j zero = []
arrows_to h t j (suc n) = arrows_to h t j n ++ cond (is_needed h t j n) ((h j n - 1, j) ∷ []) []

-- the needed arrows to the first n records, of which record j is of thread t j
unfoldable pub arrows_below : (h : ℕ → ℕ → ℕ) (t : ℕ → ℕ) (n : ℕ) → List (ℕ × ℕ)
unfolding arrows_to
arrows_below h t zero = []
arrows_below h t (suc n) = arrows_below h t n ++ arrows_to h (t n) n 8

-- the thread of record j of a log in bytes
abbrev pub thread_at : List ℕ → ℕ → ℕ
thread_at b j = (record_at b j).thread

-- from two areas that hold n arrows to two that hold m: what is added are the needed arrows to record j of thread t from the first u threads
pub record Added (h : ℕ → ℕ → ℕ) (t j u n : ℕ) (from to : List ℕ) (m : ℕ) (from' to' : List ℕ) : Type 0 where
  pub all : pairs m from' to' ≡ pairs n from to ++ arrows_to h t j u
  pub most : m ≤ n + u
  pub one_less : t < u → m < n + u
