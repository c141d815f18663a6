-- Ports and their rows, by the numbers of their places. Assumes nothing.
use Prim.Native.Nat.{ℕ, ◌+◌, ◌*◌, ◌<◌}
use native.Mathlib.Omega.{arith}
use mathlib.Core.Path.{◌≡◌, ap}
use mathlib.Core.List.{List}
use lib.ListN.{get_or}
use Rattle.log_order.proofs.Ports.{Port, of_thread, of_monitor, of_volatile, of_accesses, of_writes}
use Rattle.log_rows.specs.Inner.Rows.{place_row}
use Rattle.judge.proofs.PlaceNumbers.{Places}

-- the row of a port; a monitor's place has field 0
abbrev pub row_of : List ℕ → Port → ℕ
row_of N (of_thread q) = q
row_of N (of_monitor o) = place_row (get_or N (o * 32 + 0) 0)
row_of N (of_volatile o f) = place_row (get_or N (o * 32 + f) 0)
row_of N (of_accesses o f) = place_row (get_or N (o * 32 + f) 0) + 1
row_of N (of_writes o f) = place_row (get_or N (o * 32 + f) 0) + 2

abbrev pub Valid : Port → Type 0
Valid (of_thread q) = q < 8
Valid (of_monitor o) = o < 32
Valid (of_volatile o f) = (o < 32) × (f < 32) × (0 < f)
Valid (of_accesses o f) = (o < 32) × (f < 32)
Valid (of_writes o f) = (o < 32) × (f < 32)

-- a thread, or a port of a place that has a number
abbrev pub HasRow : List ℕ → Port → Type 0
HasRow N (of_thread q) = Unit {0}
HasRow N (of_monitor o) = 0 < get_or N (o * 32 + 0) 0
HasRow N (of_volatile o f) = 0 < get_or N (o * 32 + f) 0
HasRow N (of_accesses o f) = 0 < get_or N (o * 32 + f) 0
HasRow N (of_writes o f) = 0 < get_or N (o * 32 + f) 0

-- it has its row alone
module _ (N : List ℕ) (given : ℕ) (P : Places N given) where
  place_once : (a b c d : ℕ) → a < 32 → b < 32 → c < 32 → d < 32 → get_or N (a * 32 + c) 0 ≡ get_or N (b * 32 + d) 0 → 0 < get_or N (b * 32 + d) 0 → (a ≡ b) × (c ≡ d)
  place_once a b c d ha hb hc hd e h = let s : a * 32 + c ≡ b * 32 + d = P.once (a * 32 + c) (b * 32 + d) (omega arith) (omega arith) e h in
      (omega arith, omega arith)

  pub row_once : (p q : Port) → Valid p → Valid q → HasRow N q → row_of N p ≡ row_of N q → p ≡ q
  row_once (of_thread a) (of_thread b) x y h e = ap of_thread e
  row_once (of_thread a) (of_monitor b) x y h e = absurd (omega arith)
  row_once (of_thread a) (of_volatile b d) x y h e = absurd (omega arith)
  row_once (of_thread a) (of_accesses b d) x y h e = absurd (omega arith)
  row_once (of_thread a) (of_writes b d) x y h e = absurd (omega arith)
  row_once (of_monitor a) (of_thread b) x y h e = absurd (omega arith)
  row_once (of_monitor a) (of_monitor b) x y h e = ap of_monitor (place_once a b 0 0 x y (omega arith) (omega arith) (omega arith) h).0
  row_once (of_monitor a) (of_volatile b d) x y h e = let s = (place_once a b 0 d x y.0 (omega arith) y.1 (omega arith) h).1 in let k =
      y.2 in absurd (omega arith)
  row_once (of_monitor a) (of_accesses b d) x y h e = absurd (omega arith)
  row_once (of_monitor a) (of_writes b d) x y h e = absurd (omega arith)
  row_once (of_volatile a c) (of_thread b) x y h e = absurd (omega arith)
  row_once (of_volatile a c) (of_monitor b) x y h e = let s = (place_once a b c 0 x.0 y x.1 (omega arith) (omega arith) h).1 in let k =
      x.2 in absurd (omega arith)
  row_once (of_volatile a c) (of_volatile b d) x y h e = let s = place_once a b c d x.0 y.0 x.1 y.1 (omega arith) h in rw (s.0, s.1)
  row_once (of_volatile a c) (of_accesses b d) x y h e = absurd (omega arith)
  row_once (of_volatile a c) (of_writes b d) x y h e = absurd (omega arith)
  row_once (of_accesses a c) (of_thread b) x y h e = absurd (omega arith)
  row_once (of_accesses a c) (of_monitor b) x y h e = absurd (omega arith)
  row_once (of_accesses a c) (of_volatile b d) x y h e = absurd (omega arith)
  row_once (of_accesses a c) (of_accesses b d) x y h e = let s = place_once a b c d x.0 y.0 x.1 y.1 (omega arith) h in rw (s.0, s.1)
  row_once (of_accesses a c) (of_writes b d) x y h e = absurd (omega arith)
  row_once (of_writes a c) (of_thread b) x y h e = absurd (omega arith)
  row_once (of_writes a c) (of_monitor b) x y h e = absurd (omega arith)
  row_once (of_writes a c) (of_volatile b d) x y h e = absurd (omega arith)
  row_once (of_writes a c) (of_accesses b d) x y h e = absurd (omega arith)
  row_once (of_writes a c) (of_writes b d) x y h e = let s = place_once a b c d x.0 y.0 x.1 y.1 (omega arith) h in rw (s.0, s.1)
