-- A row with one clock stored. Assumes nothing.
use Prim.Native.Nat.{ℕ, ◌<◌}
use native.Mathlib.Decide.{ℕ_discrete}
use native.Mathlib.Omega.{arith}
use mathlib.Core.Path.{◌≡◌, sym}
use mathlib.Core.Bool.{cond}
use lib.Dec.{eqb}
use lib.ListN.{length, set}
use lib.Seq.{get_or-set_same, get_or-set_other}
use borrow.Author.Tests.{eq-eqb, ne_eqb}
use Rattle.log_clocks.specs.Inner.Rows.{Row, clock_of}
use Rattle.log_arrows.specs.Inner.Links.{Marked}

pub stored_mark : (row : Row) (thread mark : ℕ) → length row ≡ 8 → thread < 8 → Marked row thread mark (set row thread mark)
stored_mark row thread mark long below = record { clocks_are = λ u h. go u (ℕ_discrete u thread) }
  where
    go : (u : ℕ) → Dec (u ≡ thread) → clock_of (set row thread mark) u ≡ cond (eqb thread u) mark (clock_of row u)
    go u (yes e) = rw (eq-eqb thread u (sym e), e) (get_or-set_same row thread mark 0 (omega arith))
    go u (no n) = rw (ne_eqb thread u (λ e. n (sym e))) (get_or-set_other row thread u mark 0 n)
