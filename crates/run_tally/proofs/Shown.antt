-- The record that a move is shown by, where every move is to have one and where not. Assumes nothing.
use Prim.Native.Nat.{ℕ, ◌+◌, ◌≤◌}
use native.Mathlib.Omega.{arith}
use mathlib.Core.Path.{◌≡◌, refl, sym, ap, ◌∙◌}
use mathlib.Core.Bool.{Bool, true, false}
use mathlib.Core.List.{List}
use borrow.Author.Tests.{eq-eqb, ne_eqb}
use Rattle.run_state.specs.declared.Entry.{Entry}
use Rattle.run_state.specs.Inner.Acted.{entry_of}
use Rattle.run_tally.specs.declared.Tally.{Tally}
use Rattle.run_tally.specs.Inner.Tally.{records_after, shown_entry, tally_put, log_put}

pub made : (every : Bool) (e : Entry) → every ≡ true → e.kind ≡ 0 → shown_entry every e ≡ entry_of 1 0 0 0
made every e a b = rw (a, eq-eqb e.kind 0 b)

pub kept : (every : Bool) (e : Entry) → (e.kind ≡ 0 → ⊥) → shown_entry every e ≡ e
kept true e b = rw (ne_eqb e.kind 0 b)
kept false e b = refl

-- a move that is not shown changes nothing
pub not_counted : (t : Tally) (every : Bool) (e : Entry) → every ≡ false → e.kind ≡ 0 → t ≡ tally_put t (shown_entry every e)
unfolding records_after
not_counted t every e a b = rw (a, eq-eqb e.kind 0 b) refl

pub not_written : (l : List ℕ) (n p : ℕ) (every : Bool) (e : Entry) → every ≡ false → e.kind ≡ 0 → l ≡ log_put l n p (shown_entry every e)
unfolding log_put
not_written l n p every e a b = rw (a, eq-eqb e.kind 0 b)
