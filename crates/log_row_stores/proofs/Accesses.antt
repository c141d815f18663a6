-- A plain access by the rows that the code chooses. Assumes nothing.
use Prim.Native.Nat.{ℕ, ◌+◌, ◌%◌, ◌≤◌}
use native.Mathlib.Omega.{arith}
use mathlib.Core.Path.{◌≡◌, sym, ap, subst, ◌∙◌}
use mathlib.Core.Bool.{Bool, true, false, cond}
use mathlib.Core.List.{List}
use lib.Dec.{eqb}
use Rattle.log_clocks.specs.Inner.Rows.{Row, row_at, lower_of}
use Rattle.log_rows.specs.Inner.Rows.{held_row, kept_row}
use Rattle.log_row_stores.specs.Inner.Table.{Keeps, Accessed, late, kept}

-- the rows are of the place
first_or_second : (d : Bool) (a b most : ℕ) → a ≤ most → b ≤ most → cond d a b ≤ most
first_or_second true a b most h k = h
first_or_second false a b most h k = k

pub held_within : (k at x : ℕ) → x ≡ held_row k at → x ≤ at + 2
held_within k at x e = subst (λ (y : ℕ). y ≤ at + 2) (sym e) (first_or_second (eqb (k % 8) 3) (at + 1) (at + 2) (at + 2) (omega arith) (omega arith))

pub kept_within : (k at x : ℕ) → x ≡ kept_row k at → x ≤ at + 2
kept_within k at x e = subst (λ (y : ℕ). y ≤ at + 2) (sym e) (first_or_second (eqb (k % 8) 3) (at + 2) (at + 1) (at + 2) (omega arith) (omega arith))

module _ (k t at time held : ℕ) (rows : List Row) (is_held_lem : held ≡ held_row k at) (found : Bool)
    (lower-is : found ≡ lower_of 8 (row_at rows t) (row_at rows held)) where
  test : (b : Bool) → b ≡ found → lower_of 8 (row_at rows t) (row_at rows (held_row k at)) ≡ b
  test b e = ap (λ (x : ℕ). lower_of 8 (row_at rows t) (row_at rows x)) (sym is_held_lem) ∙ sym lower-is ∙ sym e

  pub late_by : true ≡ found → Accessed k t at time rows rows true
  late_by e = late (test true e)

  pub kept_in : false ≡ found → {between after : List Row} → Keeps (at + 1) t time rows between → (also : ℕ) → also ≡ kept_row k at → Keeps also t time
      between after
      → Accessed k t at time rows after false
  kept_in e {between} {after} K also is-kept L = kept (test false e) K (subst (λ (q : ℕ). Keeps q t time between after) is-kept L)
