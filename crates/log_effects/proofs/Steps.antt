-- A record's step by the kind, the thread and the row that the code has computed. Assumes nothing.
use Prim.Native.Nat.{ℕ, ◌+◌, ◌≤◌}
use native.Mathlib.Omega.{arith}
use mathlib.Core.Path.{◌≡◌, subst}
use mathlib.Core.Bool.{Bool, false}
use mathlib.Core.List.{List}
use Rattle.std.proofs.Common.{Result, Ok, Err, IsErr}
use lib.ListN.{get_or}
use Rattle.log_records.specs.Packed.{kind_at}
use Rattle.log_clocks.specs.Inner.Rows.{Row}
use Rattle.log_places.specs.declared.places.NoneLeft.{NoneLeft}
use Rattle.log_places.specs.Inner.Places.{thread_at, place_at, Numbered, known, next}
use Rattle.log_rows.specs.Inner.Rows.{place_row, is_access, passes}
use Rattle.log_row_stores.specs.Inner.Table.{Told}
use Rattle.log_effects.specs.Inner.Step.{field_at, PlacedStep, OtherStep, forks, joins, Stepped, placed, unplaced, none_left}

-- a place's number is one of those that there are
pub number_most : {N : List ℕ} {given p : ℕ} {N' : List ℕ} {given' most n : ℕ} → Numbered N given p most N' given' (Ok n)
    → ((q : ℕ) → get_or N q 0 ≤ most) → n ≤ most
number_most {p = p} (known k) h = h p
number_most (next k l) h = omega arith

-- the same of a place, of a thread that a fork or a join names
pub numbered_at : {N N' : List ℕ} {given given' p q most : ℕ} {number : Result ℕ NoneLeft} → p ≡ q → Numbered N given p most N' given' number
    → Numbered N given q most N' given' number
numbered_at {N} {N'} {given} {given'} {most = most} {number = number} e P = subst (λ (x : ℕ). Numbered N given x most N' given' number) e P

pub forks_by : {k t f g time : ℕ} {rows after : List Row} → f ≡ g → k ≡ 8 → Told f t time rows after → OtherStep k t g time rows after
forks_by {t = t} {time = time} {rows = rows} {after = after} e h K = forks h (subst (λ (x : ℕ). Told x t time rows after) e K)

pub joins_by : {k t f g time : ℕ} {rows after : List Row} → f ≡ g → k ≡ 9 → Told t f time rows after → OtherStep k t g time rows after
joins_by {t = t} {time = time} {rows = rows} {after = after} e h K = joins h (subst (λ (x : ℕ). Told t x time rows after) e K)

-- no number is left for its place
pub none_by : {b : List ℕ} {i read write most : ℕ} {N : List ℕ} {given : ℕ} {rows : List Row} {N' : List ℕ} {given' : ℕ} {e : NoneLeft}
    (r : Result Bool NoneLeft) → IsErr r → Numbered N given (place_at b i) most N' given' (Err e) → Stepped b i read write most N given rows N' given' rows r
none_by (Err e) h P = none_left P
none_by (Ok d) h P = cc

module _ {b : List ℕ} {i read write most : ℕ} {N : List ℕ} {given : ℕ} {rows : List Row} (k t : ℕ) (kind_is : k ≡ kind_at b i)
    (thread_is : t ≡ thread_at b i) where
  -- at a place
  pub placed_by : {N' : List ℕ} {given' n at : ℕ} {after : List Row} {c d : Bool} → Numbered N given (place_at b i) most N' given' (Ok n)
      → at ≡ place_row n → c ≡ d → PlacedStep read write k t at (i + 1) rows after c → Stepped b i read write most N given rows N' given' after (Ok d)
  placed_by {n = n} {at = at} {after = after} {c = c} {d = d} P at_is e S =
      placed P
      (subst (λ (x : ℕ). PlacedStep read write x (thread_at b i) (place_row n) (i + 1) rows after d) kind_is
      (subst (λ (x : ℕ). PlacedStep read write k x (place_row n) (i + 1) rows after d) thread_is
      (subst (λ (x : ℕ). PlacedStep read write k t x (i + 1) rows after d) at_is
      (subst (λ (x : Bool). PlacedStep read write k t at (i + 1) rows after x) e S))))

  -- at no place
  pub unplaced_by : {after : List Row} → is_access k ≡ false → passes 6 read k ≡ false → passes 7 write k ≡ false
      → OtherStep k t (field_at b i) (i + 1) rows after → Stepped b i read write most N given rows N given after (Ok false)
  unplaced_by {after = after} a h g S =
      unplaced (subst (λ (x : ℕ). is_access x ≡ false) kind_is a) (subst (λ (x : ℕ). passes 6 read x ≡ false) kind_is h)
      (subst (λ (x : ℕ). passes 7 write x ≡ false) kind_is g)
      (subst (λ (x : ℕ). OtherStep x (thread_at b i) (field_at b i) (i + 1) rows after) kind_is
      (subst (λ (x : ℕ). OtherStep k x (field_at b i) (i + 1) rows after) thread_is S))
