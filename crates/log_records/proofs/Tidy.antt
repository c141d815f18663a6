-- Tidy records: their columns fit their bits and hold what their kind allows. Assumes nothing.
use Prim.Native.Nat.{ℕ, zero, suc, ◌<◌}
use mathlib.Core.Path.{◌≡◌, refl, subst}
use mathlib.Core.Bool.{false}
use mathlib.Core.List.{List, [], ◌∷◌}
use mathlib.Core.Option.{some, none-ne-some, some-injective}
use lib.Dec.{T}
use lib.ListN.{length, get_elem?}
use Rattle.log_records.specs.Record.{Record, lacks_key}
use Rattle.log_records.specs.Refusals.{wrong_columns}

-- ---- tidy records

-- the columns have room for what stands in them, and hold what the kind allows
pub record Tidy (r : Record) : Type 0 where
  pub thread_below : r.thread < 8
  pub object_below : r.object < 32
  pub field_below : r.field < 32
  pub value_below : r.value < 32
  pub columns : wrong_columns r.kind r.field r.value ≡ false

-- every record of a log
abbrev pub AllTidy : List Record → Type 0
AllTidy [] = Unit {0}
AllTidy (r ∷ L) = Tidy r × AllTidy L

-- only the last record of a log may lack its key
abbrev pub LacksLast : List Record → Type 0
LacksLast L = (i : ℕ) (r : Record) → get_elem? L i ≡ some r → T (lacks_key r.kind) → suc i ≡ length L

-- record i of tidy records is tidy
pub tidy_at : (L : List Record) → AllTidy L → (i : ℕ) (r : Record) → get_elem? L i ≡ some r → Tidy r
tidy_at [] h i r e = absurd (none-ne-some r e)
tidy_at (s ∷ L) h zero r e = subst Tidy (some-injective s r e) h.0
tidy_at (s ∷ L) h (suc i) r e = tidy_at L h.1 i r e

pub all_tidy : (L : List Record) → ((i : ℕ) (r : Record) → get_elem? L i ≡ some r → Tidy r) → AllTidy L
all_tidy [] h = tt
all_tidy (r ∷ L) h = (h 0 r refl, all_tidy L (λ i. h (suc i)))
