-- The refusal of a log, by the tests of refusals 11 and 12. Assumes nothing.
use Prim.Native.Nat.{ℕ, ◌/◌, ◌<◌, ◌≤◌}
use native.Mathlib.Omega.{arith}
use mathlib.Core.Path.{◌≡◌, sym}
use mathlib.Core.Bool.{true, false}
use mathlib.Core.List.{List}
use mathlib.Core.Option.{some, none}
use lib.ListN.{length}
use Rattle.format.specs.Inner.Lowest.{Lowest}
use Rattle.format.proofs.RefusalLaws.{here, later, and_then, none_left, some_is_first, none_is_pass}
use Rattle.log_records.specs.Packed.{record_count}
use Rattle.log_records.specs.Refusals.{wrong_log_length, wrong_record, log_checks, log_refusal}

pub refused_length : (b : List ℕ) → true ≡ wrong_log_length b → log_refusal b ≡ some (record { number = 11; place = 0 })
unfolding log_refusal log_checks
refused_length b e = (some_is_first (log_checks b) _).1 (here (record { inside = omega arith; is_wrong = sym e; is_lowest = λ j h. absurd (omega arith) }))

pub refused_record : (b : List ℕ) (r : ℕ) → false ≡ wrong_log_length b → Lowest (wrong_record b) (record_count b) r → r < length b / 3
    → log_refusal b ≡ some (record { number = 12; place = r })
unfolding log_refusal log_checks record_count
refused_record b r e w h =
    (some_is_first (log_checks b) _).1
    (later (record { right = λ j k. sym e }) (here (record { inside = h; is_wrong = w.here h; is_lowest = w.before })))

pub not_refused : (b : List ℕ) (r : ℕ) → false ≡ wrong_log_length b → Lowest (wrong_record b) (record_count b) r → length b / 3 ≤ r → log_refusal b ≡ none
unfolding log_refusal log_checks record_count
not_refused b r e w h =
    (none_is_pass (log_checks b)).1
    (and_then (record { right = λ j k. sym e }) (and_then (record { right = λ j k. w.before j (omega arith) }) none_left))
