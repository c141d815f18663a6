-- Sample logs: what the judge answers, by computation. Assumes nothing.
use mathlib.Core.Path.{◌≡◌, refl}
use mathlib.Core.List.{List, [], ◌∷◌}
use mathlib.Core.Option.{some, none}
use Rattle.format.specs.Version.{v0, v1}
use Rattle.log_records.specs.Record.{new, read, fork, lacks_write, Record, entry}
use Rattle.log_order.proofs.Samples.{log_a, log_b, log_v}
use Rattle.log_conflicts.proofs.FirstConflict.{first_conflict}

-- plan P with its race
conflict_A : first_conflict v1 log_a ≡ some 3
unfolding first_conflict
conflict_A = refl

-- "That run of P is judged at record 3."
conflict_B : first_conflict v1 log_b ≡ some 3
unfolding first_conflict
conflict_B = refl

-- a value handed on through a volatile field: ordered in version 1 alone
conflict_V1 : first_conflict v1 log_v ≡ none
unfolding first_conflict
conflict_V1 = refl

conflict_V0 : first_conflict v0 log_v ≡ some 5
unfolding first_conflict
conflict_V0 = refl

-- of two threads that nothing orders: two reads, which do not conflict, and a read and a write that lacks its key, which do
abbrev log_r : List Record
log_r = entry new 0 1 0 0 ∷ entry fork 0 2 1 0 ∷ entry read 0 1 1 0 ∷ entry read 1 1 1 0 ∷ []

abbrev log_k : List Record
log_k = entry new 0 1 0 0 ∷ entry fork 0 2 1 0 ∷ entry read 0 1 1 0 ∷ entry lacks_write 1 1 1 0 ∷ []

conflict_R : first_conflict v1 log_r ≡ none
unfolding first_conflict
conflict_R = refl

conflict_K : first_conflict v1 log_k ≡ some 3
unfolding first_conflict
conflict_K = refl
