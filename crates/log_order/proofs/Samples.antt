-- Sample logs, and that the key machine can write them; the kinds that write. Assumes nothing.
use mathlib.Core.Path.{◌≡◌, refl}
use mathlib.Core.Bool.{true, false}
use mathlib.Core.List.{List, [], ◌∷◌, map, reverse}
use Rattle.format.specs.Version.{v1}
use Rattle.log_records.specs.Record.{new, read, write, readv, writev, acquire, release, fork, lacks_read, Record, entry}
use Rattle.log_records.specs.Packed.{kind_of}
use Rattle.log_order.specs.Accesses.{is_write}
use Rattle.log_order.proofs.KeySets.{union, learn, no_keys, only_zero, put, put₂}
use Rattle.log_order.proofs.KeyMachine.{start, Legal}

-- plan P with picks 0 0 0 0 0 1 0
abbrev pub log_a : List Record
log_a = entry new 0 1 0 0 ∷ entry fork 0 2 1 0 ∷ entry write 1 1 1 0 ∷ entry lacks_read 0 1 1 0 ∷ []

-- plan P with picks 0 0 0 0 0 0 1
abbrev pub log_b : List Record
log_b = entry new 0 1 0 0 ∷ entry fork 0 2 1 0 ∷ entry read 0 1 1 0 ∷ entry write 1 1 1 0 ∷ []

legal_A : Legal v1 (reverse log_a)
unfolding start put put₂ learn union only_zero
legal_A = ((((tt, tt, tt), tt, tt), tt, tt), tt, tt)

legal_B : Legal v1 (reverse log_b)
unfolding start put put₂ learn union only_zero
legal_B = ((((tt, tt, tt), tt, tt), tt, tt), tt, tt)

-- a value handed on through a volatile field: ordered in version 1 alone
abbrev pub log_v : List Record
log_v = entry new 0 1 0 0 ∷ entry fork 0 2 1 0 ∷ entry write 0 1 1 1 ∷ entry writev 0 1 2 1 ∷ entry readv 1 1 2 1 ∷ entry write 1 1 1 0 ∷ []

-- a monitor taken and left twice
abbrev pub log_m : List Record
log_m = entry acquire 0 0 0 0 ∷ entry release 0 0 0 0 ∷ entry acquire 0 0 0 0 ∷ entry release 0 0 0 0 ∷ []

legal_M : Legal v1 (reverse log_m)
unfolding start put put₂ learn union only_zero no_keys
legal_M = ((((tt, tt, (0, tt)), tt, (λ k x. x, refl)), tt, (0, tt)), tt, (λ k x. x, refl))

-- "writes (kind 3 or 11)", of kinds 1 to 11
kinds_that_write : map (λ k. is_write (kind_of k)) (1 ∷ 2 ∷ 3 ∷ 4 ∷ 5 ∷ 6 ∷ 7 ∷ 8 ∷ 9 ∷ 10 ∷ 11 ∷ [])
    ≡ false ∷ false ∷ true ∷ false ∷ false ∷ false ∷ false ∷ false ∷ false ∷ false ∷ true ∷ []
unfolding kind_of
kinds_that_write = refl
