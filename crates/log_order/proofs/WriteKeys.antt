-- The keys that a log's plain writes make: the i-th plain write makes key i, from 1. Logs newest first. Assumes nothing.
use Prim.Native.Nat.{ℕ, suc, ◌<◌, ◌≤◌}
use mathlib.Core.Path.{◌≡◌, ap}
use mathlib.Core.Bool.{Bool, true, false, cond}
use mathlib.Core.List.{List, [], ◌∷◌}
use lib.ListN.{length}
use native.Mathlib.Omega.{arith}
use Rattle.log_records.specs.Record.{Kind, write, Record}
use Rattle.log_order.proofs.Tests.{same_kind}
use Rattle.log_order.proofs.Newest.{At, here, back}

-- how many records are plain writes
abbrev pub count_write : Kind → ℕ → ℕ
count_write κ n = cond (same_kind κ write) (suc n) n

abbrev pub write_count : List Record → ℕ
write_count [] = 0
write_count (r ∷ H) = count_write r.kind (write_count H)

-- the plain write at index i made key k
pub data KeyAt : List Record → ℕ → ℕ → Type 0 where
  makes : {r : Record} {H : List Record} {i k : ℕ} → r.kind ≡ write → i ≡ length H → k ≡ suc (write_count H) → KeyAt (r ∷ H) i k
  older : {r : Record} {H : List Record} {i k : ℕ} → KeyAt H i k → KeyAt (r ∷ H) i k

grow : (b : Bool) (n : ℕ) → n ≤ cond b (suc n) n
grow true n = omega arith
grow false n = omega arith

pub count_grows : (κ : Kind) (n : ℕ) → n ≤ count_write κ n
count_grows κ n = grow (same_kind κ write) n

pub count_write_lem : {κ : Kind} (n : ℕ) → κ ≡ write → count_write κ n ≡ suc n
count_write_lem n e = ap (λ (κ : Kind). count_write κ n) e

pub key_below : {H : List Record} {i k : ℕ} → KeyAt H i k → i < length H
key_below (makes w e g) = omega arith
key_below (older y) = let b = key_below y in omega arith

pub key_positive : {H : List Record} {i k : ℕ} → KeyAt H i k → 0 < k
key_positive (makes w e g) = omega arith
key_positive (older y) = key_positive y

pub key_top : {H : List Record} {i k : ℕ} → KeyAt H i k → k ≤ write_count H
key_top (makes {r = r} {H = H} w e g) = omega (arith, count_write_lem (write_count H) w)
key_top (older {r = r} {H = H} y) = let b = key_top y in omega (arith, count_grows r.kind (write_count H))

-- one write makes one key
pub key_once : {H : List Record} {i j k : ℕ} → KeyAt H i k → KeyAt H j k → i ≡ j
key_once (makes w e g) (makes w' e' g') = omega arith
key_once (makes w e g) (older y) = let b = key_top y in absurd (omega arith)
key_once (older x) (makes w e g) = let b = key_top x in absurd (omega arith)
key_once (older x) (older y) = key_once x y

-- it is the record at its index, and has one number
pub key_record : {H : List Record} {i k : ℕ} → KeyAt H i k → (r : Record) × At H i r × (r.kind ≡ write)
key_record (makes {r = r} w e g) = (r, here e, w)
key_record (older y) = let d = key_record y in (d.0, back d.1, d.2)

pub key_number : {H : List Record} {i k m : ℕ} → KeyAt H i k → KeyAt H i m → k ≡ m
key_number (makes w e g) (makes w' e' g') = omega arith
key_number (makes w e g) (older y) = let b = key_below y in absurd (omega arith)
key_number (older x) (makes w e g) = let b = key_below x in absurd (omega arith)
key_number (older x) (older y) = key_number x y
