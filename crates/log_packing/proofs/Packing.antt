-- The columns of a record are put together as the record's 24 bits, and these are put as its three bytes. Assumes nothing.
use Prim.Native.Nat.{ℕ, suc, ◌+◌, ◌*◌, ◌/◌, ◌%◌, ◌≤◌, ◌<◌}
use native.Mathlib.Nat.{mod-eq_of_lt}
use native.Mathlib.Omega.{arith}
use mathlib.Core.Path.{◌≡◌, ap, ap₂, ◌∙◌}
use mathlib.Core.List.{List, [], ◌∷◌, ◌++◌}
use lib.ListN.{length, set, take, drop}
use lib.Seq.{sets-eq}
use Rattle.log_records.specs.Record.{kind_number, Record}
use Rattle.log_records.specs.Packed.{packed, three_bytes}
use Rattle.log_records.proofs.KindNumbers.{kind_number_lem}
use Rattle.log_packing.specs.Inner.Packing.{word_of, put_at}

-- numbers that are a record's columns
pub record ColumnsOf (r : Record) (k p o f v : ℕ) : Type 0 where
  pub kind : k ≡ kind_number r.kind
  pub thread : p ≡ r.thread
  pub object : o ≡ r.object
  pub field : f ≡ r.field
  pub value : v ≡ r.value
  pub thread_fits : p < 8
  pub object_fits : o < 32
  pub field_fits : f < 32
  pub value_fits : v < 32

pub word_packed : {r : Record} {k p o f v : ℕ} → ColumnsOf r k p o f v → (word_of k p o f v ≡ packed r) × (word_of k p o f v < 16777216)
unfolding packed
word_packed {r} {k} {p} {o} {f} {v} w =
    let n = kind_number_lem r.kind in
    let kind : k % 16 ≡ kind_number r.kind = ap (λ (x : ℕ). x % 16) w.kind ∙ mod-eq_of_lt (omega (arith, n.1)) in
    let thread : p % 8 ≡ r.thread = mod-eq_of_lt w.thread_fits ∙ w.thread in
    let object : o % 32 ≡ r.object = mod-eq_of_lt w.object_fits ∙ w.object in
    let field : f % 32 ≡ r.field = mod-eq_of_lt w.field_fits ∙ w.field in
    let value : v % 32 ≡ r.value = mod-eq_of_lt w.value_fits ∙ w.value in
    (omega arith, omega arith)

-- three stores
put_three : (l : List ℕ) (i j k m x y z : ℕ) → i ≡ m → j ≡ suc m → k ≡ suc (suc m) → m + 3 ≤ length l
    → set (set (set l i x) j y) k z ≡ take m l ++ (x ∷ y ∷ z ∷ []) ++ drop (m + 3) l
put_three l i j k m x y z a b c h =
    ap₂ (λ (i j : ℕ). set (set (set l i x) j y) k z) a b
    ∙ ap (λ (k : ℕ). set (set (set l m x) (suc m) y) k z) c
    ∙ sets-eq (x ∷ y ∷ z ∷ []) l m h

first_byte : (w v : ℕ) → w ≡ v → w < 16777216 → w / 65536 % 256 ≡ v / 65536
first_byte w v e h = omega arith

-- a record is put as its three bytes
pub put_bytes : (l : List ℕ) (n w v : ℕ) → w ≡ v → w < 16777216 → 3 * n + 3 ≤ length l
    → put_at l n w ≡ take (3 * n) l ++ three_bytes v ++ drop (3 * n + 3) l
unfolding three_bytes
put_bytes l n w v e b h =
    put_three l (n * 3) (n * 3 + 1) (n * 3 + 2) (3 * n) _ _ _ (omega arith) (omega arith) (omega arith) h
    ∙ ap₂ (λ (x u : ℕ). take (3 * n) l ++ (x ∷ u / 256 % 256 ∷ u % 256 ∷ []) ++ drop (3 * n + 3) l) (first_byte w v e b) e
