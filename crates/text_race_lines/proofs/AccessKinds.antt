-- What a thread does by an access, by the number of the record's kind. Assumes nothing.
use Prim.Native.Nat.{ℕ, ◌<◌}
use native.Mathlib.Omega.{arith}
use mathlib.Core.Path.{◌≡◌, refl, sym, ap, ◌∙◌}
use mathlib.Core.Bool.{Bool, true, false, cond, ◌||◌}
use mathlib.Core.List.{List}
use mathlib.Core.Logic.{◌⊎◌, inl, inr, ⊎_elim}
use lib.Dec.{eqb}
use borrow.Author.Tests.{eqb-true}
use Rattle.format.proofs.Ranges.{by_range}
use Rattle.log_records.specs.Packed.{kind_of}
use Rattle.log_order.specs.Accesses.{is_write}

pub write_kinds : (k : ℕ) → k < 16 → (eqb k 3 || eqb k 11) ≡ is_write (kind_of k)
unfolding kind_of
write_kinds =
    by_range (λ k. (eqb k 3 || eqb k 11) ≡ is_write (kind_of k)) 0 16 ((k : ℕ) → k < 16 → (eqb k 3 || eqb k 11) ≡ is_write (kind_of k))
    (λ all k h. all k (omega arith) h)
    refl refl refl refl refl refl refl refl refl refl refl refl refl refl refl refl

one_of : (x y : Bool) → (x || y) ≡ true → (x ≡ true) ⊎ (y ≡ true)
one_of true y e = inl refl
one_of false y e = inr e

-- the kind is one of the two
pub is_write_lem : (k : ℕ) → (k ≡ 3) ⊎ (k ≡ 11) → is_write (kind_of k) ≡ true
unfolding kind_of
is_write_lem k = ⊎_elim (λ e. ap (λ (n : ℕ). is_write (kind_of n)) e) (λ e. ap (λ (n : ℕ). is_write (kind_of n)) e)

-- or it is none of them
pub no_write : (k : ℕ) → k < 16 → ((k ≡ 3) ⊎ (k ≡ 11) → ⊥) → is_write (kind_of k) ≡ false
no_write k h n = sym (write_kinds k h) ∙ go (eqb k 3 || eqb k 11) refl
  where
    go : (t : Bool) → (eqb k 3 || eqb k 11) ≡ t → (eqb k 3 || eqb k 11) ≡ false
    go false e = e
    go true e = absurd (n (⊎_elim (λ x. inl (eqb-true k 3 x)) (λ x. inr (eqb-true k 11 x)) (one_of (eqb k 3) (eqb k 11) e)))

pub either_write : (k : ℕ) (write read : List ℕ) → (k ≡ 3) ⊎ (k ≡ 11) → write ≡ cond (is_write (kind_of k)) write read
either_write k write read h = rw (is_write_lem k h)

pub either_read : (k : ℕ) (write read : List ℕ) → k < 16 → ((k ≡ 3) ⊎ (k ≡ 11) → ⊥) → read ≡ cond (is_write (kind_of k)) write read
either_read k write read h n = rw (no_write k h n)
