-- The count of the kept moves is the length of their picks. Assumes nothing.
use Prim.Native.Nat.{ℕ, zero, suc, ◌+◌, ◌≤◌}
use native.Mathlib.Omega.{arith}
use mathlib.Core.Path.{◌≡◌, refl, sym, ap, ◌∙◌}
use mathlib.Core.Bool.{Bool, true, false, cond}
use mathlib.Core.List.{List, [], ◌∷◌}
use lib.ListN.{length, take}
use Rattle.std.specs.Prelude.{count_by}
use Rattle.std.proofs.lemmas.List.Sums.{sum_by-cons}
use Rattle.log_records.specs.Record.{Record}
use Rattle.side_by_side.specs.Schedule.{Numbers, first_numbers, or_zero, numbers_after, next_after, picks_from, picks_of}
use Rattle.log_schedule_writer.specs.Inner.Kept.{flagged, count_kept}

module _ (kept : ℕ → Bool) where
  picks_length : (L : List Record) (i : ℕ) (τ : Numbers) (n : ℕ) → length (picks_from kept i τ n L) ≡ count_kept kept i (length L)
  unfolding picks_from count_kept
  picks_length [] i τ n = refl
  picks_length (r ∷ L) i τ n = go (kept i) (picks_length L (suc i) (numbers_after r τ n) (next_after r n)) (picks_length L (suc i) τ n)
    where
      go : (b : Bool) → length (picks_from kept (suc i) (numbers_after r τ n) (next_after r n) L) ≡ count_kept kept (suc i) (length L)
          → length (picks_from kept (suc i) τ n L) ≡ count_kept kept (suc i) (length L)
          → length (cond b (or_zero (τ r.thread) ∷ picks_from kept (suc i) (numbers_after r τ n) (next_after r n) L) (picks_from kept (suc i) τ n L))
          ≡ cond b (suc (count_kept kept (suc i) (length L))) (count_kept kept (suc i) (length L))
      go true h k = ap suc h
      go false h k = k

  pub picks_counted : (L : List Record) → length (picks_of kept L) ≡ count_kept kept 0 (length L)
  unfolding picks_of
  picks_counted L = picks_length L 0 first_numbers 1

-- how many of the first flags are set
shifted : (x : Bool) (flags : List Bool) (i n : ℕ) → count_kept (flagged (x ∷ flags)) (suc i) n ≡ count_kept (flagged flags) i n
unfolding count_kept
shifted x flags i zero = refl
shifted x flags i (suc n) = rw (shifted x flags (suc i) n) refl

pub set_counted : (flags : List Bool) (n : ℕ) → n ≤ length flags → count_by (λ x. x) (take n flags) ≡ count_kept (flagged flags) 0 n
unfolding count_kept
set_counted flags zero h = refl
set_counted [] (suc n) h = absurd (omega arith)
set_counted (x ∷ flags) (suc n) h =
    sum_by-cons (λ (y : Bool). cond y 1 0) x (take n flags) ∙ go x (set_counted flags n (omega arith) ∙ sym (shifted x flags 0 n))
  where
    go : (d : Bool) → count_by (λ y. y) (take n flags) ≡ count_kept (flagged (x ∷ flags)) 1 n
        → cond d 1 0 + count_by (λ y. y) (take n flags) ≡ cond d (suc (count_kept (flagged (x ∷ flags)) 1 n)) (count_kept (flagged (x ∷ flags)) 1 n)
    go true e = omega (arith, e)
    go false e = omega (arith, e)
