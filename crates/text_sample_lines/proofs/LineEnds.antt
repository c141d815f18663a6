-- The end of a line after one record more: one digital value is set, or none. Assumes nothing.
use Prim.Native.Nat.{ℕ, zero, suc, ◌+◌, ◌*◌, ◌<◌, ◌≤◌}
use native.Mathlib.Omega.{arith}
use native.Mathlib.Decide.{ℕ_discrete}
use mathlib.Core.Path.{◌≡◌, refl, sym, ap, ap₂, ◌∙◌}
use mathlib.Core.Bool.{false}
use mathlib.Core.List.{List, [], ◌∷◌, ◌++◌, append_assoc}
use lib.ListN.{length, length-append, set}
use lib.Seq.{set-append_left, set_at}
use Rattle.log_records.specs.Record.{acquire, release, Record}
use Rattle.text_sample_lines.specs.DataFile.{of_monitor, digital}
use Rattle.text_sample_lines.specs.Inner.LineEnds.{values_to, end_of}
use Rattle.text_sample_lines.proofs.Digital.{taken_one, freed_zero, other_object, other_kind}

-- ---- how long

pub values_length : (n : ℕ) (L : List Record) → length (values_to n L) ≡ 2 * n
unfolding values_to
values_length zero L = refl
values_length (suc n) L = omega (arith, values_length n L, length-append (values_to n L) (44 ∷ (48 + digital n L) ∷ []))

pub end_length : (L : List Record) → length (end_of L) ≡ 66
unfolding end_of
end_length L = omega (arith, values_length 32 L, length-append (values_to 32 L) (13 ∷ 10 ∷ []))

-- ---- values that are the same, and one that is not

module _ (L M : List Record) where
  values_same : (n : ℕ) → ((k : ℕ) → k < n → digital k L ≡ digital k M) → values_to n L ≡ values_to n M
  unfolding values_to
  values_same zero h = refl
  values_same (suc n) h =
      ap₂ (λ (l : List ℕ) (d : ℕ). l ++ (44 ∷ (48 + d) ∷ [])) (values_same n (λ k l. h k (omega arith))) (h n (omega arith))

  module _ (o : ℕ) (others : (k : ℕ) → (o ≡ k → ⊥) → digital k L ≡ digital k M) where
    -- the last value
    last_set : set (values_to (suc o) L) (2 * o + 1) (48 + digital o M) ≡ values_to (suc o) M
    unfolding values_to
    last_set =
        ap (λ (l : List ℕ). set l (2 * o + 1) (48 + digital o M)) (sym (append_assoc (values_to o L) (44 ∷ []) ((48 + digital o L) ∷ [])))
        ∙ set_at (values_to o L ++ (44 ∷ [])) (48 + digital o L) [] (48 + digital o M) (2 * o + 1)
        (omega (arith, values_length o L, length-append (values_to o L) (44 ∷ [])))
        ∙ append_assoc (values_to o L) (44 ∷ []) ((48 + digital o M) ∷ [])
        ∙ ap (λ (l : List ℕ). l ++ (44 ∷ (48 + digital o M) ∷ [])) (values_same o (λ k l. others k (λ e. omega arith)))

    value_set : (n : ℕ) → o < n → set (values_to n L) (2 * o + 1) (48 + digital o M) ≡ values_to n M
    unfolding values_to
    value_set zero h = absurd (omega arith)
    value_set (suc n) h = go (ℕ_discrete o n) (value_set n)
      where
        go : Dec (o ≡ n) → (o < n → set (values_to n L) (2 * o + 1) (48 + digital o M) ≡ values_to n M)
            → set (values_to (suc n) L) (2 * o + 1) (48 + digital o M) ≡ values_to (suc n) M
        go (yes e) below = ap (λ (k : ℕ). set (values_to (suc k) L) (2 * o + 1) (48 + digital o M)) (sym e) ∙ last_set ∙ ap (λ (k : ℕ). values_to (suc k) M) e
        go (no l) below =
            set-append_left (values_to n L) (44 ∷ (48 + digital n L) ∷ []) (2 * o + 1) (48 + digital o M) (omega (arith, values_length n L))
            ∙ ap₂ (λ (l : List ℕ) (d : ℕ). l ++ (44 ∷ (48 + d) ∷ [])) (below (omega arith)) (others n l)

    end_set : o < 32 → set (end_of L) (2 * o + 1) (48 + digital o M) ≡ end_of M
    unfolding end_of
    end_set h =
        set-append_left (values_to 32 L) (13 ∷ 10 ∷ []) (2 * o + 1) (48 + digital o M) (omega (arith, values_length 32 L))
        ∙ ap (λ (l : List ℕ). l ++ (13 ∷ 10 ∷ [])) (value_set 32 h)

-- ---- one record more

module _ (L : List Record) (r : Record) where
  others_keep : (k : ℕ) → (r.object ≡ k → ⊥) → digital k L ≡ digital k (L ++ (r ∷ []))
  others_keep k n = sym (other_object k L r n)

  pub end_taken : r.kind ≡ acquire → r.object < 32 → set (end_of L) (2 * r.object + 1) 49 ≡ end_of (L ++ (r ∷ []))
  end_taken e h = rw (taken_one r.object L r e refl) at (end_set L (L ++ (r ∷ [])) r.object others_keep h)

  pub end_freed : r.kind ≡ release → r.object < 32 → set (end_of L) (2 * r.object + 1) 48 ≡ end_of (L ++ (r ∷ []))
  end_freed e h = rw (freed_zero r.object L r e refl) at (end_set L (L ++ (r ∷ [])) r.object others_keep h)

  pub end_other : of_monitor r.kind ≡ false → end_of L ≡ end_of (L ++ (r ∷ []))
  unfolding end_of
  end_other e = ap (λ (l : List ℕ). l ++ (13 ∷ 10 ∷ [])) (values_same L (L ++ (r ∷ [])) 32 (λ k h. sym (other_kind k L r e)))
