-- Noted picks into an area: none, and one more. Assumes nothing.
use Prim.Native.Nat.{ℕ, ◌+◌, ◌/◌, ◌≤◌, ◌<◌}
use native.Mathlib.Decide.{ℕ_discrete}
use native.Mathlib.Omega.{arith}
use mathlib.Core.Path.{◌≡◌, refl, sym, ap, ◌∙◌}
use mathlib.Core.List.{List}
use lib.ListN.{length, length-set, get_or, set, take, drop}
use lib.Seq.{take-set-le, drop-set-lt, drop-drop, get_or-set_same, get_or-set_other}
use Rattle.run_place_notes.specs.Inner.Notes.{PutNoted}

past_one_more : (a b : List ℕ) (n : ℕ) → drop n a ≡ drop n b → drop (n + 1) a ≡ drop (n + 1) b
past_one_more a b n e = sym (drop-drop 1 n a) ∙ ap (drop 1) e ∙ drop-drop 1 n b

module _ (notes : List ℕ) (from : ℕ) (before : List ℕ) where
  pub put_none : PutNoted notes from from before before
  put_none = record { kept = refl; front = refl; rest = refl; are = λ i a b. absurd (omega arith) }

  pub put_one_lem : (at : ℕ) (after : List ℕ) → PutNoted notes at from before after → from ≤ at → at < length after
      → PutNoted notes (at + 1) from before (set after at (get_or notes at 0 / 16))
  put_one_lem at after x h b =
      record {
        kept = length-set after at _ ∙ x.kept;
        front = take-set-le from after at _ h ∙ x.front;
        rest = drop-set-lt (at + 1) after at _ (omega arith) ∙ past_one_more after before at x.rest;
        are = λ i a d. each i a d (ℕ_discrete i at);
      }
    where
      each : (i : ℕ) → from ≤ i → i < at + 1 → Dec (i ≡ at) → get_or (set after at (get_or notes at 0 / 16)) i 0 ≡ get_or notes i 0 / 16
      each i a d (yes e) =
          ap (λ (j : ℕ). get_or (set after at (get_or notes at 0 / 16)) j 0) e ∙ get_or-set_same after at _ 0 b ∙ ap (λ (j : ℕ). get_or notes j 0 / 16) (sym e)
      each i a d (no e) = get_or-set_other after at i _ 0 e ∙ x.are i a (omega (arith, d, e))
