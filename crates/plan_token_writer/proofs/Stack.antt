-- Items put on a stack: none, one, and some on others. Assumes nothing.
use Prim.Native.Nat.{ℕ, zero, suc, ◌+◌, ◌≤◌, ◌<◌}
use native.Mathlib.Numerals.{add-one}
use native.Mathlib.Omega.{arith}
use mathlib.Core.Path.{◌≡◌, refl, sym, ap, ap₂, ◌∙◌}
use mathlib.Core.List.{List, [], ◌∷◌, ◌++◌, append_assoc}
use lib.ListN.{length, length-append, set, length-set}
use lib.Seq.{get_or-set_same, get_or-set_other}
use Rattle.plan_token_writer.specs.Inner.Items.{stack_of, Pushed}

-- a store above a stack leaves it as it is
below_same : (a : List ℕ) (m n x : ℕ) → n ≤ m → stack_of (set a m x) n ≡ stack_of a n
unfolding stack_of
below_same a m zero x h = refl
below_same a m (suc n) x h = ap₂ (λ (y : ℕ) (l : List ℕ). y ∷ l) (get_or-set_other a m n x 0 (λ e. absurd (omega arith))) (below_same a m n x (omega arith))

pub pushed_none : (a : List ℕ) (n : ℕ) → Pushed a n [] a n
pushed_none a n = record { top = omega arith; kept = refl; items = refl }

pub pushed_one : (a : List ℕ) (n x : ℕ) → n < length a → Pushed a n (x ∷ []) (set a n x) (n + 1)
unfolding stack_of
pushed_one a n x h =
    record {
      top = refl;
      kept = length-set a n x;
      items = rw add-one (ap₂ (λ (y : ℕ) (l : List ℕ). y ∷ l) (get_or-set_same a n x 0 h) (below_same a n n x (omega arith)));
    }

pub pushed_more : {a b c xs ys : List ℕ} {n m r : ℕ} → Pushed a n xs b m → Pushed b m ys c r → Pushed a n (ys ++ xs) c r
pushed_more {a} {b} {c} {xs} {ys} {n} {m} {r} w v =
    record {
      top = omega (arith, w.top, v.top, length-append ys xs);
      kept = v.kept ∙ w.kept;
      items = v.items ∙ ap (λ (l : List ℕ). ys ++ l) w.items ∙ sym (append_assoc ys xs (stack_of a n));
    }

pub pushed_as : {a b xs ys : List ℕ} {n r : ℕ} → xs ≡ ys → Pushed a n xs b r → Pushed a n ys b r
pushed_as e w = rw e at w
