-- Laws of the lowest number at which a test passes: how it is found, and what it makes of a check. Assumes nothing.
use mathlib.Core.Path.{◌≡◌, sym, ◌∙◌}
use mathlib.Core.Bool.{Bool, true, false}
use mathlib.Core.Option.{some, none, or_else}
use Prim.Native.Nat.{ℕ, ◌≤◌, ◌<◌}
use native.Mathlib.Omega.{arith}
use Rattle.format.specs.Refusal.{lowest}
use Rattle.format.specs.Inner.Lowest.{Lowest}
use Rattle.format.proofs.RefusalLaws.{none_below, at_first}

pub found : (f : ℕ → Bool) (n i : ℕ) → i < n → f i ≡ true → ((k : ℕ) → k < i → f k ≡ false) → Lowest f n i
found f n i h e b = record { within = omega arith; here = λ q. e; before = b }

pub found_none : (f : ℕ → Bool) (n i : ℕ) → i ≤ n → n ≤ i → ((k : ℕ) → k < i → f k ≡ false) → Lowest f n i
found_none f n i h g b = record { within = h; here = λ q. absurd (omega arith); before = b }

pub lowest_ext : (f g : ℕ → Bool) (n r : ℕ) → ((k : ℕ) → k < n → f k ≡ g k) → Lowest f n r → Lowest g n r
lowest_ext f g n r e l =
    record {
      within = l.within;
      here = λ h. sym (e r h) ∙ l.here h;
      before = λ k h. let w = l.within in sym (e k (omega arith)) ∙ l.before k h;
    }

-- ---- as the definitions have it

pub missed : (f : ℕ → Bool) (n n' r : ℕ) → n ≡ n' → Lowest f n r → n ≤ r → lowest f n' ≡ none
missed f n n' r e l h = none_below f n' (λ k q. l.before k (omega arith))

pub struck : (f : ℕ → Bool) (n n' r : ℕ) → n ≡ n' → Lowest f n r → r < n → lowest f n' ≡ some r
struck f n n' r e l h = at_first f n' r (omega arith) (l.here h) l.before

pub whole : (x : Bool) → x ≡ true → lowest (λ place. x) 1 ≡ some 0
unfolding lowest or_else
whole x e = rw e

pub whole_none : (x : Bool) → x ≡ false → lowest (λ place. x) 1 ≡ none
unfolding lowest or_else
whole_none x e = rw e
