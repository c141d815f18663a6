-- The parts of a term that check 7 reads, and its calls of the walk: each sees a later term. Assumes nothing.
use mathlib.Core.Path.{◌≡◌, ap, sym, ◌∙◌}
use mathlib.Core.Bool.{Bool}
use mathlib.Core.List.{List}
use Prim.Native.Nat.{ℕ, ◌+◌, ◌-◌, ◌*◌, ◌<◌}
use lib.ListN.{get_or}
use Rattle.plan_packed.specs.Inner.Operands as word
use Rattle.plan_packed.specs.Slots.{closed}
use Rattle.plan_packed.specs.Inner.Steps.{Ordered, tree_in, leaf_in}
use Rattle.plan_packed.proofs.Walk.{leaf_is}

-- term t has tag k
abbrev pub Tagged : List ℕ → ℕ → ℕ → Type 0
Tagged words t k = word.tag_of (get_or words t 0) ≡ k

-- its first and its second child, where both have ten bits in these places
abbrev pub first_of : List ℕ → ℕ → ℕ
first_of words t = word.first_of (get_or words t 0)

abbrev pub second_of : List ℕ → ℕ → ℕ
second_of words t = word.second_of (get_or words t 0)

-- what a call on term x must show, where the span of terms is below this
abbrev pub Call : List ℕ → ℕ → ℕ → Type 0
Call words span x = (3 * (1024 - x) + 1 < span) × (Ordered words × (x < 1024))

-- a term without children
pub leaf_seen : (words : List ℕ) → Ordered words → (ρ : ℕ → Bool) (t : ℕ) {r : Bool} → word.tag_of (get_or words t 0) < 3
    → r ≡ closed ρ (leaf_in (get_or words t 0)) → closed ρ (tree_in words t) ≡ r
leaf_seen words o ρ t h e = ap (closed ρ) (leaf_is words o t h) ∙ sym e
