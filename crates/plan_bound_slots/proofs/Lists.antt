-- The walk of a call's arguments. Assumes nothing.
use mathlib.Core.Path.{◌≡◌, refl, ap, sym, ◌∙◌}
use mathlib.Core.Bool.{Bool, true, false, ◌&&◌}
use mathlib.Core.List.{List}
use Prim.Native.Nat.{ℕ, ◌+◌, ◌-◌, ◌*◌, ◌<◌}
use Rattle.plan_packed.specs.Format.{layout, table}
use Rattle.plan_packed.specs.Trees.{nodes, node_of, arguments_of}
use Rattle.plan_packed.specs.Slots.{closed, closedᵃ}
use Rattle.plan_packed.specs.Inner.Steps.{in_word, tree_in, condition_in, list_in}
use Rattle.plan_packed.proofs.Walk.{list_is, row_below, list_rest}
use Rattle.plan_packed.proofs.WalkSteps.{and_true, and_false, mod_below, beyond}
use Rattle.plan_bound_slots.proofs.TermParts.{Tagged, first_of, second_of, Call}
use Rattle.plan_bound_slots.proofs.Turns.{Left, Next, on}

abbrev pub lists_of : List ℕ → (ℕ → Bool) → ℕ → Bool
lists_of words ρ t = closedᵃ ρ (list_in words t)

module _ (words : List ℕ) (ρ : ℕ → Bool) {from t : ℕ} (l : Left words (lists_of words ρ) from t) where
  pub ended : (Tagged words t 16 → ⊥) → true ≡ lists_of words ρ from
  ended h = sym (ap (closedᵃ ρ) (list_is words l.ordered t _ refl) ∙ list_rest (tree_in words) (condition_in words) (list_in words) ρ _ _ h) ∙ l.same

  module _ (e : Tagged words t 16) where
    list_below : (t < first_of words t) × (t < second_of words t)
    unfolding node_of in_word layout table nodes
    list_below = row_below words l.ordered t 16 e

    both : lists_of words ρ t ≡ (closed ρ (tree_in words (first_of words t)) && lists_of words ρ (second_of words t))
    unfolding node_of in_word layout table nodes arguments_of closed
    both = ap (closedᵃ ρ) (list_is words l.ordered t 16 e)

    pub first_call : {span : ℕ} → 3 * (1024 - from) + 1 ≡ span → Call words span (first_of words t)
    first_call h = (beyond _ from t _ h l.after list_below.0 (mod_below _), (l.ordered, mod_below _))

    pub first_open : closed ρ (tree_in words (first_of words t)) ≡ false → false ≡ lists_of words ρ from
    first_open h = sym (both ∙ and_false _ _ h) ∙ l.same

    pub next : closed ρ (tree_in words (first_of words t)) ≡ true → Next words (lists_of words ρ) from t (second_of words t)
    next h = on l _ list_below.1 (mod_below _) (both ∙ and_true _ _ h)
