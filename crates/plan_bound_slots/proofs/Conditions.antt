-- The walk of a condition. Assumes nothing.
use mathlib.Core.Path.{◌≡◌, refl, ap, sym, subst, ◌∙◌}
use mathlib.Core.Bool.{Bool, true, false, ◌&&◌}
use mathlib.Core.List.{List, [], ◌∷◌}
use Prim.Native.Nat.{ℕ, ◌+◌, ◌-◌, ◌*◌, ◌<◌}
use native.Mathlib.Omega.{arith}
use lib.ListN.{get_or}
use Rattle.format.proofs.Ranges.{NoneOf}
use Rattle.plan_packed.specs.Format.{layout, table}
use Rattle.plan_packed.specs.Inner.Operands.{tag_of}
use Rattle.plan_packed.specs.Trees.{nodes, node_of, condition_of}
use Rattle.plan_packed.specs.Slots.{closed, closedᶜ}
use Rattle.plan_packed.specs.Inner.Steps.{slots, in_word, tree_in, condition_in, list_in}
use Rattle.std.specs.declared.ops.ControlFlow.TheVariants.{Continue}
use Rattle.plan_bound_slots.specs.Inner.Left.{Rest, seen, After}
use Rattle.plan_packed.proofs.Walk.{cond_is, row_below, cond_rest}
use Rattle.plan_packed.proofs.WalkSteps.{and_true, and_false, and_swap, mod_below, beyond}
use Rattle.plan_bound_slots.proofs.TermParts.{Tagged, first_of, second_of, Call}
use Rattle.plan_bound_slots.proofs.Expressions.{Two, CallTwo}
use Rattle.plan_bound_slots.proofs.Turns.{Left, Next, on}

-- ---- the walk of a condition

abbrev pub conditions_of : List ℕ → (ℕ → Bool) → ℕ → Bool
conditions_of words ρ t = closedᶜ ρ (condition_in words t)

module _ (words : List ℕ) (ρ : ℕ → Bool) {from t : ℕ} (l : Left words (conditions_of words ρ) from t) where
  pub past_not : Tagged words t 13 → Next words (conditions_of words ρ) from t (first_of words t)
  unfolding node_of in_word layout table nodes condition_of closed
  past_not e = on l _ (row_below words l.ordered t 13 e) (mod_below _) (ap (closedᶜ ρ) (cond_is words l.ordered t 13 e))

  module _ (e : Tagged words t 14) where
    and_below : (t < first_of words t) × (t < second_of words t)
    unfolding node_of in_word layout table nodes
    and_below = row_below words l.ordered t 14 e

    and_is : conditions_of words ρ t ≡ (conditions_of words ρ (first_of words t) && conditions_of words ρ (second_of words t))
    unfolding node_of in_word layout table nodes condition_of closed
    and_is = ap (closedᶜ ρ) (cond_is words l.ordered t 14 e)

    pub before_truth : Tagged words (second_of words t) 12 → Next words (conditions_of words ρ) from t (first_of words t)
    unfolding node_of in_word layout table nodes condition_of closed
    before_truth h = on l _ and_below.0 (mod_below _) (and_is ∙ and_swap _ _ (ap (closedᶜ ρ) (cond_is words l.ordered (second_of words t) 12 h)))

    pub first_closed : conditions_of words ρ (first_of words t) ≡ true → Next words (conditions_of words ρ) from t (second_of words t)
    first_closed h = on l _ and_below.1 (mod_below _) (and_is ∙ and_true _ _ h)

    pub first_open : conditions_of words ρ (first_of words t) ≡ false → false ≡ conditions_of words ρ from
    first_open h = sym (and_is ∙ and_false _ _ h) ∙ l.same

    pub first_call : {span : ℕ} → 3 * (1024 - from) + 1 ≡ span → Call words span (first_of words t)
    first_call h = (beyond _ from t _ h l.after and_below.0 (mod_below _), (l.ordered, mod_below _))

  pub childless : NoneOf (tag_of (get_or words t 0)) (15 ∷ 14 ∷ 13 ∷ []) → true ≡ conditions_of words ρ from
  childless n = sym (ap (closedᶜ ρ) (cond_is words l.ordered t _ refl) ∙ cond_rest (tree_in words) (condition_in words) (list_in words) ρ _ _ n) ∙ l.same

-- ---- an `equal`: what is left of its two operands

module _ (words : List ℕ) (m : ℕ) {from t : ℕ} (l : Left words (conditions_of words (slots m)) from t) (e : Tagged words t 15) where
  equal_below : (t < first_of words t) × (t < second_of words t)
  unfolding node_of in_word layout table nodes
  equal_below = row_below words l.ordered t 15 e

  equal_is : conditions_of words (slots m) t ≡ (closed (slots m) (tree_in words (first_of words t)) && closed (slots m) (tree_in words (second_of words t)))
  unfolding node_of in_word layout table nodes condition_of closed
  equal_is = ap (closedᶜ (slots m)) (cond_is words l.ordered t 15 e)

  pub equal_call : {span : ℕ} → 3 * (1024 - from) + 1 ≡ span → CallTwo words span (first_of words t) (second_of words t)
  equal_call h =
      let a = l.after in
      let k = equal_below.0 in
      let b : first_of words t < 1024 = mod_below _ in
      (omega arith, (l.ordered, (b, mod_below _)))

  module _ (r : Rest) (b : Two words (first_of words t) m (second_of words t) m r) where
    pub equal_told : (q : Rest) → r ≡ q → seen words q ≡ conditions_of words (slots m) from
    equal_told q k = sym (ap (seen words) k) ∙ b.0 ∙ sym equal_is ∙ l.same

    pub equal_next : (span x n : ℕ) → 3 * (1024 - from) + 1 ≡ span → r ≡ Continue (x, n) → Call words span x
    equal_next span x n h k =
        let q : After t (Continue (x, n)) = subst (After t) k (b.1 t equal_below.0 equal_below.1) in
        (beyond span from t x h l.after q.0 q.1, (l.ordered, q.1))
