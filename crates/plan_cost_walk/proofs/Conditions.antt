-- What the walk comes to at a condition and at a call's list, and its calls. Assumes nothing.
use mathlib.Core.Path.{◌≡◌, refl, ap, sym, ◌∙◌}
use mathlib.Core.Bool.{Bool}
use mathlib.Core.List.{List, [], ◌∷◌}
use Prim.Native.Nat.{ℕ, ◌-◌, ◌*◌}
use Rattle.format.proofs.Ranges.{NoneOf}
use Rattle.plan_packed.specs.Format.{layout, table}
use Rattle.plan_packed.specs.Inner.Operands as word
use Rattle.plan_packed.specs.Trees.{nodes, node_of, condition_of, arguments_of}
use Rattle.plan_packed.specs.Inner.Steps.{Ordered, in_word, tree_in, condition_in, list_in}
use Rattle.plan_packed.proofs.Children.{list_ends}
use Rattle.plan_packed.proofs.SingleTerm.{row_of}
use Rattle.plan_packed.proofs.Tags.{except}
use Rattle.plan_packed.proofs.Walk.{cond_is, list_is, row_below}
use Rattle.plan_packed.proofs.WalkSteps.{mod_below}
use Rattle.plan_cost_walk.specs.Inner.Walked.{more, walked, walkedᶜ, walkedᵃ}
use Rattle.plan_cost_walk.proofs.Expressions.{word_of, Tagged, first_of, second_of, Call, CallTwo, child, children}

-- ---- the calls on the children of term t

module _ (words : List ℕ) (o : Ordered words) (t : ℕ) {span : ℕ} (h : 2 * (1024 - t) ≡ span) where
  pub not_call : Tagged words t 13 → Call words span (first_of words t)
  unfolding node_of in_word layout table nodes
  not_call e = child words o t h _ (row_below words o t 13 e) (mod_below _)

  pub and_first : Tagged words t 14 → Call words span (first_of words t)
  unfolding node_of in_word layout table nodes
  and_first e = child words o t h _ (row_below words o t 14 e).0 (mod_below _)

  pub and_second : Tagged words t 14 → Call words span (second_of words t)
  unfolding node_of in_word layout table nodes
  and_second e = child words o t h _ (row_below words o t 14 e).1 (mod_below _)

  pub equal_call : Tagged words t 15 → CallTwo words span (first_of words t) (second_of words t)
  unfolding node_of in_word layout table nodes
  equal_call e = let k = row_below words o t 15 e in children words o t h _ _ k.0 k.1 (mod_below _) (mod_below _)

  pub list_first : Tagged words t 16 → Call words span (first_of words t)
  unfolding node_of in_word layout table nodes
  list_first e = child words o t h _ (row_below words o t 16 e).0 (mod_below _)

  pub list_second : Tagged words t 16 → Call words span (second_of words t)
  unfolding node_of in_word layout table nodes
  list_second e = child words o t h _ (row_below words o t 16 e).1 (mod_below _)

-- ---- what the walk comes to

module _ (words : List ℕ) (o : Ordered words) (t : ℕ) (b : Bool) (T : ℕ → ℕ) (n : ℕ) where
  abbrev then : ℕ → ℕ → ℕ
  then m x = walked b T m (tree_in words x)

  abbrev thenᶜ : ℕ → ℕ → ℕ
  thenᶜ m x = walkedᶜ b T m (condition_in words x)

  abbrev thenᵃ : ℕ → ℕ → ℕ
  thenᵃ m x = walkedᵃ b T m (list_in words x)

  isᶜ : (k : ℕ) → Tagged words t k → walkedᶜ b T n (condition_of (tree_in words) (condition_in words) (row_of k (word_of words t))) ≡ thenᶜ n t
  isᶜ k e = sym (ap (walkedᶜ b T n) (cond_is words o t k e))

  pub not_walked : {m r : ℕ} → Tagged words t 13 → m ≡ more b n 1 → r ≡ thenᶜ m (first_of words t) → r ≡ thenᶜ n t
  unfolding node_of in_word layout table nodes condition_of walked
  not_walked e p q = q ∙ ap (λ (x : ℕ). thenᶜ x (first_of words t)) p ∙ isᶜ 13 e

  pub and_walked : {m l r : ℕ} → Tagged words t 14 → m ≡ more b n 1 → l ≡ thenᶜ m (first_of words t) → r ≡ thenᶜ l (second_of words t) → r ≡ thenᶜ n t
  unfolding node_of in_word layout table nodes condition_of walked
  and_walked e p s q = q ∙ ap (λ (x : ℕ). thenᶜ x (second_of words t)) (s ∙ ap (λ (x : ℕ). thenᶜ x (first_of words t)) p) ∙ isᶜ 14 e

  pub equal_walked : {m r : ℕ} → Tagged words t 15 → m ≡ more b n 1 → r ≡ then (then m (first_of words t)) (second_of words t) → r ≡ thenᶜ n t
  unfolding node_of in_word layout table nodes condition_of walked
  equal_walked e p q = q ∙ ap (λ (x : ℕ). then (then x (first_of words t)) (second_of words t)) p ∙ isᶜ 15 e

  -- true, or a term of another sort
  pub rest_walkedᶜ : NoneOf (word.tag_of (word_of words t)) (15 ∷ 14 ∷ 13 ∷ []) → n ≡ thenᶜ n t
  unfolding node_of in_word layout table nodes condition_of walked
  rest_walkedᶜ h =
      except (λ k. n ≡ walkedᶜ b T n (condition_of (tree_in words) (condition_in words) (row_of k (word_of words t)))) (15 ∷ 14 ∷ 13 ∷ [])
      refl refl refl refl refl refl refl refl refl refl refl refl refl tt tt tt refl refl refl refl refl (λ j. refl) (word.tag_of (word_of words t)) h
      ∙ isᶜ (word.tag_of (word_of words t)) refl

  pub list_walked : {l r : ℕ} → Tagged words t 16 → l ≡ then n (first_of words t) → r ≡ thenᵃ l (second_of words t) → r ≡ thenᵃ n t
  unfolding node_of in_word layout table nodes arguments_of walked
  list_walked e s q = q ∙ ap (λ (x : ℕ). thenᵃ x (second_of words t)) s ∙ sym (ap (walkedᵃ b T n) (list_is words o t 16 e))

  -- the end of a list, or a term of another sort
  pub end_walked : (Tagged words t 16 → ⊥) → n ≡ thenᵃ n t
  unfolding node_of in_word walked
  end_walked h = sym (ap (walkedᵃ b T n) (list_is words o t _ refl ∙ list_ends (tree_in words) (list_in words) _ _ _ (word.tag_of (word_of words t)) h))
