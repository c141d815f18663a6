-- A step from a condition: it is true, or its first operand is wanted for a frame. Assumes nothing.
use Prim.Native.Nat.{ℕ, suc, ◌≤◌}
use native.Mathlib.Omega.{arith}
use mathlib.Core.Path.{◌≡◌, ◌∙◌}
use mathlib.Core.Bool.{Bool, true, false, false≢true}
use mathlib.Core.List.{List, ◌∷◌}
use mathlib.Core.Option.{some, none-ne-some, some-injective}
use lib.ListN.{length}
use Rattle.plan_packed.specs.Format.{terms}
use Rattle.plan_packed.specs.Trees.{ConditionNode, Node, node_at}
use Rattle.rules.specs.Context.{false_when}
use Rattle.machine.specs.Inner.Frames as frames
use Rattle.machine.specs.Inner.Refocusing.{is_true, bool_of, bool_in, enterᶜ}
use Rattle.machine.proofs.PlanTable.{ordered}
use Rattle.machine.proofs.Sorted.{Wellᶜ}
use Rattle.run_frames.specs.declared.frame.Kind.TheVariants as kind
use Rattle.plan_packed.specs.Inner.Operands.{first_of, second_of}
use Rattle.run_term_words.specs.Inner.Words.{word_at}
use Rattle.run_frames.specs.Inner.Frames.{framed}
use Rattle.run_frames.specs.Inner.Going.{go_truth}
use Rattle.run_refocusing_step.specs.Inner.Down.{open_condition_by, open_condition_of, listed_of, wanted_of}
use Rattle.run_refocusing.specs.Inner.Refocusing.{Stack}
use Rattle.refinement.proofs.Meant.{slots, closed, IsCondition}
use Rattle.refinement.proofs.Words.{Condition, condition_at_lem}
use Rattle.refinement.proofs.Descent.{enter_truth, enter_not_true, enter_not, enter_and, enter_equal}
use Rattle.refinement.proofs.Fuel.{left}
use Rattle.refinement.proofs.Operands.{Placed, Next, stays, want, wantᶜ, child, childᶜ, less, less_one, plain_fine}

false_never : (t : Bool) → false_when t ≡ some true → ⊥
unfolding false_when
false_never true e = false≢true (some-injective false true e)
false_never false e = none-ne-some true e

module _ {b ws rs : List ℕ} {k : Stack} {base : ℕ} {S : List frames.Frame} (c : Placed b ws rs k base S) {n : ℕ} {X : frames.Found}
    (t e : ℕ) (w : Wellᶜ S) (s : IsCondition b t) (x : X ≡ enterᶜ (node_at b) (terms b) S (closed t e)) (l : left t ≤ suc n) where
  abbrev word : ℕ
  word = word_at ws t

  truth_in : node_at b t ≡ Node.condition ConditionNode.truth → bool_in (node_at b) (closed t e) ≡ some true
  unfolding bool_in bool_of
  truth_in q = rw q

  -- `not true` is a value, and the operand of another `not` is not true
  not_in : (i : ℕ) → node_at b t ≡ Node.condition (ConditionNode.not i) → Condition b i (word_at ws i)
      → X ≡ enterᶜ (node_at b) (terms b) (frames.Frame.not ∷ S) (closed i e)
  unfolding is_true bool_of
  not_in i q (Condition.truth r o) = x ∙ enter_not_true (ordered b c.right) S t (slots e) q o
  not_in i q (Condition.not r o _) =
      x ∙ enter_not (ordered b c.right) S t (slots e) q (rw o) (λ z. false_never (is_true (node_at b (first_of (word_at ws i)))) (rw o at z))
  not_in i q (Condition.and r o _ _) = x ∙ enter_not (ordered b c.right) S t (slots e) q (rw o) (λ z. none-ne-some true (rw o at z))
  not_in i q (Condition.equal r o _ _) = x ∙ enter_not (ordered b c.right) S t (slots e) q (rw o) (λ z. none-ne-some true (rw o at z))

  run_by : Condition b t word → Next b ws k base n X (wanted_of ws (listed_of ws rs (open_condition_of (word_at ws t) e)) (length S))
  unfolding open_condition_of open_condition_by
  run_by (Condition.truth p q) =
      rw p (stays c (go_truth 1) (w, omega arith, x ∙ enter_truth (ordered b c.right) S (closed t e) true (truth_in q))
      (omega (arith, s.0, c.right.few_terms)))
  run_by (Condition.not p q i) =
      rw p
      (wantᶜ c (framed kind.Not 0 0 0 e) (first_of word) (plain_fine kind.Not 0 0 0 e (omega arith) (omega arith) (omega arith) tt) w (childᶜ i)
      (not_in (first_of word) q (condition_at_lem b ws rs c.right c.loaded (first_of word) i.below i.sorted)) (less_one c.right l i))
  run_by (Condition.and p q i j) =
      rw p
      (wantᶜ c (framed kind.And (second_of word) 0 0 e) (first_of word)
      (plain_fine kind.And (second_of word) 0 0 e (omega arith) (omega arith) (omega arith) (childᶜ j)) w (childᶜ i)
      (x ∙ enter_and (ordered b c.right) S t (slots e) q) (less_one c.right l i))
  run_by (Condition.equal p q i j) =
      rw p
      (want c (framed kind.Equal1 (second_of word) 0 0 e) (first_of word)
      (plain_fine kind.Equal1 (second_of word) 0 0 e (omega arith) (omega arith) (omega arith) (child j)) w (child i)
      (x ∙ enter_equal (ordered b c.right) S t (slots e) q) (less_one c.right l i) (less c.right l j))

  pub run_condition_step : Next b ws k base n X (wanted_of ws (listed_of ws rs (open_condition_of (word_at ws t) e)) (length S))
  run_condition_step = run_by (condition_at_lem b ws rs c.right c.loaded t s.0 s.1)
