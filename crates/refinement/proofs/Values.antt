-- Values that need no move: the code's look at a term finds the value that the machine finds, and none where it finds none. Assumes nothing.
use Prim.Native.Nat.{ℕ, ◌<◌}
use native.Mathlib.Omega.{arith}
use mathlib.Core.Path.{◌≡◌, refl, sym, ap, ◌∙◌}
use mathlib.Core.List.{List}
use mathlib.Core.Option.{some, none}
use lib.Dec.{eqb}
use Rattle.plan_packed.specs.Trees.{ExpressionNode, ConditionNode, Node, node_at}
use Rattle.plan_packed.proofs.Accepted.{Accepted}
use Rattle.rules.specs.Context.{false_when}
use Rattle.machine.specs.Inner.Refocusing.{value_in, bool_in, bool_of, is_true}
use Rattle.machine.specs.Inner.Refocusing as machine
use Rattle.run_term_words.specs.Inner.Slots.{slot_of}
use Rattle.plan_packed.specs.Inner.Operands.{tag_of, first_of, slot_bits}
use Rattle.run_term_words.specs.Inner.Words.{word_at, value_by, value_of, truth_by, truth_of}
use Rattle.refinement.proofs.Meant.{WordsAndRoots, closed, IsExpression, IsCondition}
use Rattle.refinement.proofs.SlotLaws.{slot_below}
use Rattle.refinement.proofs.Words.{Expression, Condition, expression_at_lem, condition_at_lem}

-- expression t with slots e
pub data Valued (b ws : List ℕ) (t e : ℕ) : Type 0 where
  value : value_of ws e t < 32 → value_in (node_at b) (closed t e) ≡ some (value_of ws e t) → Valued b ws t e
  other : value_of ws e t ≡ 32 → value_in (node_at b) (closed t e) ≡ none → Valued b ws t e

-- condition t with slots e
pub data Tested (b ws : List ℕ) (t e : ℕ) : Type 0 where
  value : truth_of ws t < 2 → bool_in (node_at b) (closed t e) ≡ some (eqb (truth_of ws t) 1) → Tested b ws t e
  other : truth_of ws t ≡ 2 → bool_in (node_at b) (closed t e) ≡ none → Tested b ws t e

-- ---- an expression

module _ (b ws : List ℕ) (t e : ℕ) where
  valued_by : (n : ℕ) → value_of ws e t ≡ n → n < 32 → value_in (node_at b) (closed t e) ≡ some n → Valued b ws t e
  valued_by n p l q = Valued.value (rw p l) (q ∙ ap some (sym p))

  at_null : tag_of (word_at ws t) ≡ 0 → node_at b t ≡ Node.expression ExpressionNode.null → Valued b ws t e
  unfolding value_of value_by value_in machine.value_of
  at_null p q = valued_by 0 (rw p) (omega arith) (rw q)

  at_variable : tag_of (word_at ws t) ≡ 1 → node_at b t ≡ Node.expression (ExpressionNode.variable (slot_bits (word_at ws t))) → Valued b ws t e
  unfolding value_of value_by value_in machine.value_of
  at_variable p q = valued_by (slot_of e (slot_bits (word_at ws t))) (rw p) (slot_below e (slot_bits (word_at ws t))) (rw q)

  at_any : Expression b t (word_at ws t) → Valued b ws t e
  unfolding value_of value_by value_in machine.value_of
  at_any (Expression.null p q) = at_null p q
  at_any (Expression.variable p q) = at_variable p q
  at_any (Expression.new p q _) = Valued.other (rw p) (rw q)
  at_any (Expression.read p q _ _) = Valued.other (rw p) (rw q)
  at_any (Expression.write p q _ _ _) = Valued.other (rw p) (rw q)
  at_any (Expression.let_in p q _ _ _) = Valued.other (rw p) (rw q)
  at_any (Expression.if p q _ _ _) = Valued.other (rw p) (rw q)
  at_any (Expression.while p q _ _) = Valued.other (rw p) (rw q)
  at_any (Expression.call p q _ _ _) = Valued.other (rw p) (rw q)
  at_any (Expression.fork p q _) = Valued.other (rw p) (rw q)
  at_any (Expression.join p q _) = Valued.other (rw p) (rw q)
  at_any (Expression.synch p q _ _) = Valued.other (rw p) (rw q)
  at_any (Expression.wait p q _) = Valued.other (rw p) (rw q)
  at_any (Expression.notify p q _) = Valued.other (rw p) (rw q)
  at_any (Expression.notify_all p q _) = Valued.other (rw p) (rw q)

-- ---- a condition

module _ (b ws : List ℕ) (t e : ℕ) where
  tested_by : (n : ℕ) → truth_of ws t ≡ n → n < 2 → bool_in (node_at b) (closed t e) ≡ some (eqb n 1) → Tested b ws t e
  tested_by n p l q = Tested.value (rw p l) (q ∙ ap (λ (n : ℕ). some (eqb n 1)) (sym p))

  at_truth : tag_of (word_at ws t) ≡ 12 → node_at b t ≡ Node.condition ConditionNode.truth → Tested b ws t e
  unfolding truth_of truth_by bool_in bool_of
  at_truth p q = tested_by 1 (rw p) (omega arith) (rw q)

  at_not : (i : ℕ) → i ≡ first_of (word_at ws t) → tag_of (word_at ws t) ≡ 13 → node_at b t ≡ Node.condition (ConditionNode.not i) → Condition b i (word_at ws i)
      → Tested b ws t e
  unfolding truth_of truth_by bool_in bool_of is_true false_when
  at_not i f p q (Condition.truth r s) = tested_by 0 (rw (p, ← f, r)) (omega arith) (rw (q, s))
  at_not i f p q (Condition.not r s _) = Tested.other (rw (p, ← f, r)) (rw (q, s))
  at_not i f p q (Condition.and r s _ _) = Tested.other (rw (p, ← f, r)) (rw (q, s))
  at_not i f p q (Condition.equal r s _ _) = Tested.other (rw (p, ← f, r)) (rw (q, s))

module _ (b ws rs : List ℕ) (a : Accepted b) (loaded : WordsAndRoots b ws rs) where
  pub valued : (t e : ℕ) → IsExpression b t → Valued b ws t e
  valued t e s = at_any b ws t e (expression_at_lem b ws rs a loaded t s.0 s.1)

  pub tested : (t e : ℕ) → IsCondition b t → Tested b ws t e
  unfolding truth_of truth_by bool_in bool_of
  tested t e s = at (condition_at_lem b ws rs a loaded t s.0 s.1)
    where
      at : Condition b t (word_at ws t) → Tested b ws t e
      at (Condition.truth p q) = at_truth b ws t e p q
      at (Condition.not p q c) = at_not b ws t e (first_of (word_at ws t)) refl p q (condition_at_lem b ws rs a loaded (first_of (word_at ws t)) c.below c.sorted)
      at (Condition.and p q _ _) = Tested.other (rw p) (rw q)
      at (Condition.equal p q _ _) = Tested.other (rw p) (rw q)
