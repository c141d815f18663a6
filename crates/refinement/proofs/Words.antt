-- A term by its word: the numbers that the code reads from the 40 bits are the operands of the term's node, and they fit. Assumes nothing.
use Prim.Native.Nat.{ℕ, suc, ◌+◌, ◌%◌, ◌≤◌, ◌<◌}
use native.Mathlib.Omega.{arith}
use native.Mathlib.Decide.{ℕ_discrete}
use mathlib.Core.Path.{◌≡◌, sym, ap, ◌∙◌, subst}
use mathlib.Core.Bool.{false}
use mathlib.Core.List.{List}
use mathlib.Core.Logic.{◌⊎◌, inl, inr}
use lib.Dec.{eqb}
use Rattle.plan_packed.specs.Syntax.{Signal}
use Rattle.plan_packed.specs.Format.{procedures, terms, mask_bit, fields_from, expression, condition, list, width, table, layout, tag_at, term_at}
use Rattle.plan_packed.specs.Trees.{ExpressionNode, ConditionNode, ArgumentsNode, Node, binder_of, nodes, node_at}
use Rattle.plan_packed.specs.Inner.Steps as packed
use Rattle.plan_packed.proofs.WellFormed.{count}
use Rattle.plan_packed.proofs.Accepted.{OfSort, Child, Fits, RightTerm, Accepted}
use Rattle.plan_packed.proofs.Reading.{tag_in_lem, first_was, second_was, third_was}
use Rattle.plan_packed.proofs.Children.{node_of_tag}
use Rattle.plan_packed.proofs.Decoded.{node_is}
use Rattle.plan_packed.proofs.TreeLaws.{treeᵃ}
use Rattle.machine.proofs.CallLists.{call_fits}
use Rattle.plan_packed.specs.Inner.Operands.{tag_of, operand_in, first_of, second_of, third_of, slot_bits, field_bits, write_second, let_first, let_second, procedure_bits}
use Rattle.plan_packed.specs.Inner.Operands.{list_bits, mask_bits}
use Rattle.run_term_words.specs.Inner.Words.{word_at}
use Rattle.refinement.proofs.Meant.{WordsAndRoots}

-- ---- what a term is, by its word

-- an expression
pub data Expression (b : List ℕ) (t w : ℕ) : Type 0 where
  null : tag_of w ≡ 0 → node_at b t ≡ Node.expression ExpressionNode.null → Expression b t w
  variable : tag_of w ≡ 1 → node_at b t ≡ Node.expression (ExpressionNode.variable (slot_bits w)) → Expression b t w
  new : tag_of w ≡ 2 → node_at b t ≡ Node.expression (ExpressionNode.new (fields_from (mask_bits w) 0 32)) → eqb (mask_bit (mask_bits w) 0) 1 ≡ false
      → Expression b t w
  read : tag_of w ≡ 3 → node_at b t ≡ Node.expression (ExpressionNode.read (first_of w) (field_bits w)) → Child b t expression (first_of w) → 0 < field_bits w
      → Expression b t w
  write : tag_of w ≡ 4 → node_at b t ≡ Node.expression (ExpressionNode.write (first_of w) (field_bits w) (write_second w)) → Child b t expression (first_of w)
      → 0 < field_bits w → Child b t expression (write_second w) → Expression b t w
  let_in : tag_of w ≡ 5 → node_at b t ≡ Node.expression (ExpressionNode.let_in (binder_of (slot_bits w)) (let_first w) (let_second w))
      → (slot_bits w < 8) ⊎ (slot_bits w ≡ 15) → Child b t expression (let_first w) → Child b t expression (let_second w) → Expression b t w
  if : tag_of w ≡ 6 → node_at b t ≡ Node.expression (ExpressionNode.if (first_of w) (second_of w) (third_of w)) → Child b t condition (first_of w)
      → Child b t expression (second_of w) → Child b t expression (third_of w) → Expression b t w
  while : tag_of w ≡ 7 → node_at b t ≡ Node.expression (ExpressionNode.while (first_of w) (second_of w)) → Child b t condition (first_of w)
      → Child b t expression (second_of w) → Expression b t w
  call : tag_of w ≡ 8 → node_at b t ≡ Node.expression (ExpressionNode.call (procedure_bits w) (list_bits w)) → procedure_bits w < procedures b
      → Child b t list (list_bits w) → count (treeᵃ (node_at b) (terms b) (list_bits w)) ≤ 8 → Expression b t w
  fork : tag_of w ≡ 9 → node_at b t ≡ Node.expression (ExpressionNode.fork (first_of w)) → Child b t expression (first_of w) → Expression b t w
  join : tag_of w ≡ 10 → node_at b t ≡ Node.expression (ExpressionNode.join (first_of w)) → Child b t expression (first_of w) → Expression b t w
  synch : tag_of w ≡ 11 → node_at b t ≡ Node.expression (ExpressionNode.synch (first_of w) (second_of w)) → Child b t expression (first_of w)
      → Child b t expression (second_of w) → Expression b t w
  wait : tag_of w ≡ 18 → node_at b t ≡ Node.expression (ExpressionNode.signal Signal.wait (first_of w)) → Child b t expression (first_of w) → Expression b t w
  notify : tag_of w ≡ 19 → node_at b t ≡ Node.expression (ExpressionNode.signal Signal.notify (first_of w)) → Child b t expression (first_of w) → Expression b t w
  notify_all : tag_of w ≡ 20 → node_at b t ≡ Node.expression (ExpressionNode.signal Signal.notify_all (first_of w)) → Child b t expression (first_of w)
      → Expression b t w

-- a condition
pub data Condition (b : List ℕ) (t w : ℕ) : Type 0 where
  truth : tag_of w ≡ 12 → node_at b t ≡ Node.condition ConditionNode.truth → Condition b t w
  not : tag_of w ≡ 13 → node_at b t ≡ Node.condition (ConditionNode.not (first_of w)) → Child b t condition (first_of w) → Condition b t w
  and : tag_of w ≡ 14 → node_at b t ≡ Node.condition (ConditionNode.and (first_of w) (second_of w)) → Child b t condition (first_of w)
      → Child b t condition (second_of w) → Condition b t w
  equal : tag_of w ≡ 15 → node_at b t ≡ Node.condition (ConditionNode.equal (first_of w) (second_of w)) → Child b t expression (first_of w)
      → Child b t expression (second_of w) → Condition b t w

-- the rest of a call's list
pub data Rest (b : List ℕ) (t w : ℕ) : Type 0 where
  more : tag_of w ≡ 16 → node_at b t ≡ Node.arguments (ArgumentsNode.list (first_of w) (second_of w)) → Child b t expression (first_of w)
      → Child b t list (second_of w) → Rest b t w
  end : tag_of w ≡ 17 → node_at b t ≡ Node.arguments ArgumentsNode.list_end → Rest b t w

-- ---- the operands

-- the operands of a term of tag k, in its word w
abbrev first_in : ℕ → ℕ → ℕ
first_in k w = operand_in 0 (layout k).first w

abbrev second_in : ℕ → ℕ → ℕ
second_in k w = operand_in (width (layout k).first) (layout k).second w

abbrev third_in : ℕ → ℕ → ℕ
third_in k w = operand_in (width (layout k).first + width (layout k).second) (layout k).third w

-- node and fits of a term of tag k, by the values of its operands
record Known (b : List ℕ) (t k x y z : ℕ) : Type 0 where
  node : node_at b t ≡ node_of_tag k x y z
  first : Fits b t (layout k).first x
  second : Fits b t (layout k).second y
  third : Fits b t (layout k).third z

known_by : (b : List ℕ) (t k x y z : ℕ) → RightTerm b t → tag_at b t ≡ k → x ≡ (term_at b t).value₁ → y ≡ (term_at b t).value₂ → z ≡ (term_at b t).value₃
    → Known b t k x y z
known_by b t k x y z right e p₁ p₂ p₃ = rw (p₁, p₂, p₃) (record {
  node = node_is b t k e;
  first = subst (λ (j : ℕ). Fits b t (layout j).first (term_at b t).value₁) e right.first_fits;
  second = subst (λ (j : ℕ). Fits b t (layout j).second (term_at b t).value₂) e right.second_fits;
  third = subst (λ (j : ℕ). Fits b t (layout j).third (term_at b t).value₃) e right.third_fits;
})

-- a binder's operand is a slot, or 15 for none
slot_sort : (x : ℕ) → ((x ≡ 15 → ⊥) → x ≤ 7) → (x < 8) ⊎ (x ≡ 15)
slot_sort x f = at (ℕ_discrete x 15)
  where
    at : Dec (x ≡ 15) → (x < 8) ⊎ (x ≡ 15)
    at (yes e) = inr e
    at (no n) = let l = f n in inl (omega arith)

module _ (b ws rs : List ℕ) (a : Accepted b) (loaded : WordsAndRoots b ws rs) (t : ℕ) (h : t < terms b) where
  abbrev w : ℕ
  w = word_at ws t

  word_is : word_at ws t ≡ packed.word_at b t
  unfolding word_at packed.word_at
  word_is = let m : t % 1024 ≡ t = omega (arith, a.few_terms) in rw m (loaded.words t h)

  tagged : (k : ℕ) → tag_at b t ≡ k → tag_of w ≡ k
  tagged k e = ap tag_of word_is ∙ sym (tag_in_lem b t) ∙ e

  known : (k : ℕ) → tag_at b t ≡ k → Known b t k (first_in k w) (second_in k w) (third_in k w)
  known k e =
      let q = tagged k e in
      known_by b t k (first_in k w) (second_in k w) (third_in k w) (a.each_term t h) e (first_was b t w word_is k q) (second_was b t w word_is k q)
      (third_was b t w word_is k q)

  at_null : tag_at b t ≡ 0 → Expression b t w
  unfolding nodes
  at_null e = Expression.null (tagged 0 e) (node_is b t 0 e)

  at_variable : tag_at b t ≡ 1 → Expression b t w
  unfolding nodes layout table
  at_variable e = let n = known 1 e in Expression.variable (tagged 1 e) n.node

  at_new : tag_at b t ≡ 2 → Expression b t w
  unfolding nodes layout table
  at_new e = let n = known 2 e in Expression.new (tagged 2 e) n.node n.first.0

  at_read : tag_at b t ≡ 3 → Expression b t w
  unfolding nodes layout table
  at_read e = let n = known 3 e in Expression.read (tagged 3 e) n.node n.first n.second.0

  at_write : tag_at b t ≡ 4 → Expression b t w
  unfolding nodes layout table
  at_write e = let n = known 4 e in Expression.write (tagged 4 e) n.node n.first n.second.0 n.third

  at_let : tag_at b t ≡ 5 → Expression b t w
  unfolding nodes layout table
  at_let e = let n = known 5 e in Expression.let_in (tagged 5 e) n.node (slot_sort (slot_bits w) n.first) n.second n.third

  at_if : tag_at b t ≡ 6 → Expression b t w
  unfolding nodes layout table
  at_if e = let n = known 6 e in Expression.if (tagged 6 e) n.node n.first n.second n.third

  at_while : tag_at b t ≡ 7 → Expression b t w
  unfolding nodes layout table
  at_while e = let n = known 7 e in Expression.while (tagged 7 e) n.node n.first n.second

  at_call : tag_at b t ≡ 8 → Expression b t w
  unfolding nodes layout table
  at_call e =
      let n = known 8 e in
      let q : list_bits w ≡ (term_at b t).value₂ = second_was b t w word_is 8 (tagged 8 e) in
      Expression.call (tagged 8 e) n.node n.first n.second (rw q (call_fits b a t h e))

  at_fork : tag_at b t ≡ 9 → Expression b t w
  unfolding nodes layout table
  at_fork e = let n = known 9 e in Expression.fork (tagged 9 e) n.node n.first

  at_join : tag_at b t ≡ 10 → Expression b t w
  unfolding nodes layout table
  at_join e = let n = known 10 e in Expression.join (tagged 10 e) n.node n.first

  at_synch : tag_at b t ≡ 11 → Expression b t w
  unfolding nodes layout table
  at_synch e = let n = known 11 e in Expression.synch (tagged 11 e) n.node n.first n.second

  at_wait : tag_at b t ≡ 18 → Expression b t w
  unfolding nodes layout table
  at_wait e = let n = known 18 e in Expression.wait (tagged 18 e) n.node n.first

  at_notify : tag_at b t ≡ 19 → Expression b t w
  unfolding nodes layout table
  at_notify e = let n = known 19 e in Expression.notify (tagged 19 e) n.node n.first

  at_notify_all : tag_at b t ≡ 20 → Expression b t w
  unfolding nodes layout table
  at_notify_all e = let n = known 20 e in Expression.notify_all (tagged 20 e) n.node n.first

  at_truth : tag_at b t ≡ 12 → Condition b t w
  unfolding nodes
  at_truth e = Condition.truth (tagged 12 e) (node_is b t 12 e)

  at_not : tag_at b t ≡ 13 → Condition b t w
  unfolding nodes layout table
  at_not e = let n = known 13 e in Condition.not (tagged 13 e) n.node n.first

  at_and : tag_at b t ≡ 14 → Condition b t w
  unfolding nodes layout table
  at_and e = let n = known 14 e in Condition.and (tagged 14 e) n.node n.first n.second

  at_equal : tag_at b t ≡ 15 → Condition b t w
  unfolding nodes layout table
  at_equal e = let n = known 15 e in Condition.equal (tagged 15 e) n.node n.first n.second

  at_more : tag_at b t ≡ 16 → Rest b t w
  unfolding nodes layout table
  at_more e = let n = known 16 e in Rest.more (tagged 16 e) n.node n.first n.second

  at_end : tag_at b t ≡ 17 → Rest b t w
  unfolding nodes
  at_end e = Rest.end (tagged 17 e) (node_is b t 17 e)

  -- ---- by the sort

  from : {A : Type 0} (k : ℕ) → k ≤ tag_at b t → (tag_at b t ≡ k → A) → (suc k ≤ tag_at b t → A) → A
  from {A} k l f g = at (ℕ_discrete (tag_at b t) k)
    where
      at : Dec (tag_at b t ≡ k) → A
      at (yes e) = f e
      at (no n) = g (omega arith)

  last : (k : ℕ) → k ≤ tag_at b t → tag_at b t ≤ k → tag_at b t ≡ k
  last k p q = omega arith

  pub expression_at_lem : OfSort expression (tag_at b t) → Expression b t (word_at ws t)
  expression_at_lem (inl s) =
      from 0 (omega arith) at_null (λ l. from 1 l at_variable (λ l. from 2 l at_new (λ l. from 3 l at_read (λ l. from 4 l at_write (λ l. from 5 l at_let (λ l.
      from 6 l at_if (λ l. from 7 l at_while (λ l. from 8 l at_call (λ l. from 9 l at_fork (λ l. from 10 l at_join (λ l. at_synch (last 11 l s))))))))))))
  expression_at_lem (inr s) = from 18 s.0 at_wait (λ l. from 19 l at_notify (λ l. at_notify_all (last 20 l s.1)))

  pub condition_at_lem : OfSort condition (tag_at b t) → Condition b t (word_at ws t)
  condition_at_lem s = from 12 s.0 at_truth (λ l. from 13 l at_not (λ l. from 14 l at_and (λ l. at_equal (last 15 l s.1))))

  pub rest_at : OfSort list (tag_at b t) → Rest b t (word_at ws t)
  rest_at s = from 16 s.0 at_more (λ l. at_end (last 17 l s.1))
