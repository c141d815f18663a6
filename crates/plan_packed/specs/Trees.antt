-- The trees that the terms of a plan stand for (document 01's table of terms, document 001's figure 5). Assumes nothing.
use Rattle.std.specs.Prelude.{ℕ, zero, suc, ◌-◌, ◌≡◌, cond, List, [], ◌∷◌, eqb, get_or}
use Rattle.std.proofs.Math.Option.{Option, some, none}
use Rattle.format.specs.Version.{version_of}
use Rattle.plan_packed.specs.Syntax.{Signal, Expression, Condition, Arguments, Procedure, Program}
use Rattle.plan_packed.specs.Format.{version, procedures, terms, volatiles, fields_from, parameters, root, Term, term_at}

-- ---- a term with its operands' values, by sort; its children are term indexes

-- "e is an expression (tags 0 to 11)", and "tag 18 wait, 19 notify, 20 notify all" (document 02, E3)
pub data ExpressionNode : Type 0 where
  null : ExpressionNode
  variable : ℕ → ExpressionNode
  new : List ℕ → ExpressionNode
  read : ℕ → ℕ → ExpressionNode
  write : ℕ → ℕ → ℕ → ExpressionNode
  let_in : Option ℕ → ℕ → ℕ → ExpressionNode
  if : ℕ → ℕ → ℕ → ExpressionNode
  while : ℕ → ℕ → ExpressionNode
  call : ℕ → ℕ → ExpressionNode
  fork : ℕ → ExpressionNode
  join : ℕ → ExpressionNode
  synch : ℕ → ℕ → ExpressionNode
  signal : Signal → ℕ → ExpressionNode

-- "c a condition (12 to 15)"
pub data ConditionNode : Type 0 where
  truth : ConditionNode
  not : ℕ → ConditionNode
  and : ℕ → ℕ → ConditionNode
  equal : ℕ → ℕ → ConditionNode

-- "list is 16 or 17", a call's list
pub data ArgumentsNode : Type 0 where
  list : ℕ → ℕ → ArgumentsNode
  list_end : ArgumentsNode

-- a term of one of the sorts
pub data Node : Type 0 where
  expression : ExpressionNode → Node
  condition : ConditionNode → Node
  arguments : ArgumentsNode → Node
  unknown : Node  -- a tag over 20, which check 4 refuses

-- "slot 0 to 7, or 15 binds nothing"
unfoldable pub binder_of : ℕ → Option ℕ
binder_of x = cond (eqb x 15) none (some x)

-- "| tag | term | operands |": a row for each tag, over its operands' values
unfoldable pub nodes : List (ℕ → ℕ → ℕ → Node)
unfolding fields_from binder_of
nodes =
    (λ x y z. expression null)  -- 0 null
    ∷ (λ x y z. expression (variable x))  -- 1 variable
    ∷ (λ x y z. expression (new (fields_from x 0 32)))  -- 2 new
    ∷ (λ x y z. expression (read x y))  -- 3 read
    ∷ (λ x y z. expression (write x y z))  -- 4 write
    ∷ (λ x y z. expression (let_in (binder_of x) y z))  -- 5 let
    ∷ (λ x y z. expression (if x y z))  -- 6 if
    ∷ (λ x y z. expression (while x y))  -- 7 while
    ∷ (λ x y z. expression (call x y))  -- 8 call
    ∷ (λ x y z. expression (fork x))  -- 9 fork
    ∷ (λ x y z. expression (join x))  -- 10 join
    ∷ (λ x y z. expression (synch x y))  -- 11 synch
    ∷ (λ x y z. condition truth)  -- 12 true
    ∷ (λ x y z. condition (not x))  -- 13 not
    ∷ (λ x y z. condition (and x y))  -- 14 and
    ∷ (λ x y z. condition (equal x y))  -- 15 equal
    ∷ (λ x y z. arguments (list x y))  -- 16 list
    ∷ (λ x y z. arguments list_end)  -- 17 list end
    ∷ (λ x y z. expression (signal Signal.wait x))  -- 18 wait
    ∷ (λ x y z. expression (signal Signal.notify x))  -- 19 notify
    ∷ (λ x y z. expression (signal Signal.notify_all x))  -- 20 notify all
    ∷ []

-- the node of a term: its row of the table, over its operands
unfoldable pub node_of : Term → Node
unfolding nodes
node_of m = get_or nodes m.tag (λ x y z. unknown) m.value₁ m.value₂ m.value₃

-- the node of term t of the plan
unfoldable pub node_at : List ℕ → ℕ → Node
unfolding node_of term_at
node_at b t = node_of (term_at b t)

-- ---- the trees, as a relation: term t of a table of nodes stands for this tree. "The only literal in a plan is null."

abbrev mutual
  pub Stands : (ℕ → Node) → ℕ → Expression → Type 0
  Stands h t (Expression.literal o) = (h t ≡ expression null) × (o ≡ 0)
  Stands h t (Expression.variable x) = h t ≡ expression (variable x)
  Stands h t (Expression.new fs) = h t ≡ expression (new fs)
  Stands h t (Expression.read e f) = (i : ℕ) × (h t ≡ expression (read i f)) × Stands h i e
  Stands h t (Expression.write e f e') = (i : ℕ) × (j : ℕ) × (h t ≡ expression (write i f j)) × Stands h i e × Stands h j e'
  Stands h t (Expression.let_in x e e') = (i : ℕ) × (j : ℕ) × (h t ≡ expression (let_in x i j)) × Stands h i e × Stands h j e'
  Stands h t (Expression.if c e e') = (i : ℕ) × (j : ℕ) × (k : ℕ) × (h t ≡ expression (if i j k)) × Standsᶜ h i c × Stands h j e × Stands h k e'
  Stands h t (Expression.while c e) = (i : ℕ) × (j : ℕ) × (h t ≡ expression (while i j)) × Standsᶜ h i c × Stands h j e
  Stands h t (Expression.call m es) = (i : ℕ) × (h t ≡ expression (call m i)) × Standsᵃ h i es
  Stands h t (Expression.fork e) = (i : ℕ) × (h t ≡ expression (fork i)) × Stands h i e
  Stands h t (Expression.join e) = (i : ℕ) × (h t ≡ expression (join i)) × Stands h i e
  Stands h t (Expression.synch e e') = (i : ℕ) × (j : ℕ) × (h t ≡ expression (synch i j)) × Stands h i e × Stands h j e'
  Stands h t (Expression.hold o e) = ⊥
  Stands h t (Expression.signal k e) = (i : ℕ) × (h t ≡ expression (signal k i)) × Stands h i e
  Stands h t (Expression.waiting o) = ⊥

  pub Standsᶜ : (ℕ → Node) → ℕ → Condition → Type 0
  Standsᶜ h t Condition.truth = h t ≡ condition truth
  Standsᶜ h t (Condition.not c) = (i : ℕ) × (h t ≡ condition (not i)) × Standsᶜ h i c
  Standsᶜ h t (Condition.and c c') = (i : ℕ) × (j : ℕ) × (h t ≡ condition (and i j)) × Standsᶜ h i c × Standsᶜ h j c'
  Standsᶜ h t (Condition.equal e e') = (i : ℕ) × (j : ℕ) × (h t ≡ condition (equal i j)) × Stands h i e × Stands h j e'

  pub Standsᵃ : (ℕ → Node) → ℕ → Arguments → Type 0
  Standsᵃ h t Arguments.end = h t ≡ arguments list_end
  Standsᵃ h t (Arguments.argument e es) = (i : ℕ) × (j : ℕ) × (h t ≡ arguments (list i j)) × Stands h i e × Standsᵃ h j es

-- ---- the trees, as a function

-- A node as the top of a tree, given the trees of its children. A node of another sort, which check 5 refuses, is read as null, as true or as
-- the end of a list.
unfoldable pub expression_of : (ℕ → Expression) → (ℕ → Condition) → (ℕ → Arguments) → Node → Expression
expression_of e c l (expression null) = Expression.literal 0
expression_of e c l (expression (variable x)) = Expression.variable x
expression_of e c l (expression (new fs)) = Expression.new fs
expression_of e c l (expression (read i f)) = Expression.read (e i) f
expression_of e c l (expression (write i f j)) = Expression.write (e i) f (e j)
expression_of e c l (expression (let_in x i j)) = Expression.let_in x (e i) (e j)
expression_of e c l (expression (if i j k)) = Expression.if (c i) (e j) (e k)
expression_of e c l (expression (while i j)) = Expression.while (c i) (e j)
expression_of e c l (expression (call m i)) = Expression.call m (l i)
expression_of e c l (expression (fork i)) = Expression.fork (e i)
expression_of e c l (expression (join i)) = Expression.join (e i)
expression_of e c l (expression (synch i j)) = Expression.synch (e i) (e j)
expression_of e c l (expression (signal k i)) = Expression.signal k (e i)
expression_of e c l (condition x) = Expression.literal 0
expression_of e c l (arguments x) = Expression.literal 0
expression_of e c l unknown = Expression.literal 0

-- the same of a condition
unfoldable pub condition_of : (ℕ → Expression) → (ℕ → Condition) → Node → Condition
condition_of e c (condition truth) = Condition.truth
condition_of e c (condition (not i)) = Condition.not (c i)
condition_of e c (condition (and i j)) = Condition.and (c i) (c j)
condition_of e c (condition (equal i j)) = Condition.equal (e i) (e j)
condition_of e c (expression x) = Condition.truth
condition_of e c (arguments x) = Condition.truth
condition_of e c unknown = Condition.truth

-- and of a call's list
unfoldable pub arguments_of : (ℕ → Expression) → (ℕ → Arguments) → Node → Arguments
arguments_of e l (arguments (list i j)) = Arguments.argument (e i) (l j)
arguments_of e l (arguments list_end) = Arguments.end
arguments_of e l (expression x) = Arguments.end
arguments_of e l (condition x) = Arguments.end
arguments_of e l unknown = Arguments.end

-- The trees at term t of a table, which has at most n terms from t on: "A child's index is greater than its parent's."
unfoldable mutual
  unfolding expression_of condition_of arguments_of

  pub expression_at : (ℕ → Node) → ℕ → ℕ → Expression
  expression_at h zero t = Expression.literal 0
  expression_at h (suc n) t = expression_of (λ i. expression_at h n i) (λ i. condition_at h n i) (λ i. arguments_at h n i) (h t)

  pub condition_at : (ℕ → Node) → ℕ → ℕ → Condition
  condition_at h zero t = Condition.truth
  condition_at h (suc n) t = condition_of (λ i. expression_at h n i) (λ i. condition_at h n i) (h t)

  pub arguments_at : (ℕ → Node) → ℕ → ℕ → Arguments
  arguments_at h zero t = Arguments.end
  arguments_at h (suc n) t = arguments_of (λ i. expression_at h n i) (λ i. arguments_at h n i) (h t)

-- the tree of the expression at term t
unfoldable pub tree_at : List ℕ → ℕ → Expression
unfolding node_at terms expression_at
tree_at b t = expression_at (node_at b) (terms b - t) t

-- ---- the program

-- procedure p: its parameters, and the tree of its root term
unfoldable pub procedure_at : List ℕ → ℕ → Procedure
unfolding parameters root tree_at
procedure_at b p = record { parameters = parameters b p; body = tree_at b (root b p) }

-- n procedures from procedure p on
unfoldable pub procedures_from : List ℕ → ℕ → ℕ → List Procedure
unfolding procedure_at
procedures_from b p zero = []
procedures_from b p (suc n) = procedure_at b p ∷ procedures_from b (suc p) n

-- the program that an accepted plan's bytes are
unfoldable pub program_of : List ℕ → Program
unfolding procedures_from procedures version volatiles version_of
program_of b = record { version = version_of (version b); volatiles = volatiles b; procedures = procedures_from b 0 (procedures b) }
