-- Names for what the inner functions do: no reader of the entry's promise needs them. Assumes nothing.
use Rattle.std.specs.Prelude.{ℕ, zero, suc, ◌+◌, ◌-◌, ◌*◌, ◌/◌, ◌%◌, ◌^◌, ◌≤◌, ◌<◌, ◌≡◌, Bool, false, cond, ◌&&◌, ◌||◌, not, List, [], ◌∷◌, eqb, ltb, leb, length, get_or, set}
use Rattle.std.specs.Int.Bits.{bit_or}
use Rattle.format.specs.Bits.{bits_at}
use Rattle.plan_packed.specs.Syntax.{Expression, Condition, Arguments}
use Rattle.plan_packed.specs.Format
use Rattle.plan_packed.specs.Format.{terms, root, expression, width, Row, layout, Term, term_bit, tag_at, term_at}
use Rattle.plan_packed.specs.Inner.Operands.{tag_of, operand_in, spare_in}
use Rattle.plan_packed.specs.Trees.{ExpressionNode, ConditionNode, ArgumentsNode, Node, node_of, expression_of, expression_at, condition_at, arguments_at}
use Rattle.plan_packed.specs.Refusals.{any_below, sum_below, one_if, wrong_procedure, wrong_term, misplaced, some_operand, wrong_call, wrongly_sorted, times_in}
use Rattle.plan_packed.specs.Refusals.{not_named_once}

-- ---- what the checks so far have shown

-- check 1: a plan of the right length, with these numbers of procedures and terms
pub record Sized (b : List ℕ) (procedures n : ℕ) : Type 0 where
  pub procedures_are : procedures ≡ Format.procedures b
  pub terms_are : n ≡ terms b
  pub long : length b ≡ 8 + 2 * procedures + 5 * n

-- checks 1 to 3
pub record Headed (b : List ℕ) (procedures n : ℕ) : Type 0 where
  pub sized : Sized b procedures n
  pub some_term : 1 ≤ n
  pub few : n ≤ 1024
  pub procedures_right : (p : ℕ) → p < procedures → wrong_procedure b p ≡ false

-- checks 1 to 4
pub record Right (b : List ℕ) (procedures n : ℕ) : Type 0 where
  pub headed : Headed b procedures n
  pub terms_right : (t : ℕ) → t < n → wrong_term b t ≡ false

-- ---- a term taken apart

-- the 40 bits of term t
unfoldable pub word_at : List ℕ → ℕ → ℕ
word_at b t = bits_at b (term_bit b t) 40

-- the term of this tag and row that stands in 40 bits
unfoldable pub in_word : ℕ → ℕ → Row → Term
in_word w k r =
    record {
      tag = k;
      first = r.first;
      value₁ = operand_in 0 r.first w;
      second = r.second;
      value₂ = operand_in (width r.first) r.second w;
      third = r.third;
      value₃ = operand_in (width r.first + width r.second) r.third w;
      spare = spare_in (width r.first + width r.second + width r.third) w;
    }

-- the term that stands in 40 bits
unfoldable pub term_in : ℕ → Term
unfolding in_word layout
term_in w = in_word w (tag_of w) (layout (tag_of w))

-- the terms' 40 bits in an array, and zeros after them
pub record Loaded (b : List ℕ) (n : ℕ) (words : List ℕ) : Type 0 where
  pub size : length words ≡ 1024
  pub each : (t : ℕ) → t < n → get_or words t 0 ≡ word_at b t
  pub rest : (t : ℕ) → n ≤ t → get_or words t 0 ≡ 0

-- the tag of term t in the array
unfoldable pub tag_in : List ℕ → ℕ → ℕ
tag_in words t = tag_of (get_or words t 0)

-- the node of term t in the array
unfoldable pub node_in : List ℕ → ℕ → Node
unfolding node_of term_in
node_in words t = node_of (term_in (get_or words t 0))

-- the children of a node come after term t
abbrev pub NamesLater : ℕ → Node → Type 0
NamesLater t (Node.expression ExpressionNode.null) = Unit {0}
NamesLater t (Node.expression (ExpressionNode.variable x)) = Unit {0}
NamesLater t (Node.expression (ExpressionNode.new fs)) = Unit {0}
NamesLater t (Node.expression (ExpressionNode.read i f)) = t < i
NamesLater t (Node.expression (ExpressionNode.write i f j)) = (t < i) × (t < j)
NamesLater t (Node.expression (ExpressionNode.let_in x i j)) = (t < i) × (t < j)
NamesLater t (Node.expression (ExpressionNode.if i j k)) = (t < i) × (t < j) × (t < k)
NamesLater t (Node.expression (ExpressionNode.while i j)) = (t < i) × (t < j)
NamesLater t (Node.expression (ExpressionNode.call m i)) = t < i
NamesLater t (Node.expression (ExpressionNode.fork i)) = t < i
NamesLater t (Node.expression (ExpressionNode.join i)) = t < i
NamesLater t (Node.expression (ExpressionNode.synch i j)) = (t < i) × (t < j)
NamesLater t (Node.expression (ExpressionNode.signal k i)) = t < i
NamesLater t (Node.condition ConditionNode.truth) = Unit {0}
NamesLater t (Node.condition (ConditionNode.not i)) = t < i
NamesLater t (Node.condition (ConditionNode.and i j)) = (t < i) × (t < j)
NamesLater t (Node.condition (ConditionNode.equal i j)) = (t < i) × (t < j)
NamesLater t (Node.arguments (ArgumentsNode.list i j)) = (t < i) × (t < j)
NamesLater t (Node.arguments ArgumentsNode.list_end) = Unit {0}
NamesLater t Node.unknown = Unit {0}

-- N nodes, in which every child comes after its parent, and nulls past them
pub record Descending (h : ℕ → Node) (N : ℕ) : Type 0 where
  pub past : (t : ℕ) → N ≤ t → h t ≡ Node.expression ExpressionNode.null
  pub below : (t : ℕ) → NamesLater t (h t)

-- the nodes of the array
abbrev pub Ordered : List ℕ → Type 0
Ordered words = Descending (node_in words) 1024

-- ---- check 4

-- a child index not above its parent's, t, or not below the count
abbrev pub outside : ℕ → ℕ → ℕ → Bool
outside n t v = leb v t || leb n v

-- ---- the names of terms, for checks 5 and 6

-- the numbers of the sorts
abbrev pub an_expression : ℕ
an_expression = 1

abbrev pub a_condition : ℕ
a_condition = 2

abbrev pub a_list : ℕ
a_list = 3

-- a child: the number of the sort that the table wants, and the term
pub record Child : Type 0 where
  pub sort : ℕ
  pub index : ℕ

-- the child of this sort at this index
abbrev pub child_of : ℕ → ℕ → Child
child_of s i = record { sort = s; index = i }

-- the children of a node
unfoldable pub children_of : Node → List Child
children_of (Node.expression ExpressionNode.null) = []
children_of (Node.expression (ExpressionNode.variable x)) = []
children_of (Node.expression (ExpressionNode.new fs)) = []
children_of (Node.expression (ExpressionNode.read i f)) = child_of an_expression i ∷ []
children_of (Node.expression (ExpressionNode.write i f j)) = child_of an_expression i ∷ child_of an_expression j ∷ []
children_of (Node.expression (ExpressionNode.let_in x i j)) = child_of an_expression i ∷ child_of an_expression j ∷ []
children_of (Node.expression (ExpressionNode.if i j k)) = child_of a_condition i ∷ child_of an_expression j ∷ child_of an_expression k ∷ []
children_of (Node.expression (ExpressionNode.while i j)) = child_of a_condition i ∷ child_of an_expression j ∷ []
children_of (Node.expression (ExpressionNode.call m i)) = child_of a_list i ∷ []
children_of (Node.expression (ExpressionNode.fork i)) = child_of an_expression i ∷ []
children_of (Node.expression (ExpressionNode.join i)) = child_of an_expression i ∷ []
children_of (Node.expression (ExpressionNode.synch i j)) = child_of an_expression i ∷ child_of an_expression j ∷ []
children_of (Node.expression (ExpressionNode.signal k i)) = child_of an_expression i ∷ []
children_of (Node.condition ConditionNode.truth) = []
children_of (Node.condition (ConditionNode.not i)) = child_of a_condition i ∷ []
children_of (Node.condition (ConditionNode.and i j)) = child_of a_condition i ∷ child_of a_condition j ∷ []
children_of (Node.condition (ConditionNode.equal i j)) = child_of an_expression i ∷ child_of an_expression j ∷ []
children_of (Node.arguments (ArgumentsNode.list i j)) = child_of an_expression i ∷ child_of a_list j ∷ []
children_of (Node.arguments ArgumentsNode.list_end) = []
children_of Node.unknown = []

-- ---- check 5

-- the sort of a tag: "e is an expression (tags 0 to 11), c a condition (12 to 15), list is 16 or 17", and past these expressions again (document 02, E3)
unfoldable pub tag_sort : ℕ → ℕ
tag_sort k = cond (ltb k 12) an_expression (cond (ltb k 16) a_condition (cond (ltb k 18) a_list an_expression))

-- a term of this tag is of another sort than is wanted
unfoldable pub wrong_sort : ℕ → ℕ → Bool
unfolding tag_sort
wrong_sort s k = not (eqb (tag_sort k) s)

-- the lower of two, if the test passes
abbrev pub lower_if : Bool → ℕ → ℕ → ℕ
lower_if on v best = cond (on && ltb v best) v best

-- the lowest of best and those of these children that are of another sort
unfoldable pub lower_all : List ℕ → List Child → ℕ → ℕ
unfolding wrong_sort tag_in
lower_all words [] best = best
lower_all words (k ∷ ks) best = lower_all words ks (lower_if (wrong_sort k.sort (tag_in words k.index)) k.index best)

-- a root of the first procedures
unfoldable pub misplaced_root : List ℕ → ℕ → ℕ → Bool
unfolding any_below
misplaced_root b n t = any_below n (λ p. eqb (root b p) t && misplaced expression (tag_at b t))

-- term t as a root, or as a child of one of the first u terms
unfoldable pub misfits : List ℕ → ℕ → ℕ → Bool
unfolding any_below some_operand
misfits b u t =
    any_below (Format.procedures b) (λ p. eqb (root b p) t && misplaced expression (tag_at b t))
    || any_below u (λ i. some_operand (λ kind v. eqb v t && misplaced kind (tag_at b t)) (term_at b i))

-- that, or a wrong call of the first u terms
unfoldable pub faults : List ℕ → ℕ → ℕ → Bool
unfolding misfits any_below
faults b u t = misfits b u t || any_below u (λ i. eqb i t && wrong_call b t)

-- ---- check 6

-- one more, no further than two
unfoldable pub more_of : ℕ → ℕ
more_of zero = 1
more_of (suc n) = 2

-- these terms named once more
unfoldable pub count_all : List Child → List ℕ → List ℕ
unfolding more_of
count_all [] counts = counts
count_all (k ∷ ks) counts = count_all ks (set counts k.index (more_of (get_or counts k.index 0)))

-- no further than two
unfoldable pub cap : ℕ → ℕ
cap zero = 0
cap (suc zero) = 1
cap (suc (suc n)) = 2

-- how often the first n procedures name term t
unfoldable pub root_times : List ℕ → ℕ → ℕ → ℕ
root_times b n t = sum_below n (λ p. one_if (eqb (root b p) t))

-- how often the procedures and the first n terms name term t
unfoldable pub all_times : List ℕ → ℕ → ℕ → ℕ
all_times b n t = sum_below (Format.procedures b) (λ p. one_if (eqb (root b p) t)) + sum_below n (λ u. times_in (term_at b u) t)

-- the counts of an array are these, no further than two
pub record Counted (f : ℕ → ℕ) (counts : List ℕ) : Type 0 where
  pub size : length counts ≡ 1024
  pub each : (t : ℕ) → t < 1024 → get_or counts t 0 ≡ cap (f t)

-- term t is not counted once
unfoldable pub not_once : List ℕ → ℕ → Bool
not_once counts t = not (eqb (get_or counts t 0) 1)

-- ---- checks 5 and 6 at once, where a plan passes them

-- what is noted of a term that is named where sort s is wanted: the sort, and 4 of a term that was named before
unfoldable pub note_of : ℕ → ℕ → ℕ
note_of zero s = s
note_of (suc n) s = 4

-- these terms named once more
unfoldable pub note_all : List Child → List ℕ → List ℕ
unfolding note_of
note_all [] notes = notes
note_all (k ∷ ks) notes = note_all ks (set notes k.index (note_of (get_or notes k.index 0) k.sort))

-- what the notes of an array say, where f is how often terms are named, and m whether they are misplaced: a term without a note is not named, and one whose
-- note is its own sort is named once, where that sort is wanted
pub record Noted (b : List ℕ) (f : ℕ → ℕ) (m : ℕ → Bool) (notes : List ℕ) : Type 0 where
  pub size : length notes ≡ 1024
  pub unnamed : (t : ℕ) → t < 1024 → get_or notes t 0 ≡ 0 → (f t ≡ 0) × (m t ≡ false)
  pub named : (t : ℕ) → t < 1024 → get_or notes t 0 ≡ tag_sort (tag_at b t) → (f t ≡ 1) × (m t ≡ false)

-- the notes after the procedures
abbrev pub RootsNoted : List ℕ → ℕ → List ℕ → Type 0
RootsNoted b n notes = Noted b (root_times b n) (misplaced_root b n) notes

-- the notes after the procedures and the first n terms
abbrev pub TermsNoted : List ℕ → ℕ → List ℕ → Type 0
TermsNoted b n notes = Noted b (all_times b n) (misfits b n) notes

-- none of the first n terms is wrong for check 5 or 6
abbrev pub Fitting : List ℕ → ℕ → Type 0
Fitting b n = (t : ℕ) → t < n → (wrongly_sorted b t ≡ false) × (not_named_once b t ≡ false)

-- ---- check 7

-- bit x of a number
abbrev pub bit_of : ℕ → ℕ → Bool
bit_of m x = eqb (m / 2 ^ x % 2) 1

-- the slots of a mask
unfoldable pub slots : ℕ → ℕ → Bool
slots m x = bit_of m x

-- what is bound in a let's second operand; slot 15 binds nothing
unfoldable pub with_slot : ℕ → ℕ → ℕ
with_slot m x = cond (eqb x 15) m (bit_or m (2 ^ x))

-- the tree of the expression at term t of the array
unfoldable pub tree_in : List ℕ → ℕ → Expression
unfolding node_in expression_at
tree_in words t = expression_at (node_in words) (1024 - t) t

-- the tree of the condition at term t of the array
unfoldable pub condition_in : List ℕ → ℕ → Condition
unfolding node_in expression_at
condition_in words t = condition_at (node_in words) (1024 - t) t

-- the tree of the list at term t of the array
unfoldable pub list_in : List ℕ → ℕ → Arguments
unfolding node_in expression_at
list_in words t = arguments_at (node_in words) (1024 - t) t

-- the expression of a term without children, by its 40 bits
unfoldable pub leaf_in : ℕ → Expression
unfolding node_of term_in expression_of
leaf_in w = expression_of (λ i. Expression.literal 0) (λ i. Condition.truth) (λ i. Arguments.end) (node_of (term_in w))
