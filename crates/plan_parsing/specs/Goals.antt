-- What is still to be read of a plan's text, and what has been read (docs/FORMAT.md, "A plan as text"). Assumes nothing.
use Rattle.std.specs.Prelude.{ℕ, zero, suc, ◌-◌, Bool, true, false, List, [], ◌∷◌, get_or, drop}
use Rattle.plan_packed.specs.Syntax.{Signal, Expression, Condition, Arguments}
use Rattle.plan_packed.specs.Format.{fields_from}
use Rattle.plan_packed.specs.Trees.{binder_of}
use Rattle.plan_notation.specs.Tokens.{in_word, then_word, else_word, do_word, opening, closing, equals}
use Rattle.plan_notation.specs.Shown.{loose, testing, prefix, tight}

-- the sort that a place asks for
pub data Sort : Type 0 where
  either expression condition : Sort

-- what is to be read, or to be made of what has been read
pub data Goal : Type 0 where
  expect : ℕ → Goal  -- this token
  operand : ℕ → Sort → Goal  -- an operand, at a place that asks for this binding and this sort
  more : ℕ → Sort → Goal  -- what may follow it there: `.f`, `.f := e`, `= e`, `and c`
  make : ℕ → Goal  -- a term of this tag, of what was read last
  binder : Goal  -- a slot, or `-`
  fields : ℕ → ℕ → Goal  -- so many fields at most, each higher than this one, and `)`
  procedure : Goal  -- the number of a procedure, and its arguments
  further : ℕ → Goal  -- behind an argument, so many more, and `)`
  count : Goal  -- how many parameters a procedure has, 0 to 8

-- what has been read
pub data Value : Type 0 where
  number : ℕ → Value
  of_expression : Expression → Value
  of_condition : Condition → Value
  of_arguments : Arguments → Value

-- a value of another kind is taken for 0, null, true or the end of a list; none is asked for
unfoldable pub number_in : Value → ℕ
number_in (number n) = n
number_in (of_expression e) = 0
number_in (of_condition c) = 0
number_in (of_arguments es) = 0

unfoldable pub expression_in : Value → Expression
expression_in (number n) = Expression.literal 0
expression_in (of_expression e) = e
expression_in (of_condition c) = Expression.literal 0
expression_in (of_arguments es) = Expression.literal 0

unfoldable pub condition_in : Value → Condition
condition_in (number n) = Condition.truth
condition_in (of_expression e) = Condition.truth
condition_in (of_condition c) = c
condition_in (of_arguments es) = Condition.truth

unfoldable pub arguments_in : Value → Arguments
arguments_in (number n) = Arguments.end
arguments_in (of_expression e) = Arguments.end
arguments_in (of_condition c) = Arguments.end
arguments_in (of_arguments es) = es

-- ---- terms of what was read last

-- how many operands a term has, by its tag
unfoldable pub operand_counts : List ℕ
operand_counts = 0 ∷ 1 ∷ 1 ∷ 2 ∷ 3 ∷ 3 ∷ 3 ∷ 2 ∷ 2 ∷ 1 ∷ 1 ∷ 2 ∷ 0 ∷ 1 ∷ 2 ∷ 2 ∷ 2 ∷ 0 ∷ 1 ∷ 1 ∷ 1 ∷ []

-- "| tag | term | operands |": a row for each tag, over its operands
unfoldable pub terms : List (Value → Value → Value → Value)
unfolding number_in expression_in condition_in arguments_in fields_from binder_of
terms =
    (λ x y z. of_expression (Expression.literal 0))  -- 0 null
    ∷ (λ x y z. of_expression (Expression.variable (number_in x)))  -- 1 variable
    ∷ (λ x y z. of_expression (Expression.new (fields_from (number_in x) 0 32)))  -- 2 new
    ∷ (λ x y z. of_expression (Expression.read (expression_in x) (number_in y)))  -- 3 read
    ∷ (λ x y z. of_expression (Expression.write (expression_in x) (number_in y) (expression_in z)))  -- 4 write
    ∷ (λ x y z. of_expression (Expression.let_in (binder_of (number_in x)) (expression_in y) (expression_in z)))  -- 5 let
    ∷ (λ x y z. of_expression (Expression.if (condition_in x) (expression_in y) (expression_in z)))  -- 6 if
    ∷ (λ x y z. of_expression (Expression.while (condition_in x) (expression_in y)))  -- 7 while
    ∷ (λ x y z. of_expression (Expression.call (number_in x) (arguments_in y)))  -- 8 call
    ∷ (λ x y z. of_expression (Expression.fork (expression_in x)))  -- 9 fork
    ∷ (λ x y z. of_expression (Expression.join (expression_in x)))  -- 10 join
    ∷ (λ x y z. of_expression (Expression.synch (expression_in x) (expression_in y)))  -- 11 synch
    ∷ (λ x y z. of_condition Condition.truth)  -- 12 true
    ∷ (λ x y z. of_condition (Condition.not (condition_in x)))  -- 13 not
    ∷ (λ x y z. of_condition (Condition.and (condition_in x) (condition_in y)))  -- 14 and
    ∷ (λ x y z. of_condition (Condition.equal (expression_in x) (expression_in y)))  -- 15 equal
    ∷ (λ x y z. of_arguments (Arguments.argument (expression_in x) (arguments_in y)))  -- 16 list
    ∷ (λ x y z. of_arguments Arguments.end)  -- 17 list end
    ∷ (λ x y z. of_expression (Expression.signal Signal.wait (expression_in x)))  -- 18 wait
    ∷ (λ x y z. of_expression (Expression.signal Signal.notify (expression_in x)))  -- 19 notify
    ∷ (λ x y z. of_expression (Expression.signal Signal.notify_all (expression_in x)))  -- 20 notify all
    ∷ []

-- the value that is so far down, 0 the last
abbrev pub value_at : List Value → ℕ → Value
value_at vs i = get_or vs i (number 0)

-- the term of a tag, in place of its operands, which are the values that were read last
unfoldable pub made : ℕ → List Value → List Value
unfolding operand_counts terms
made k vs = let n = get_or operand_counts k 0 in get_or terms k (λ x y z. number 0) (value_at vs (n - 1)) (value_at vs (n - 2)) (value_at vs (n - 3)) ∷ drop n vs

-- ---- forms that begin with a word

-- a form: how tightly it binds, whether it is a condition, and the goals behind its word
pub record Form : Type 0 where
  pub binding : ℕ
  pub is_condition : Bool
  pub goals : List Goal

abbrev pub form : ℕ → Bool → List Goal → Form
form l b gs = record { binding = l; is_condition = b; goals = gs }

-- from `true` to `notify`, in the order of their codes
unfoldable pub forms : List Form
forms =
    form tight true (make 12 ∷ [])  -- true
    ∷ form testing true (operand testing condition ∷ make 13 ∷ [])  -- not c
    ∷ form tight false (make 0 ∷ [])  -- null
    ∷ form tight false (expect opening ∷ fields 8 0 ∷ make 2 ∷ [])  -- new(f f)
    ∷ form loose false (binder ∷ expect equals ∷ operand loose expression ∷ expect in_word ∷ operand loose expression ∷ make 5 ∷ [])  -- let x = e in e
    ∷ form loose false
    (operand loose condition ∷ expect then_word ∷ operand loose expression ∷ expect else_word ∷ operand loose expression ∷ make 6 ∷ [])  -- if c then e else e
    ∷ form loose false (operand loose condition ∷ expect do_word ∷ operand loose expression ∷ make 7 ∷ [])  -- while c do e
    ∷ form tight false (procedure ∷ make 8 ∷ [])  -- call m (e, e)
    ∷ form prefix false (operand prefix expression ∷ make 9 ∷ [])  -- fork e
    ∷ form prefix false (operand prefix expression ∷ make 10 ∷ [])  -- join e
    ∷ form loose false (operand loose expression ∷ expect do_word ∷ operand loose expression ∷ make 11 ∷ [])  -- synch e do e
    ∷ form prefix false (operand prefix expression ∷ make 18 ∷ [])  -- wait e
    ∷ form prefix false (operand prefix expression ∷ make 19 ∷ [])  -- notify e
    ∷ []

-- `notify all e`
abbrev pub notify_all_form : Form
notify_all_form = form prefix false (operand prefix expression ∷ make 20 ∷ [])

-- a procedure's arguments, in parentheses and with commas between them
unfoldable pub argument_goals : ℕ → List Goal
argument_goals zero = expect opening ∷ expect closing ∷ make 17 ∷ []
argument_goals (suc n) = expect opening ∷ operand loose expression ∷ further n ∷ make 16 ∷ []
