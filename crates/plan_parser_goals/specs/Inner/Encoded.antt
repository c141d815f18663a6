-- Goals and values as numbers, for inner contracts: no reader of an entry's promise needs them. Assumes nothing.
use Rattle.std.specs.Prelude.{ℕ, zero, suc, ◌+◌, ◌-◌, ◌/◌, ◌%◌, cond, List, [], ◌∷◌, eqb, ltb, get_or}
use Rattle.plan_packed.specs.Inner.Steps.{tag_in, tree_in, list_in}
use Rattle.plan_packed.specs.Inner.Steps as array
use Rattle.plan_parsing.specs.Goals.{Sort, either, expression, condition, Goal, expect, operand, more, make, binder, fields, procedure, further, count, Value}
use Rattle.plan_parsing.specs.Goals.{number, of_expression, of_condition, of_arguments}
use Rattle.plan_parsing.specs.Parser.{Reason, wanted}

-- ---- goals

-- the sort that a place asks for
unfoldable pub sort_of : ℕ → Sort
sort_of zero = either
sort_of (suc zero) = expression
sort_of (suc (suc s)) = condition

-- the goal of a number
unfoldable pub goal_of : ℕ → Goal
unfolding sort_of
goal_of c =
    cond (ltb c 128) (expect c)
    (cond (ltb c 160) (make (c - 128))
    (cond (ltb c 176) (operand ((c - 160) / 3) (sort_of ((c - 160) % 3)))
    (cond (ltb c 192) (more ((c - 176) / 3) (sort_of ((c - 176) % 3)))
    (cond (eqb c 192) binder
    (cond (eqb c 193) procedure
    (cond (ltb c 256) count
    (cond (ltb c 640) (fields ((c - 256) / 32) ((c - 256) % 32)) (further (c - 640)))))))))

-- why reading stops: what was to be read is not there, by its goal's number; or one of three numbers past those of the goals
unfoldable pub reason_of : ℕ → Reason
unfolding goal_of
reason_of n = cond (eqb n 1000) Reason.terms (cond (eqb n 1001) Reason.nesting (cond (eqb n 1002) Reason.field (wanted (goal_of n))))

-- the goals of an array of which so many are there, the top first
unfoldable pub goals_of : List ℕ → ℕ → List Goal
unfolding goal_of
goals_of goals zero = []
goals_of goals (suc n) = goal_of (get_or goals n 0) ∷ goals_of goals n

-- a goal on others; 0 is none
unfoldable pub stacked : ℕ → List Goal → List Goal
unfolding goal_of
stacked c gs = cond (eqb c 0) gs (goal_of c ∷ gs)

-- the goals of six digits to the base 1024, the last digit at the bottom
unfoldable pub unpacked : ℕ → List Goal → List Goal
unfolding stacked
unpacked p gs =
    stacked (p / 1125899906842624 % 1024)
    (stacked (p / 1099511627776 % 1024) (stacked (p / 1073741824 % 1024) (stacked (p / 1048576 % 1024) (stacked (p / 1024 % 1024) (stacked (p % 1024) gs)))))

-- ---- values

-- the term at an index, by the sort of its tag
unfoldable pub term_value : List ℕ → ℕ → Value
unfolding tag_in tree_in array.condition_in list_in
term_value words i =
    let k = tag_in words i in
    cond (ltb k 12) (of_expression (tree_in words i))
    (cond (ltb k 16) (of_condition (array.condition_in words i)) (cond (ltb k 18) (of_arguments (list_in words i)) (of_expression (tree_in words i))))

-- the value of a number: below 1024 a term, and from there on a number
unfoldable pub value_of : List ℕ → ℕ → Value
unfolding term_value
value_of words v = cond (ltb v 1024) (term_value words v) (number (v - 1024))

-- the values of an array of which so many are there, the last first
unfoldable pub values_of : List ℕ → List ℕ → ℕ → List Value
unfolding value_of
values_of words values zero = []
values_of words values (suc n) = value_of words (get_or values n 0) ∷ values_of words values n

-- the sort of a value: a number, an expression, a condition, arguments
unfoldable pub value_sort : Value → ℕ
value_sort (number n) = 0
value_sort (of_expression e) = 1
value_sort (of_condition c) = 2
value_sort (of_arguments es) = 3
