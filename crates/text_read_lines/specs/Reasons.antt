-- What is said of a text that is no plan (docs/FORMAT.md, "What a failed read says"). Assumes nothing.
use Rattle.std.specs.Prelude.{ℕ, cond, List, [], ◌∷◌, ◌++◌, eqb, ltb, get_or}
use Rattle.text.specs.Text.{ascii, decimal}
use Rattle.plan_notation.specs.Tokens.{procedure_word, in_word, then_word, else_word, do_word, opening, closing, equals}
use Rattle.plan_parsing.specs.Goals as goal
use Rattle.plan_parsing.specs.Goals.{Sort, either, expression, condition, Goal}
use Rattle.plan_parsing.specs.Parser as reason
use Rattle.plan_parsing.specs.Parser.{Reason}
use Rattle.plan_parsing.specs.Plan as fault
use Rattle.plan_parsing.specs.Plan.{Fault}
use Rattle.read.specs.Read as failure
use Rattle.read.specs.Read.{Failure}

-- what was wanted, or what is too much, a sentence to a row
unfoldable pub reasons : List (List ℕ)
unfolding ascii
reasons =
    ascii "something else is wanted"  -- 0
    ∷ ascii "an expression is wanted"  -- 1
    ∷ ascii "a condition is wanted"  -- 2
    ∷ ascii "an expression or a condition is wanted"  -- 3
    ∷ ascii "a slot, 0 to 7, or - is wanted"  -- 4
    ∷ ascii "a field above the last one, eight at most, or ) is wanted"  -- 5
    ∷ ascii "the number of a procedure is wanted"  -- 6
    ∷ ascii "as many arguments as the procedure has parameters are wanted"  -- 7
    ∷ ascii "a number of parameters, 0 to 8, is wanted"  -- 8
    ∷ ascii "the number of the next procedure is wanted"  -- 9
    ∷ ascii "`procedure` is wanted"  -- 10
    ∷ ascii "`in` is wanted"  -- 11
    ∷ ascii "`then` is wanted"  -- 12
    ∷ ascii "`else` is wanted"  -- 13
    ∷ ascii "`do` is wanted"  -- 14
    ∷ ascii "`(` is wanted"  -- 15
    ∷ ascii "`)` is wanted"  -- 16
    ∷ ascii "a field, 1 to 31, is wanted"  -- 17
    ∷ ascii "`=` is wanted"  -- 18
    ∷ ascii "a plan has at most 1,024 terms"  -- 19
    ∷ ascii "too much is within something else"  -- 20
    ∷ ascii "the version is 0 or 1"  -- 21
    ∷ ascii "a slot is used that nothing binds"  -- 22
    ∷ ascii "a plan has at most 32 procedures"  -- 23
    ∷ ascii "a text has at most 16,384 tokens"  -- 24
    ∷ []

-- the rows of the tokens that can be wanted; a number is wanted behind `procedure`
unfoldable pub token_row : ℕ → ℕ
token_row t =
    cond (ltb t 32) 9
    (cond (eqb t procedure_word) 10
    (cond (eqb t in_word) 11
    (cond (eqb t then_word) 12
    (cond (eqb t else_word) 13
    (cond (eqb t do_word) 14
    (cond (eqb t opening) 15
    (cond (eqb t closing) 16
    (cond (eqb t equals) 18 0))))))))

-- of the sorts that a place can ask for
unfoldable pub sort_row : Sort → ℕ
sort_row either = 3
sort_row expression = 1
sort_row condition = 2

-- of what was to be read
unfoldable pub goal_row : Goal → ℕ
unfolding token_row sort_row
goal_row (goal.expect t) = token_row t
goal_row (goal.operand d s) = sort_row s
goal_row (goal.more d s) = sort_row s
goal_row goal.binder = 4
goal_row (goal.fields k f) = 5
goal_row goal.procedure = 6
goal_row (goal.further k) = 7
goal_row goal.count = 8
goal_row (goal.make k) = 0

-- of why reading stops
unfoldable pub reason_row : Reason → ℕ
unfolding goal_row
reason_row (reason.wanted g) = goal_row g
reason_row reason.field = 17
reason_row reason.terms = 19
reason_row reason.nesting = 20

-- of why the text is no plan
unfoldable pub failure_row : Failure → ℕ
unfolding reason_row
failure_row (failure.of_fault (fault.reading r)) = reason_row r
failure_row (failure.of_fault fault.version) = 21
failure_row (failure.of_fault fault.slots) = 22
failure_row (failure.of_fault fault.end) = 23
failure_row failure.tokens = 24

-- where reading stops
unfoldable pub place_words : ℕ → ℕ → List ℕ
unfolding ascii decimal
place_words line column = ascii "no plan: line " ++ (decimal line ++ (ascii ", column " ++ (decimal column ++ ascii ": ")))

-- and why
unfoldable pub reason_words : ℕ → List ℕ
unfolding reasons
reason_words row = get_or reasons row [] ++ (10 ∷ [])

-- the line of a text that is no plan
unfoldable pub failure_line : ℕ → ℕ → Failure → List ℕ
unfolding place_words reason_words failure_row
failure_line line column f = place_words line column ++ reason_words (failure_row f)
