-- How an expression is read: goal by goal, by the next tokens (docs/FORMAT.md, "A plan as text"). Assumes nothing.
use Rattle.std.specs.Prelude.{ℕ, zero, suc, ◌+◌, ◌-◌, ◌*◌, ◌^◌, Bool, true, false, cond, not, ◌&&◌, ◌||◌, List, [], ◌∷◌, ◌++◌, eqb, ltb, leb, length, get_or, drop}
use Rattle.plan_notation.specs.Tokens.{all_word, and_word, true_word, new_word, notify_word, opening, closing, comma, dot, equals, becomes, dash, text_end}
use Rattle.plan_notation.specs.Shown.{loose, testing, prefix}
use Rattle.plan_parsing.specs.Goals.{Sort, either, expression, condition, Goal, expect, operand, more, make, binder, fields, procedure, further, count}
use Rattle.plan_parsing.specs.Goals.{Value, number, of_expression, of_condition, of_arguments, number_in, value_at, made, Form, forms, notify_all_form}
use Rattle.plan_parsing.specs.Goals.{argument_goals}

-- the token that is so far ahead
abbrev pub ahead : List ℕ → ℕ → ℕ
ahead ts i = get_or ts i text_end

-- why reading stops: what was to be read is not there; behind `.` there is no field; a plan has no more terms; goals are within goals too deep
pub data Reason : Type 0 where
  wanted : Goal → Reason
  field terms nesting : Reason

-- what comes of a goal: goals in its place, the values, how many terms are left to be made, the tokens that are left; or that reading stops before these
pub data Step : Type 0 where
  go : List Goal → List Value → ℕ → List ℕ → Step
  stop : Reason → List ℕ → Step

-- ---- sorts

unfoldable pub is_expression : Value → Bool
is_expression (number n) = false
is_expression (of_expression e) = true
is_expression (of_condition c) = false
is_expression (of_arguments es) = false

unfoldable pub is_condition : Value → Bool
is_condition (number n) = false
is_condition (of_expression e) = false
is_condition (of_condition c) = true
is_condition (of_arguments es) = false

-- a condition can stand, or begin, where this is asked for
unfoldable pub takes_condition : Sort → Bool
takes_condition either = true
takes_condition expression = false
takes_condition condition = true

-- the value that was read is of the sort that is asked for
unfoldable pub fits : Sort → Value → Bool
unfolding is_expression is_condition
fits either v = is_expression v || is_condition v
fits expression v = is_expression v
fits condition v = is_condition v

-- what can stand in parentheses: either, where they can be the left side of `=`
unfoldable pub inside : Sort → Sort
inside either = either
inside expression = expression
inside condition = either

-- ---- the goals

-- a form, where it binds as tightly as is asked for
unfoldable pub begun : Form → ℕ → Sort → List Value → ℕ → List ℕ → List ℕ → Step
unfolding takes_condition
begun f d s vs n ts rest =
    cond (leb d f.binding && (not f.is_condition || takes_condition s)) (go (f.goals ++ (more d s ∷ [])) vs n rest) (stop (wanted (operand d s)) ts)

-- a form that begins with a word, `true` to `notify`
unfoldable pub word_form : ℕ → ℕ → Sort → List Value → ℕ → List ℕ → Step
unfolding begun forms
word_form t d s vs n ts =
    cond (eqb t notify_word && eqb (ahead ts 1) all_word) (begun notify_all_form d s vs n ts (drop 2 ts))
    (begun (get_or forms (t - true_word) notify_all_form) d s (cond (eqb t new_word) (number 0 ∷ vs) vs) n ts (drop 1 ts))

unfoldable pub operand_step : ℕ → Sort → List Value → ℕ → List ℕ → Step
unfolding word_form inside
operand_step d s vs n ts =
    let t = ahead ts 0 in
    cond (leb 32 t && ltb t 40) (go (make 1 ∷ more d s ∷ []) (number (t - 32) ∷ vs) n (drop 1 ts))
    (cond (leb true_word t && leb t notify_word) (word_form t d s vs n ts)
    (cond (eqb t opening) (go (operand loose (inside s) ∷ expect closing ∷ more d s ∷ []) vs n (drop 1 ts)) (stop (wanted (operand d s)) ts)))

-- a field, 1 to 31
unfoldable pub is_field : ℕ → Bool
is_field t = ltb 0 t && ltb t 32

-- behind an expression `.`: a field, and behind it `:=` and an expression, where no tighter binding is asked for
unfoldable pub dot_step : ℕ → Sort → List Value → ℕ → List ℕ → Step
unfolding is_field
dot_step d s vs n ts =
    let f = ahead ts 1 in
    cond (not (is_field f)) (stop Reason.field (drop 1 ts))
    (cond (eqb d loose && eqb (ahead ts 2) becomes)
    (go (operand loose expression ∷ make 4 ∷ more d s ∷ []) (number f ∷ vs) n (drop 3 ts))
    (go (make 3 ∷ more d s ∷ []) (number f ∷ vs) n (drop 2 ts)))

-- what may follow a value: behind an expression `.`, or `=` where a condition can stand and no tighter binding than a test's is asked for; behind a
-- condition `and`, where no tighter binding is asked for; else nothing, where the value is of the sort that is asked for
unfoldable pub more_step : ℕ → Sort → List Value → ℕ → List ℕ → Step
unfolding dot_step is_expression is_condition takes_condition fits
more_step d s vs n ts =
    let t = ahead ts 0 in
    let v = value_at vs 0 in
    cond (is_expression v && eqb t dot) (dot_step d s vs n ts)
    (cond (is_expression v && eqb t equals && leb d testing && takes_condition s) (go (operand prefix expression ∷ make 15 ∷ more d s ∷ []) vs n (drop 1 ts))
    (cond (is_condition v && eqb t and_word && eqb d loose) (go (operand loose condition ∷ make 14 ∷ more d s ∷ []) vs n (drop 1 ts))
    (cond (fits s v) (go [] vs n ts) (stop (wanted (more d s)) ts))))

-- fields into a mask, "top bit field 0"
unfoldable pub fields_step : ℕ → ℕ → List Value → ℕ → List ℕ → Step
fields_step k f vs n ts =
    let t = ahead ts 0 in
    cond (eqb t closing) (go [] vs n (drop 1 ts))
    (cond (ltb 0 k && ltb f t && ltb t 32) (go (fields (k - 1) t ∷ []) (number (number_in (value_at vs 0) + 2 ^ (31 - t)) ∷ drop 1 vs) n (drop 1 ts))
    (stop (wanted (fields k f)) ts))

unfoldable pub further_step : ℕ → List Value → ℕ → List ℕ → Step
further_step zero vs n ts = cond (eqb (ahead ts 0) closing) (go (make 17 ∷ []) vs n (drop 1 ts)) (stop (wanted (further 0)) ts)
further_step (suc k) vs n ts =
    cond (eqb (ahead ts 0) comma) (go (operand loose expression ∷ further k ∷ make 16 ∷ []) vs n (drop 1 ts)) (stop (wanted (further (suc k))) ts)

-- a goal, where procedures have so many parameters, and n terms are left to be made
unfoldable pub step : List ℕ → Goal → List Value → ℕ → List ℕ → Step
unfolding operand_step more_step fields_step further_step made argument_goals
step counts (expect t) vs n ts = cond (eqb (ahead ts 0) t) (go [] vs n (drop 1 ts)) (stop (wanted (expect t)) ts)
step counts (operand d s) vs n ts = operand_step d s vs n ts
step counts (more d s) vs n ts = more_step d s vs n ts
step counts (make k) vs n ts = cond (eqb n 0) (stop Reason.terms ts) (go [] (made k vs) (n - 1) ts)
step counts binder vs n ts =
    let t = ahead ts 0 in
    cond (ltb t 8) (go [] (number t ∷ vs) n (drop 1 ts)) (cond (eqb t dash) (go [] (number 15 ∷ vs) n (drop 1 ts)) (stop (wanted binder) ts))
step counts (fields k f) vs n ts = fields_step k f vs n ts
step counts procedure vs n ts =
    let t = ahead ts 0 in
    cond (ltb t 32 && ltb t (length counts)) (go (argument_goals (get_or counts t 0)) (number t ∷ vs) n (drop 1 ts)) (stop (wanted procedure) ts)
step counts (further k) vs n ts = further_step k vs n ts
step counts count vs n ts = let t = ahead ts 0 in cond (ltb t 9) (go [] (number t ∷ vs) n (drop 1 ts)) (stop (wanted count) ts)

-- ---- goal after goal

-- what comes of goals: the values, the terms left and the tokens left when none is left; or where reading stops, and why
pub data Parsed : Type 0 where
  parsed : List Value → ℕ → List ℕ → Parsed
  stopped : Reason → List ℕ → Parsed

-- so many goals and so many values can wait; the text of every plan keeps within both
abbrev pub most_goals : ℕ
most_goals = 8400

abbrev pub most_values : ℕ
most_values = 3100

-- a step, and what follows it
unfoldable pub after_step : (List Goal → List Value → ℕ → List ℕ → Parsed) → Step → Parsed
after_step k (go gs vs n ts) = k gs vs n ts
after_step k (stop r ts) = stopped r ts

-- with so many steps; there is always a step for each goal and eight for each token
unfoldable pub parse_by : List ℕ → ℕ → List Goal → List Value → ℕ → List ℕ → Parsed
unfolding step after_step
parse_by counts zero gs vs n ts = stopped nesting ts  -- never asked
parse_by counts (suc steps) [] vs n ts = parsed vs n ts
parse_by counts (suc steps) (g ∷ gs) vs n ts =
    cond (ltb most_goals (length (g ∷ gs)) || ltb most_values (length vs)) (stopped nesting ts)
    (after_step (λ (gs' : List Goal) (vs' : List Value) (n' : ℕ) (ts' : List ℕ). parse_by counts steps (gs' ++ gs) vs' n' ts') (step counts g vs n ts))

unfoldable pub parse : List ℕ → List Goal → List Value → ℕ → List ℕ → Parsed
unfolding parse_by
parse counts gs vs n ts = parse_by counts (8 * length ts + suc (length gs)) gs vs n ts
