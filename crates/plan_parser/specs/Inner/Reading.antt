-- Where reading stands, and what comes of it, for inner contracts: no reader of an entry's promise needs them. Assumes nothing.
use Rattle.std.specs.Prelude.{ℕ, ◌+◌, ◌-◌, ◌*◌, ◌≤◌, ◌<◌, ◌≡◌, cond, List, Option, Some, None, Result, Ok, Err, ltb, length, get_or, drop}
use Rattle.plan_packed.specs.Inner.Steps.{Ordered, tree_in}
use Rattle.plan_parsing.specs.Goals.{Value, number_in, expression_in, value_at}
use Rattle.plan_parsing.specs.Parser as definition
use Rattle.plan_parsing.specs.Parser.{Step, go, stop, step, parse_by, parse}
use Rattle.plan_parser_goals.specs.Inner.Encoded.{goal_of, reason_of, goals_of, stacked, unpacked, values_of}
use Rattle.plan_parser_goals.specs.Inner.Moves.{Fits, onto, Calls}
use Rattle.plan_parser_goals.specs.Inner.Moves.{Sight, Move}
use Rattle.plan_parser.specs.Inner.Stacks.{Stacked, Entries, Put, Looks}
use Rattle.plan_parser.specs.Inner.Making.{Makes}
use Rattle.plan_parser.specs.declared.turns.Standing.{Standing}
use Rattle.plan_parser.specs.declared.turns.Halt.{Halt}
use Rattle.plan_parser.specs.declared.Parsed.{Parsed}

-- ---- the state

-- arrays for every text, or shorter ones, whose words are fewer
pub record Sized (goals values words : List ℕ) : Type 0 where
  pub some_goals : 16 ≤ length goals
  pub most_goals : length goals ≤ 8408
  pub some_values : 16 ≤ length values
  pub most_values : length values ≤ 3108
  pub most_words : length words ≤ 1024
  pub whole : length words ≡ 1024 → (length goals ≡ 8408) × (length values ≡ 3108)

-- how many terms can be made, of which the array has room for left
abbrev pub terms_left : List ℕ → ℕ → ℕ
terms_left words left = left + (1024 - length words)

pub record State (tokens goals values words : List ℕ) (s : Standing) : Type 0 where
  pub sized : Sized goals values words
  pub tokens_few : length tokens ≤ 16384
  pub ordered : Ordered words
  pub inside : s.at ≤ length tokens
  pub goals_few : s.goals < length goals
  pub values_few : s.values + 7 ≤ length values
  pub left_few : s.left ≤ length words
  pub entries : Entries s.left values s.values
  pub fits : Fits (goals_of goals s.goals) (values_of words values s.values)

-- there is a goal, and goals and values are not too many
pub record Going (goals values : List ℕ) (s : Standing) : Type 0 where
  pub some_goal : 0 < s.goals
  pub few_goals : s.goals + 8 ≤ length goals
  pub few_values : s.values + 8 ≤ length values

-- no term is left only where none can be made
abbrev pub NoneLeft : List ℕ → Standing → Type 0
NoneLeft words s = s.left ≡ 0 → length words ≡ 1024

-- a move of the goal on top, by what a step sees
pub record Found (tokens counts goals values words : List ℕ) (s : Standing) (m : Move) : Type 0 where
  pub sight : Sight
  pub looks : Looks tokens s.at words values s.values sight
  pub calls : Calls counts (goal_of (get_or goals (s.goals - 1) 0)) sight m
  pub counts_small : (i : ℕ) → get_or counts i 0 < 256

-- there is room for what a move does
pub record Room (goals values : List ℕ) (s : Standing) (taken kept next popped value : ℕ) : Type 0 where
  pub going : Going goals values s
  pub most_goals : length goals ≤ 8408
  pub most_values : length values ≤ 3108
  pub at_small : s.at ≤ 16384
  pub taken_small : taken ≤ 1024
  pub kept_small : kept < 1024
  pub next_small : next < 1024
  pub popped_small : popped ≤ 1
  pub value_large : 1024 - value ≤ 1024 * (1 - value)
  pub value_small : value < 1024 + 4294967296

-- where reading stands after it
pub record Went (goals values : List ℕ) (s : Standing) (taken kept next digits popped value : ℕ) (goals' values' : List ℕ) (s' : Standing) : Type 0 where
  pub at_is : s'.at ≡ s.at + taken
  pub left_is : s'.left ≡ s.left
  pub on_goals : Stacked (λ gs. unpacked digits (stacked next (stacked kept gs))) goals (s.goals - 1) goals' s'.goals
  pub few : s'.goals ≤ s.goals - 1 + 8
  pub fewer : s'.goals ≤ s.goals - 1 + kept + next + 6 * digits
  pub on_values : Put popped value values s.values values' s'.values

-- and after a term is made
pub record WentWith (words values : List ℕ) (s : Standing) (k : ℕ) (words' values' : List ℕ) (s' : Standing) : Type 0 where
  pub at_is : s'.at ≡ s.at
  pub goals_are : s'.goals ≡ s.goals - 1
  pub left_is : s'.left ≡ s.left - 1
  pub makes : Makes words values s.values s.left k words' values' s'.values

-- ---- a turn

abbrev pub Turn : Type 0
Turn = Result Standing Halt

-- in the definition's words
unfoldable pub shown : List ℕ → List ℕ → List ℕ → List ℕ → Turn → Step
unfolding goals_of values_of reason_of
shown tokens goals values words (Ok s) = go (goals_of goals s.goals) (values_of words values s.values) (terms_left words s.left) (drop s.at tokens)
shown tokens goals values words (Err z) = stop (reason_of z.reason) (drop z.at tokens)

-- what is left to do becomes less
pub record Nearer (tokens goals values words : List ℕ) (s s' : Standing) : Type 0 where
  pub state : State tokens goals values words s'
  pub less : 8 * (length tokens - s'.at) + s'.goals < 8 * (length tokens - s.at) + s.goals
  pub fewer : s'.left ≤ s.left

abbrev pub Next : List ℕ → List ℕ → List ℕ → List ℕ → Standing → Turn → Type 0
Next tokens goals values words s (Ok s') = Nearer tokens goals values words s s'
Next tokens goals values words s (Err z) = Unit {0}

-- the terms from left on stay, and children come after their parents
pub record Kept (left : ℕ) (words words' : List ℕ) : Type 0 where
  pub ordered : Ordered words'
  pub long : length words' ≡ length words
  pub terms_stay : (i : ℕ) → left ≤ i → get_or words' i 0 ≡ get_or words i 0

-- a turn does the step of the goal on top
pub record Turned (tokens counts goals values words goals' values' words' : List ℕ) (s : Standing) (r : Turn) : Type 0 where
  pub says :
      shown tokens goals' values' words' r
      ≡ onto (goals_of goals (s.goals - 1)) (step counts (goal_of (get_or goals (s.goals - 1) 0)) (values_of words values s.values)
      (terms_left words s.left) (drop s.at tokens))
  pub next : Next tokens goals' values' words' s r
  pub kept : Kept s.left words words'
  pub goals_stay : length goals' ≡ length goals
  pub values_stay : length values' ≡ length values

-- ---- turn after turn

-- what is read from the start is what is read from here on, with so many steps
pub record Resumes (counts tokens goals values words : List ℕ) (s : Standing) (R : definition.Parsed) : Type 0 where
  pub steps : ℕ
  pub enough : 8 * (length tokens - s.at) + s.goals < steps
  pub same : R ≡ parse_by counts steps (goals_of goals s.goals) (values_of words values s.values)
      (terms_left words s.left) (drop s.at tokens)

-- ---- the end

-- an expression has been read: its tree and its root, the parameters that were read, the terms left, the tokens left
pub record Finished (tokens words : List ℕ) (left : ℕ) (vs : List Value) (n : ℕ) (rest : List ℕ) (root parameters left' at : ℕ) : Type 0 where
  pub tree_is : tree_in words root ≡ expression_in (value_at vs 0)
  pub parameters_are : parameters ≡ number_in (value_at vs 1)
  pub left_is : terms_left words left' ≡ n
  pub rest_is : drop at tokens ≡ rest
  pub root_there : left' ≤ root
  pub root_below : root < 1024
  pub parameters_few : parameters < 9
  pub inside : at ≤ length tokens
  pub fewer : left' ≤ left

-- what is read is what the definition says; arrays are too short only where they are not for every text
abbrev pub Reads : List ℕ → List ℕ → ℕ → definition.Parsed → Option (Result Parsed Halt) → Type 0
Reads tokens words left (definition.parsed vs n rest) (Some (Ok p)) = Finished tokens words left vs n rest p.root p.parameters p.left p.at
Reads tokens words left (definition.parsed vs n rest) (Some (Err h)) = ⊥
Reads tokens words left (definition.stopped r rest) (Some (Ok p)) = ⊥
Reads tokens words left (definition.stopped r rest) (Some (Err h)) = (r ≡ reason_of h.reason) × (drop h.at tokens ≡ rest)
Reads tokens words left (definition.parsed vs n rest) None = length words < 1024
Reads tokens words left (definition.stopped r rest) None = length words < 1024

-- goals or values are more than there is room for
unfoldable pub crowded_by : List ℕ → ℕ → Option (Result Parsed Halt)
crowded_by words at = cond (ltb (length words) 1024) None (Some (Err (record { reason = 1001; at = at })))

-- and the terms from left on stay
pub record Ran (tokens words words' : List ℕ) (left : ℕ) (R : definition.Parsed) (r : Option (Result Parsed Halt)) : Type 0 where
  pub reads : Reads tokens words' left R r
  pub kept : Kept left words words'

-- what is read from where reading stands
abbrev pub read_from : List ℕ → List ℕ → List ℕ → List ℕ → List ℕ → Standing → definition.Parsed
read_from counts tokens goals values words s =
    parse counts (goals_of goals s.goals) (values_of words values s.values) (terms_left words s.left) (drop s.at tokens)
