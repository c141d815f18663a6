-- The turn of a goal by its number, for inner contracts: no reader of an entry's promise needs it. Assumes nothing.
use Rattle.std.specs.Prelude.{ℕ, ◌+◌, ◌-◌, ◌%◌, ◌≤◌, ◌<◌, ◌≡◌, Bool, true, false, cond, List, Ok, Err, ltb, length, get_or}
use Rattle.plan_parser_goals.specs.Inner.Encoded.{goal_of, value_of, value_sort}
use Rattle.plan_parser_goals.specs.Inner.Moves.{Calls, Ends}
use Rattle.plan_parser_goals.specs.Inner.Moves.{Sight, Move}
use Rattle.plan_parser.specs.Inner.Stacks.{last_of}
use Rattle.plan_parser.specs.Inner.Reading.{State, Going, WentWith, Turn, Turned}
use Rattle.plan_parser.specs.declared.turns.Standing.{Standing}

-- the number of the value that was read last; a term is taken for 0
abbrev pub number_of : ℕ → ℕ
number_of v = cond (ltb v 1024) 0 (v - 1024)

-- what a step could see
abbrev pub sight_of : List ℕ → List ℕ → List ℕ → Standing → Sight
sight_of tokens words values s =
    record {
      first = get_or tokens s.at 69;
      second = get_or tokens (s.at + 1) 69;
      third = get_or tokens (s.at + 2) 69;
      sort = value_sort (value_of words (last_of values s.values));
      number = number_of (last_of values s.values);
    }

-- the goal of this number is on top, and there is room for what it does
pub record Ready (goals values : List ℕ) (s : Standing) (code : ℕ) : Type 0 where
  pub going : Going goals values s
  pub most_goals : length goals ≤ 8408
  pub most_values : length values ≤ 3108
  pub at_small : s.at ≤ 16384
  pub on_top : code ≡ get_or goals (s.goals - 1) 0

-- its turn, whatever the counts of the procedures are
abbrev pub Turns : List ℕ → List ℕ → List ℕ → List ℕ → List ℕ → List ℕ → List ℕ → Standing → Turn → Type 0
Turns tokens goals values words goals' values' words' s r =
    (counts : List ℕ) → ((i : ℕ) → get_or counts i 0 < 256) → State tokens goals values words s
    → Turned tokens counts goals values words goals' values' words' s r

-- the same, whatever the terms are
abbrev pub TurnsAny : List ℕ → List ℕ → List ℕ → List ℕ → List ℕ → Standing → Turn → Type 0
TurnsAny tokens goals values goals' values' s r = (words : List ℕ) → Turns tokens goals values words goals' values' words s r

-- where the value that was read last is of this sort
abbrev pub TurnsBehind : ℕ → List ℕ → List ℕ → List ℕ → List ℕ → List ℕ → Standing → Turn → Type 0
TurnsBehind sort tokens goals values goals' values' s r =
    (words : List ℕ) → (sight_of tokens words values s).sort ≡ sort → Turns tokens goals values words goals' values' words s r

-- where procedures have so many parameters, whatever the terms are
abbrev pub TurnedAny : List ℕ → List ℕ → List ℕ → List ℕ → List ℕ → List ℕ → Standing → Turn → Type 0
TurnedAny tokens counts goals values goals' values' s r =
    (words : List ℕ) → State tokens goals values words s → Turned tokens counts goals values words goals' values' words s r

-- what comes of a goal that makes a term, where none may be left
abbrev pub MadeOr : List ℕ → List ℕ → Standing → ℕ → List ℕ → List ℕ → Turn → Type 0
MadeOr words values s k words' values' (Ok s') = (0 < s.left) × WentWith words values s k words' values' s'
MadeOr words values s k words' values' (Err z) = (s.left ≡ 0) × (z ≡ record { reason = 1000; at = s.at }) × (words' ≡ words) × (values' ≡ values)

-- nothing follows a value: a move that ends, whatever else there is
abbrev pub Ending : List ℕ → List ℕ → Standing → ℕ → ℕ → List ℕ → List ℕ → Turn → Type 0
Ending goals values s code sort goals' values' r =
    (tokens words : List ℕ) → (sight_of tokens words values s).sort ≡ sort
    → ((counts : List ℕ) (m : Move) → Ends code (sight_of tokens words values s) m → Calls counts (goal_of code) (sight_of tokens words values s) m)
    → Turns tokens goals values words goals' values' words s r

-- ---- the forms that begin with a word

-- the form of a word by two tokens
pub record FormOf (first second form : ℕ) : Type 0 where
  pub known : form < 14
  pub all_is : form ≡ 13 → (first ≡ 61) × (second ≡ 47)
  pub other_is : (form ≡ 13 → ⊥) → first ≡ form + 49
  pub notify_is : form ≡ 12 → second ≡ 47 → ⊥

-- the tokens that its words are
abbrev pub TakenBy : ℕ → ℕ → Type 0
TakenBy form taken = (form ≡ 13 → taken ≡ 2) × ((form ≡ 13 → ⊥) → taken ≡ 1)

-- the value that it begins with
abbrev pub ValueOf : ℕ → ℕ → Type 0
ValueOf form value = (form ≡ 3 → value ≡ 1024) × ((form ≡ 3 → ⊥) → value ≡ 0)

-- it is a condition, and an expression is asked for
abbrev pub Misplaced : ℕ → ℕ → Bool → Type 0
Misplaced form code true = (form ≤ 1) × ((code - 160) % 3 ≡ 1)
Misplaced form code false = form ≤ 1 → (code - 160) % 3 ≡ 1 → ⊥
