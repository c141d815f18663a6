-- The arrays of goals and of values, for inner contracts: no reader of an entry's promise needs them. Assumes nothing.
use Rattle.std.specs.Prelude.{ℕ, ◌+◌, ◌-◌, ◌*◌, ◌≤◌, ◌<◌, ◌≡◌, cond, List, eqb, ltb, length, get_or, drop}
use Rattle.plan_parsing.specs.Goals.{Goal}
use Rattle.plan_parser_goals.specs.Inner.Encoded.{goals_of, values_of}
use Rattle.plan_parser_goals.specs.Inner.Moves.{Seen, pushed}
use Rattle.plan_parser_goals.specs.Inner.Moves.{Sight}

-- goals on those of an array, of which so many were there
pub record Stacked (f : List Goal → List Goal) (goals : List ℕ) (n : ℕ) (goals' : List ℕ) (n' : ℕ) : Type 0 where
  pub goals_are : goals_of goals' n' ≡ f (goals_of goals n)
  pub long : length goals' ≡ length goals
  pub above : n ≤ n'

-- the values of an array are terms from the first that is made on, or numbers
abbrev pub Entries : ℕ → List ℕ → ℕ → Type 0
Entries left values n = (i : ℕ) → i < n → (left ≤ get_or values i 0) × (get_or values i 0 < 1024 + 4294967296)

-- a value in place of so many of those of an array
pub record Put (popped value : ℕ) (values : List ℕ) (n : ℕ) (values' : List ℕ) (n' : ℕ) : Type 0 where
  pub values_are : (words : List ℕ) → values_of words values' n' ≡ pushed value (drop popped (values_of words values n))
  pub long : length values' ≡ length values
  pub entries : (left : ℕ) → left ≤ 1024 → Entries left values n → Entries left values' n'
  pub few : n' ≤ n + 1

-- the value that was read last; without one, the number 0
unfoldable pub last_of : List ℕ → ℕ → ℕ
last_of values n = cond (eqb n 0) 1024 (get_or values (n - 1) 0)

-- what a step sees of tokens from a place on, and of values
pub record Looks (tokens : List ℕ) (at : ℕ) (words values : List ℕ) (n : ℕ) (s : Sight) : Type 0 where
  pub seen : Seen s (values_of words values n) (drop at tokens)
  pub small : s.number < 4294967296
  pub first_inside : 69 ≤ s.first + 69 * (length tokens - at)
  pub second_inside : 69 ≤ s.second + 69 * (length tokens - (at + 1))
  pub third_inside : 69 ≤ s.third + 69 * (length tokens - (at + 2))

-- the number of an operand that is so far down, from 1; 0 is none
unfoldable pub operand_at : List ℕ → ℕ → ℕ → ℕ
operand_at values n b = cond (eqb b 0) 0 (let v = get_or values (n - b) 0 in cond (ltb v 1024) v (v - 1024))
