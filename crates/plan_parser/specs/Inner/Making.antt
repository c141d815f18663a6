-- The terms that are made of values, for inner contracts: no reader of an entry's promise needs them. Assumes nothing.
use Rattle.std.specs.Prelude.{ℕ, ◌+◌, ◌-◌, ◌≤◌, ◌<◌, ◌≡◌, List, [], length, get_or}
use Rattle.plan_packed.specs.Inner.Steps.{Ordered}
use Rattle.plan_parsing.specs.Goals.{made}
use Rattle.plan_parser_goals.specs.Inner.Encoded.{values_of}
use Rattle.plan_parser_goals.specs.Inner.Moves.{operand_kinds, Operands}
use Rattle.plan_parser.specs.Inner.Stacks.{Entries}

-- a term of tag k can be made of the last of n values, below those from left on
pub record Makeable (words values : List ℕ) (n left k : ℕ) : Type 0 where
  pub tag_known : k < 21
  pub some_left : 0 < left
  pub few_left : left ≤ length words
  pub few_words : length words ≤ 1024
  pub few : n < length values
  pub ordered : Ordered words
  pub entries : Entries left values n
  pub operands : Operands (get_or operand_kinds k []) (values_of words values n)

-- it is made, and the others stay
pub record Makes (words values : List ℕ) (n left k : ℕ) (words' values' : List ℕ) (n' : ℕ) : Type 0 where
  pub values_are : values_of words' values' n' ≡ made k (values_of words values n)
  pub ordered : Ordered words'
  pub words_long : length words' ≡ length words
  pub values_long : length values' ≡ length values
  pub entries : Entries (left - 1) values' n'
  pub terms_stay : (i : ℕ) → left ≤ i → get_or words' i 0 ≡ get_or words i 0
  pub few : n' ≤ n + 1
