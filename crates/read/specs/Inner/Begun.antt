-- What is written of a plan that is held in arrays, and reading into arrays that are lent: no reader of the entry's promise needs it. Assumes nothing.
use Rattle.std.specs.Prelude.{ℕ, ◌+◌, ◌^◌, ◌≤◌, ◌<◌, ◌≡◌, List, ◌⊎◌, length, get_or, Option, Some, None, Result, Ok, Err}
use Rattle.format.specs.Area.{overwrite}
use Rattle.plan_packed.specs.Syntax.{Program}
use Rattle.plan_packed.specs.Inner.Steps.{Ordered}
use Rattle.plan_written.specs.Written.{size_of_all, written}
use Rattle.plan_notation.specs.Lexing.{codes_of}
use Rattle.plan_parsing.specs.Plan.{plan, read_plan}
use Rattle.plan_parser.specs.Inner.Reading.{Sized}
use Rattle.plan_writer.specs.Inner.Held.{held_from}
use Rattle.plan_reader.specs.Inner.Reading.{Faulty}
use Rattle.read.specs.Read as texts
use Rattle.read.specs.Read.{failed_at, read_answer, read_area}
use Rattle.read.specs.Answer.{failure_of, known_kind}
use Rattle.read.specs.declared.Stop.{Stop}
use Rattle.read.specs.declared.Stop.TheVariants as stop

-- a plan in arrays
pub record Held (v m n left : ℕ) (words roots counts : List ℕ) : Type 0 where
  pub ordered : Ordered words
  pub version_known : v ≤ 1
  pub mask_fits : m < 2 ^ 32
  pub few_procedures : n ≤ 32
  pub there : (q : ℕ) → q < n → (left ≤ get_or roots q 0) × (get_or roots q 0 < 1024) × (get_or counts q 0 ≤ 8)
  pub sized : size_of_all (held_from words roots counts 0 n) + left ≡ length words
  pub few_words : length words ≤ 1024

-- ---- an answer, a token by its number

abbrev pub told_answer : List ℕ → Result ℕ Stop → texts.Read
told_answer text (Ok n) = texts.Read.written n
told_answer text (Err stop.Short) = texts.Read.short
told_answer text (Err (stop.Token i kind reason)) = failed_at text i (failure_of kind reason)

-- the area is too short for a plan
pub record TooShort (g : Program) (area area' : List ℕ) (told : Result ℕ Stop) : Type 0 where
  pub short : length area < length (written g)
  pub kept : area' ≡ area
  pub told_is : told ≡ Err stop.Short

-- or it is written
pub record Wrote (g : Program) (area area' : List ℕ) (told : Result ℕ Stop) : Type 0 where
  pub long : length (written g) ≤ length area
  pub bytes : area' ≡ overwrite (written g) area
  pub told_is : told ≡ Ok (length (written g))

abbrev pub PlanTold : Program → List ℕ → List ℕ → Result ℕ Stop → Type 0
PlanTold g area area' told = TooShort g area area' told ⊎ Wrote g area area' told

-- ---- reading into arrays

-- arrays that are lent: those for every text, or shorter ones, whose words are fewer
pub record Lent (tokens counts words goals values : List ℕ) : Type 0 where
  pub ordered : Ordered words
  pub sized : Sized goals values words
  pub few_tokens : length tokens ≤ 16384
  pub more_counts : length tokens < length counts
  pub whole : length words ≡ 1024 → length tokens ≡ 16384

-- lengths of such arrays
pub record Lengths (tokens counts words goals values : ℕ) : Type 0 where
  pub few_tokens : tokens ≤ 16384
  pub more_counts : counts ≡ tokens + 1
  pub most_words : words ≤ 1024
  pub some_goals : 16 ≤ goals
  pub most_goals : goals ≤ 8408
  pub some_values : 16 ≤ values
  pub most_values : values ≤ 3108
  pub whole : words ≡ 1024 → (goals ≡ 8408) × (values ≡ 3108) × (tokens ≡ 16384)

-- tokens of a text
pub record OfText (ts : List ℕ) : Type 0 where
  pub text : List ℕ
  pub codes_are : ts ≡ codes_of text

-- they are those of a plan
pub record TokensPlan (ts area area' : List ℕ) (told : Result ℕ Stop) : Type 0 where
  pub program : Program
  pub says : read_plan ts ≡ plan program
  pub plan_told : PlanTold program area area' told

-- or of none
pub record TokensFault (ts area area' : List ℕ) (told : Result ℕ Stop) : Type 0 where
  pub kind : ℕ
  pub reason : ℕ
  pub at : ℕ
  pub says : Faulty ts kind reason at
  pub told_is : told ≡ Err (stop.Token at (known_kind kind) reason)
  pub kept : area' ≡ area

-- the answer to tokens, by arrays with room for so many words; none where they are too short
abbrev pub TokensTold : List ℕ → ℕ → List ℕ → List ℕ → Option (Result ℕ Stop) → Type 0
TokensTold ts n area area' (Some told) = TokensPlan ts area area' told ⊎ TokensFault ts area area' told
TokensTold ts n area area' None = (n < 1024) × (area' ≡ area)

-- and to a text
abbrev pub Tried : List ℕ → ℕ → List ℕ → List ℕ → Option (Result ℕ Stop) → Type 0
Tried text n area area' (Some told) = (told_answer text told ≡ read_answer text area) × (area' ≡ read_area text area)
Tried text n area area' None = (n < 1024) × (area' ≡ area)
