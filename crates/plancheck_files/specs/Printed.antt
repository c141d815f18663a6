-- What the program plancheck hands to a writer (README.md, "plancheck"). Assumes nothing.
use Rattle.std.specs.Prelude.{ℕ, cond, leb, List, [], length}
use Rattle.std.specs.Io.KnownBytes.{Appends}
use Rattle.std.specs.declared.option.Option.{Option}
use Rattle.text_inputs.specs.Schedules.{picks_of}

-- the picks of a schedule as it is given; none of one that is longer than the area
abbrev pub picks_in : ℕ → List ℕ → List ℕ
picks_in room bytes = cond (leb (length bytes) room) (picks_of bytes) []

-- a text that has the property was added to what a writer holds
pub record Added (P : List ℕ → Type 0) (before after : Option (List ℕ)) : Type 0 where
  pub text : List ℕ
  pub says : P text
  pub added : Appends before after text
