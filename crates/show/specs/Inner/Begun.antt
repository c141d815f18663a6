-- What is written of some tokens: no reader of the entry's promise needs it. Assumes nothing.
use Rattle.std.specs.Prelude.{ℕ, ◌≤◌, ◌<◌, ◌≡◌, List, ◌⊎◌, length, Result, Ok, Err}
use Rattle.format.specs.Area.{overwrite}
use Rattle.plan_notation.specs.Layout.{laid_out}
use Rattle.refusals.specs.declared.Refusal.{Refusal}
use Rattle.refusals.specs.declared.Reason.TheVariants.{TextArea}

-- the area is too short for these bytes
pub record TooShort (bytes area area' : List ℕ) (r : Result ℕ Refusal) : Type 0 where
  pub short : length area < length bytes
  pub kept : area' ≡ area
  pub refused : r ≡ Err (record { reason = TextArea; place = 0 })

-- or it begins with them
pub record Overwritten (bytes area area' : List ℕ) (r : Result ℕ Refusal) : Type 0 where
  pub long : length bytes ≤ length area
  pub text : area' ≡ overwrite bytes area
  pub answer : r ≡ Ok (length bytes)

abbrev pub BytesWritten : List ℕ → List ℕ → List ℕ → Result ℕ Refusal → Type 0
BytesWritten bytes area area' r = TooShort bytes area area' r ⊎ Overwritten bytes area area' r

-- the same of the text of these tokens
abbrev pub TextWritten : List ℕ → List ℕ → List ℕ → Result ℕ Refusal → Type 0
TextWritten ts = BytesWritten (laid_out ts)
