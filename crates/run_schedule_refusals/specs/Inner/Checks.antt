-- Checks 8 to 10 by themselves. For inner contracts; no reader of the entries' promise needs it. Assumes nothing.
use Rattle.std.specs.Prelude.{ℕ, ◌≡◌, List, [], ◌∷◌, length}
use Rattle.std.proofs.Math.Option.{Option}
use Rattle.format.specs.Refusal.{Refusal, Check, check, check_whole, first_refusal}
use Rattle.rules.specs.Play.{too_many_picks, wrong_pick, short_area}

-- checks 8 and 9
abbrev pub pick_checks : List ℕ → List Check
pick_checks schedule = check_whole 8 (too_many_picks schedule) ∷ check 9 (length schedule) (wrong_pick schedule) ∷ []

-- check 10
abbrev pub area_checks : List ℕ → List ℕ → List Check
area_checks schedule area = check_whole 10 (short_area schedule area) ∷ []

-- check 10's refusal, for any schedule of so many picks and any area of this length
abbrev pub ShortBy : ℕ → ℕ → Option Refusal → Type 0
ShortBy picks n x = (schedule area : List ℕ) → length schedule ≡ picks → length area ≡ n → x ≡ first_refusal (area_checks schedule area)
