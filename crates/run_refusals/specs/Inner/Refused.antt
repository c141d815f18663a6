-- The refusal of a play, by the length of its log area. No reader of the entry's promise needs it. Assumes nothing.
use Rattle.std.specs.Prelude.{ℕ, ◌≡◌, List, length}
use Rattle.std.proofs.Math.Option.{Option}
use Rattle.format.specs.Refusal.{Refusal}
use Rattle.rules.specs.Play.{play_refusal}

-- of a play with any log area of n bytes
abbrev pub RefusedAs : List ℕ → List ℕ → ℕ → Option Refusal → Type 0
RefusedAs plan schedule n r = (a : List ℕ) → length a ≡ n → r ≡ play_refusal plan schedule a
