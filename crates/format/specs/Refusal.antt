-- Refusals (document 01, "Who can cause a refusal"): the order of the checks, the number and the place. Assumes nothing.
use Rattle.std.specs.Prelude.{ℕ, zero, suc, Bool, cond, List, [], ◌∷◌}
use Rattle.std.proofs.Math.Option.{Option, some, none}
-- the first of two answers, or the second where the first is none: the library's, passed on
unfoldable pub use Rattle.std.proofs.Math.Option.{or_else}

-- "An answer is the number and a place"
pub record Refusal : Type 0 where
  pub number : ℕ
  pub place : ℕ

-- a check: its number, how many places it looks at, and which of them are wrong
pub record Check : Type 0 where
  pub number : ℕ
  pub places : ℕ
  pub wrong : ℕ → Bool

-- the check of number k over n places, of which those that pass the test are wrong
abbrev pub check : ℕ → ℕ → (ℕ → Bool) → Check
check k n f = record { number = k; places = n; wrong = f }

-- a check with the one place 0: "0 for every other number"
abbrev pub check_whole : ℕ → Bool → Check
check_whole k x = check k 1 (λ place. x)

-- the lowest of the numbers below n at which the test passes: "the lowest procedure", "the lowest term", "the lowest pick or record"
unfoldable pub lowest : (ℕ → Bool) → ℕ → Option ℕ
unfolding or_else
lowest f zero = none
lowest f (suc n) = or_else (lowest f n) (cond (f n) (some n) none)

-- the refusal of number k at a place, if there is one, or what the later checks say
unfoldable pub refuse : ℕ → Option ℕ → Option Refusal → Option Refusal
refuse k (some i) later = some (record { number = k; place = i })
refuse k none later = later

-- "Checks run in the order of the numbers, each over the whole input."
unfoldable pub first_refusal : List Check → Option Refusal
unfolding lowest refuse
first_refusal [] = none
first_refusal (c ∷ cs) = let later = first_refusal cs in refuse c.number (lowest c.wrong c.places) later
