-- What the tools `first_interleaving` and `next_interleaving` answer, and what they leave in the area (document 02, E11). Assumes nothing.
use Rattle.std.specs.Prelude.{ℕ, ◌≤◌, ◌<◌, ◌≡◌, Bool, List, [], ◌∷◌, ◌++◌, ltb, length}
use Rattle.std.proofs.Math.Option.{Option, some, none}
use Rattle.format.specs.Refusal.{Refusal, check_whole, first_refusal}
use Rattle.format.specs.Area.{overwrite}
use Rattle.plan_packed.specs.Trees.{program_of}
use Rattle.plan_packed.specs.Check.{checks}
use Rattle.rules.specs.Play.{schedule_checks}
use Rattle.answers.specs.Answer as answer
use Rattle.listing.specs.Listed.{Listed, First, Following, Over}

-- ---- 18: "n over 64"

unfoldable pub over_bound : ℕ → Bool
over_bound n = ltb 64 n

-- ---- 20: "output shorter than n"

unfoldable pub short_output : ℕ → List ℕ → Bool
short_output n area = ltb (length area) n

-- ---- "the tool writes the first when told to begin"

-- "Turned away, after 1 to 9: 18 [..]; 19 [..]; 20 [..]": to begin there is no given schedule, so 8, 9 and 19 do not come
unfoldable pub first_refused : List ℕ → ℕ → List ℕ → Option Refusal
unfolding checks over_bound short_output first_refusal
first_refused plan n area = first_refusal (checks plan ++ (check_whole 18 (over_bound n) ∷ check_whole 20 (short_output n area) ∷ []))

-- the answer, and the whole area afterwards
module _ (plan : List ℕ) (n : ℕ) (area : List ℕ) where
  pub data FirstAnswer : answer.Answer → List ℕ → Type 0 where
    -- "no area changes" (document 01)
    REFUSED : {r : Refusal} → first_refused plan n area ≡ some r → FirstAnswer (answer.refused r) area
    -- the first, and its length; "Bytes past the schedule [..] keep their values."
    WRITTEN : {qs : List ℕ}
        → first_refused plan n area ≡ none → First (program_of plan) n qs
        → FirstAnswer (answer.value (length qs)) (overwrite qs area)

-- ---- "and, given a listed schedule, the following one, or says the list is over"

pub data Next : Type 0 where
  refused : Refusal → Next
  written : ℕ → Next  -- the length of the following one
  over : Next

-- "Turned away, after 1 to 9: 18 n over 64"
unfoldable pub next_refused : List ℕ → ℕ → List ℕ → Option Refusal
unfolding schedule_checks over_bound first_refusal
next_refused plan n schedule = first_refusal (schedule_checks plan schedule ++ (check_whole 18 (over_bound n) ∷ []))

-- the answer, and the whole area afterwards
module _ (plan : List ℕ) (n : ℕ) (schedule area : List ℕ) where
  pub data NextAnswer : Next → List ℕ → Type 0 where
    REFUSED : {r : Refusal} → next_refused plan n schedule ≡ some r → NextAnswer (refused r) area
    -- "19 the given schedule is not listed"
    NOT-LISTED : next_refused plan n schedule ≡ none → (Listed (program_of plan) n schedule → ⊥) → NextAnswer (refused (record { number = 19; place = 0 })) area
    -- "20 output shorter than n"
    SHORT : next_refused plan n schedule ≡ none
        → Listed (program_of plan) n schedule → length area < n
        → NextAnswer (refused (record { number = 20; place = 0 })) area
    -- "the following one", and its length; "Bytes past the schedule [..] keep their values."
    FOLLOWS : {qs : List ℕ}
        → next_refused plan n schedule ≡ none → Listed (program_of plan) n schedule → n ≤ length area
        → Following (program_of plan) n schedule qs
        → NextAnswer (written (length qs)) (overwrite qs area)
    -- "or says the list is over": "or all of them where the list is over, keep their values"
    OVER : next_refused plan n schedule ≡ none
        → Listed (program_of plan) n schedule → n ≤ length area
        → Over (program_of plan) n schedule
        → NextAnswer over area
