-- What the tool `show` answers is small: the length of a text, at most 50 bytes for each token; or a refusal's number and place. Assumes nothing.
use Prim.Native.Nat.{ℕ, ◌<◌, ◌^◌}
use native.Mathlib.Omega.{arith}
use mathlib.Core.Path.{◌≡◌, refl}
use mathlib.Core.Bool.{Bool, true, false}
use mathlib.Core.List.{List, [], ◌∷◌}
use mathlib.Core.Option.{Option, some, none}
use lib.ListN.{length}
use Rattle.format.specs.Refusal.{Refusal, check_whole, or_else, lowest, refuse, first_refusal}
use Rattle.plan_packed.specs.Check.{refusal}
use Rattle.plan_refusals.specs.Inner.Small.{SmallCheck}
use Rattle.answers.specs.Answer.{answer_by}
use Rattle.plan_notation.specs.Text.{shown_text}
use Rattle.show.specs.Show.{short_for_text, show_answer}
use Rattle.show.proofs.Answers.{stages}
use Rattle.show.proofs.Lengths.{text_few}
use Rattle.abi_convention.specs.Inner.Small.{SmallAnswer}
use Rattle.abi_convention.proofs.Wider.{wider}
use Rattle.ruqzhemil.proofs.Refusals.{small_plan}

few_text : (plan : List ℕ) → refusal plan ≡ none → length (shown_text plan) < 2 ^ 32
few_text plan e = let h = text_few plan e in omega arith

-- by the plan's refusal, and whether the area is too short for a text of n bytes
small_by : (o : Option Refusal) (short : Bool) (n : ℕ) → SmallCheck o → (o ≡ none → n < 2 ^ 32)
    → SmallAnswer (answer_by (or_else o (first_refusal (check_whole 25 short ∷ []))) n)
unfolding or_else answer_by first_refusal refuse lowest
small_by (some r) short n s h = wider s
small_by none true n s h = (omega arith, omega arith)
small_by none false n s h = h refl

pub small_show : (plan area : List ℕ) → SmallAnswer (show_answer plan area)
unfolding show_answer
small_show plan area =
    rw (stages plan area) (small_by (refusal plan) (short_for_text plan area) (length (shown_text plan)) (small_plan plan) (few_text plan))
