-- A charge and a witness in words. Assumes nothing.
use Rattle.std.specs.Prelude.{ℕ, ◌<◌, ◌≡◌, true, false, List, [], ◌∷◌, ◌++◌, length}
use Rattle.std.proofs.Math.Option.{some, none}
use Rattle.format.specs.Refusal.{Refusal}
use Rattle.plan_packed.specs.Trees.{program_of}
use Rattle.text.specs.Text.{ascii, decimal}
use Rattle.text_refusal_lines.specs.Lines.{refusal_lines}
use Rattle.answers.specs.Answer.{Answer}
use Rattle.charge.specs.Charge.{charged}
use Rattle.side_by_side.specs.SideBySide.{Written, SideBySide}
use Rattle.witness.specs.Witness.{race_refusal}
use Rattle.text_inputs.specs.Schedules.{digit_line}
use Rattle.text_answer_lines.specs.Texts.{answer_text}

-- charge: what the run costs, without the option and with it
unfoldable pub cents_lines : ℕ → ℕ → List ℕ
unfolding ascii decimal
cents_lines plain more =
    decimal plain ++ (ascii " cents" ++ (10 ∷ (decimal more ++ (ascii " cents with the one-millisecond option" ++ (10 ∷ [])))))

unfoldable pub charge_lines : Answer → Answer → List ℕ
unfolding answer_text cents_lines
charge_lines plain option = answer_text (λ n. answer_text (λ m. cents_lines n m) option) plain

unfoldable pub charge_text : List ℕ → List ℕ → List ℕ
unfolding charge_lines charged
charge_text plan schedule = charge_lines (charged plan schedule false) (charged plan schedule true)

-- witness: a schedule after which the write and the failing access are the next moves of two threads, as digits; one of over 4,096 picks would be refused, and
-- there is none
pub data WitnessText (plan schedule : List ℕ) : List ℕ → Type 0 where
  refuses : {r : Refusal} → race_refusal plan schedule ≡ some r → WitnessText plan schedule (refusal_lines r)
  too_long : {qs : List ℕ} → race_refusal plan schedule ≡ none → Written (program_of plan) schedule qs → 4096 < length qs
      → WitnessText plan schedule (refusal_lines (record { number = 17; place = 0 }))
  shows : {qs : List ℕ} → race_refusal plan schedule ≡ none → (w : Written (program_of plan) schedule qs) → SideBySide (program_of plan) schedule qs w
      → WitnessText plan schedule (digit_line qs)
