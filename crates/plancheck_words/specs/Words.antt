-- What the program answers to a word, a plan and a schedule (README.md, "plancheck"). Assumes nothing.
use Rattle.std.specs.Prelude.{ℕ, ◌≡◌, List}
use Rattle.read.specs.Read.{Failure}
use Rattle.text_read_lines.specs.Reasons.{failure_line}
use Rattle.text_plan_words.specs.Texts.{check_text, plan_text, show_text, canonical_text, bound_text}
use Rattle.text_run_words.specs.Texts.{charge_text, WitnessText}
use Rattle.text_run_words.specs.Runs.{PlayText, threads_text, preview_text, log_text}
use Rattle.text_interleaving_lines.specs.Lines.{InterleavingsText}
use Rattle.plancheck_words.specs.Given.{Given, plan, no_plan}
use Rattle.plancheck_words.specs.declared.Word.{Word}
use Rattle.plancheck_words.specs.declared.Word.TheVariants as word

-- to a packed plan, by the word
abbrev pub SaysBy : Word → List ℕ → List ℕ → List ℕ → Type 0
SaysBy word.Check p s text = text ≡ check_text p
SaysBy word.Show p s text = text ≡ show_text p
SaysBy word.Read p s text = text ≡ plan_text p
SaysBy word.Canonical p s text = text ≡ canonical_text p
SaysBy word.Bound p s text = text ≡ bound_text p
SaysBy word.Play p s text = PlayText p s text
SaysBy word.States p s text = text ≡ threads_text p s
SaysBy (word.Preview pick) p s text = text ≡ preview_text p s pick
SaysBy word.Log p s text = text ≡ log_text p s
SaysBy word.Witness p s text = WitnessText p s text
SaysBy word.Charge p s text = text ≡ charge_text p s
SaysBy (word.Interleavings n) p s text = InterleavingsText p n text

pub record Says (w : Word) (p s text : List ℕ) : Type 0 where
  pub so : SaysBy w p s text

-- to a plan as it is given: a text that is no plan gets the line that says so
pub data Answers (w : Word) (s : List ℕ) : Given → List ℕ → Type 0 where
  of_plan : {p text : List ℕ} → Says w p s text → Answers w s (plan p) text
  of_none : {l c : ℕ} {f : Failure} → Answers w s (no_plan l c f) (failure_line l c f)
