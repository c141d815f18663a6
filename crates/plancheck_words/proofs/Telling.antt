-- What is told of a plan, by the word, and by how the plan is given. Assumes nothing.
use Prim.Native.Nat.{ℕ}
use mathlib.Core.Path.{◌≡◌, sym, subst}
use mathlib.Core.Bool.{true, false}
use mathlib.Core.List.{List}
use Rattle.text.specs.Inner.Wrote.{Wrote}
use Rattle.text_inputs.specs.Plans.{is_text}
use Rattle.read.specs.Read.{Failure}
use Rattle.text_read_lines.specs.Reasons.{failure_line}
use Rattle.text_answer_lines.specs.Inner.Told.{Told}
use Rattle.plancheck_words.specs.Given.{Given, plan, no_plan, text_plan, given_plan}
use Rattle.plancheck_words.specs.Words.{SaysBy, Says, Answers, of_plan, of_none}
use Rattle.plancheck_words.specs.declared.Word.{Word}

-- ---- by the word

-- a text that is fixed
pub says_text : {w v : Word} {p s before after text : List ℕ} {r : ℕ}
    → w ≡ v → SaysBy v p s text → Wrote before 0 text after r → Told (Says w p s) before after r
says_text {w} {v} {p} {s} {before} {after} {text} {r} e t wrote =
    subst (λ (u : Word). Told (Says u p s) before after r) (sym e) (record { text = text; says = record { so = t }; wrote = wrote })

-- ---- by how the plan is given

pub given_text : (bytes : List ℕ) → is_text bytes ≡ true → given_plan bytes ≡ text_plan bytes
unfolding given_plan
given_text bytes e = simp e

pub given_packed : (bytes : List ℕ) → is_text bytes ≡ false → given_plan bytes ≡ plan bytes
unfolding given_plan
given_packed bytes e = simp e

module _ {w : Word} {s before after : List ℕ} {r : ℕ} where
  pub of_given : {g h : Given} → g ≡ h → Told (Answers w s h) before after r → Told (Answers w s g) before after r
  of_given e t = subst (λ (x : Given). Told (Answers w s x) before after r) (sym e) t

  pub plan_told : {g : Given} {p : List ℕ} → g ≡ plan p → Told (Says w p s) before after r → Told (Answers w s g) before after r
  plan_told e t = of_given e (record { text = t.text; says = of_plan t.says; wrote = t.wrote })

  pub none_told : {g : Given} {l c : ℕ} {f : Failure} → g ≡ no_plan l c f → Wrote before 0 (failure_line l c f) after r → Told (Answers w s g) before after r
  none_told e t = of_given e (record { text = _; says = of_none; wrote = t })
