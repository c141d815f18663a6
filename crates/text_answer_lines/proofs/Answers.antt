-- The text of an answer, by the answer of the code. Assumes nothing.
use Prim.Native.Nat.{ℕ}
use mathlib.Core.Path.{◌≡◌, sym, ap, ◌∙◌}
use mathlib.Core.List.{List}
use mathlib.Core.Option.{Option, none}
use Rattle.format.specs.Refusal.{Refusal}
use Rattle.plan_refusals.specs.Answer as refusals
use Rattle.plan_refusals.proofs.Stages.{Checked}
use Rattle.refusals.specs.declared.Refusal as code
use Rattle.refusals.specs.Numbers.{refusal_of}
use Rattle.std.specs.Prelude.{Result, Ok, Err}
use Rattle.text_refusal_lines.specs.Lines.{refusal_lines}
use Rattle.answers.specs.Answer.{Answer, answered}
use Rattle.text_answer_lines.specs.Texts.{text_by, answer_text}

-- ---- a check, and the text of what passes it

module _ (text : List ℕ) (o : Option Refusal) (x : Checked) (h : refusals.answered x ≡ o) where
  pub check_refused : (c : code.Refusal) → x ≡ Err c → refusal_lines (refusal_of c) ≡ text_by o text
  unfolding text_by refusals.answered
  check_refused c e = ap (λ (y : Option Refusal). text_by y text) (sym (ap refusals.answered e) ∙ h)

  pub check_passed : {u : Unit {0}} → x ≡ Ok u → text ≡ text_by o text
  unfolding text_by refusals.answered
  check_passed e = ap (λ (y : Option Refusal). text_by y text) (sym (ap refusals.answered e) ∙ h)

  pub check_none : {u : Unit {0}} → x ≡ Ok u → o ≡ none
  unfolding refusals.answered
  check_none e = sym h ∙ ap refusals.answered e

-- ---- a value or a refusal

module _ (words : ℕ → List ℕ) (x : Result ℕ code.Refusal) (a : Answer) (h : answered x ≡ a) where
  pub refused_text : (c : code.Refusal) → x ≡ Err c → refusal_lines (refusal_of c) ≡ answer_text words a
  unfolding answer_text
  refused_text c e = ap (answer_text words) (sym (ap answered e) ∙ h)

  pub value_text : (n : ℕ) → x ≡ Ok n → words n ≡ answer_text words a
  unfolding answer_text
  value_text n e = ap (answer_text words) (sym (ap answered e) ∙ h)
