-- Two stages of checks: what they answer together, by the first that refuses. Assumes nothing.
use mathlib.Core.Path.{◌≡◌, sym, ap, ◌∙◌}
use mathlib.Core.Bool.{true≢false}
use mathlib.Core.Option.{Option, some, none}
use Rattle.format.specs.Refusal.{Refusal, or_else}
use Rattle.plan_refusals.specs.Answer.{answered}
use Rattle.std.specs.Prelude.{Result, Ok, Err}
use Rattle.refusals.specs.Numbers.{refusal_of}
use Rattle.refusals.specs.declared.Refusal as code

-- what a check of a plan, of a schedule or of an area answers
abbrev pub Checked : Type 0
Checked = Result (Unit {0}) code.Refusal

-- what passes is not refused
pub passed_refused : {A : Type 0} {r : Checked} {u : Unit {0}} {e : code.Refusal} → r ≡ Ok u → r ≡ Err e → A
passed_refused e q = absurd (true≢false cc)

module _ (x y : Option Refusal) where
  -- the first refuses
  pub refused_first : (r : Checked) (c : code.Refusal) → answered r ≡ x → r ≡ Err c → answered r ≡ or_else x y
  unfolding answered or_else
  refused_first r c e q = let s : x ≡ some (refusal_of c) = sym e ∙ ap answered q in ap answered q ∙ sym (rw s)

  -- the first passes
  pub passed_first : (h r : Checked) {u : Unit {0}} → answered h ≡ x → h ≡ Ok u → answered r ≡ y → answered r ≡ or_else x y
  unfolding answered or_else
  passed_first h r e q l = let s : x ≡ none = sym e ∙ ap answered q in l ∙ sym (rw s)

-- an answer that passes says that there is no refusal
pub passed_none : (x : Option Refusal) (h : Checked) {u : Unit {0}} → answered h ≡ x → h ≡ Ok u → x ≡ none
unfolding answered
passed_none x h e q = sym e ∙ ap answered q

-- what an answer says that refuses as another does
pub told : {r e : code.Refusal} → r ≡ e → answered (Err r) ≡ some (refusal_of e)
unfolding answered
told e = ap (λ r. answered (Err r)) e
