-- `is_text`: the code is its definition; a plan without bytes has no first byte, and 0 is taken for it. Assumes nothing.
use Rattle.std.proofs.Common.{◌≡◌, ℕ, Bool, List, Option}
use mathlib.Core.Bool.{◌||◌}
use mathlib.Core.Path.{sym, ap, ◌∙◌}
use lib.Dec.{ltb}
use Rattle.std.specs.List.{slice_get}
use Rattle.std.specs.Option.{unwrap_or}
use Rattle.std.proofs.lemmas.Option.{unwrap_or-slice_get}
use Rattle.plan_notation.specs.Lexing.{is_blank}
use Rattle.text_inputs.specs.Plans.{is_text}
use Rattle.text_inputs.proofs.plans.is_text.Goals as goal

-- by the first byte, if there is one
by_first : (bytes : List ℕ) {first : Option ℕ} → first ≡ slice_get bytes 0 → (is_blank (unwrap_or first 0) || ltb 32 (unwrap_or first 0)) ≡ is_text bytes
unfolding is_text
by_first bytes e = ap (λ (b : ℕ). is_blank b || ltb 32 b) (ap (λ (o : Option ℕ). unwrap_or o 0) e ∙ unwrap_or-slice_get bytes 0 0)

pub returns-then-is_blank : goal.returns-then-is_blank
returns-then-is_blank c =
    c.if-is_blank.true
    ∙ ap (λ (b : Bool). b || ltb 32 c.in-Some.first.now) (sym (sym c.is_blank.ensures ∙ c.if-is_blank.true))
    ∙ by_first c.args.bytes.now c.in-Some.ensures.value

pub returns-else-is_blank : goal.returns-else-is_blank
returns-else-is_blank c =
    ap (λ (b : Bool). b || ltb 32 c.in-Some.first.now) (sym (sym c.is_blank.ensures ∙ c.if-is_blank.false)) ∙ by_first c.args.bytes.now c.in-Some.ensures.value

pub returns-in-None : goal.returns-in-None
unfolding is_blank
returns-in-None c = by_first c.args.bytes.now c.in-None.ensures.value
