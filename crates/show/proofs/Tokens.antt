-- The tokens of an accepted plan, as the code has them. Assumes nothing.
use Prim.Native.Nat.{ℕ, ◌-◌, ◌≤◌}
use native.Mathlib.Omega.{arith}
use mathlib.Core.Path.{◌≡◌, sym, ap, subst, ◌∙◌}
use mathlib.Core.List.{List}
use lib.ListN.{length, take}
use Rattle.plan_packed.specs.Format.{terms}
use Rattle.plan_packed.specs.Inner.Steps.{Loaded}
use Rattle.plan_packed.specs.Trees.{program_of}
use Rattle.plan_packed.specs.Check.{refusal}
use Rattle.plan_refusals.specs.Answer.{answered}
use Rattle.plan_refusals.proofs.Stages.{Checked, passed_none}
use Rattle.refusals.specs.declared.Refusal.{Refusal}
use Rattle.std.specs.Prelude.{Result, Ok}
use Rattle.plan_written.proofs.RightPlans.{right_program}
use Rattle.text.specs.Inner.Wrote.{Wrote}
use Rattle.plan_notation.specs.Inner.Known.{Known}
use Rattle.plan_notation.specs.Shown.{shown_plan}
use Rattle.plan_notation.proofs.ShownCodes.{plan_fit, known}
use Rattle.plan_tokens.specs.Inner.Begun.{Given}
use Rattle.show.specs.Inner.Begun.{TextWritten}

pub given : {plan words : List ℕ} {r : Checked} {u : Unit {0}} → answered r ≡ refusal plan → r ≡ Ok u → Loaded plan (terms plan) words → Given plan words
given {plan} {r = r} e q l = record { passes = passed_none (refusal plan) r e q; loaded = l }

-- the first n bytes of the array, as the code takes them
first_tokens : (plan : List ℕ) {a b : List ℕ} {n : ℕ} → Wrote a 0 (shown_plan (program_of plan)) b n → take (n - 0) b ≡ shown_plan (program_of plan)
first_tokens plan {b = b} {n} w = ap (λ (m : ℕ). take m b) (same n) ∙ w.text
  where
    same : (n : ℕ) → n - 0 ≡ n
    same n = omega arith

pub tokens_length : (plan : List ℕ) {a b : List ℕ} {n : ℕ} → Wrote a 0 (shown_plan (program_of plan)) b n
    → length (take (n - 0) b) ≡ length (shown_plan (program_of plan))
tokens_length plan w = ap length (first_tokens plan w)

-- what is written of them is written of the plan's tokens
pub plan_text_lem : (plan : List ℕ) {a b area area' : List ℕ} {n : ℕ} {r : Result ℕ Refusal} → Wrote a 0 (shown_plan (program_of plan)) b n
    → TextWritten (take (n - 0) b) area area' r → TextWritten (shown_plan (program_of plan)) area area' r
plan_text_lem plan {area = area} {area'} {r = r} w t = subst (λ (ts : List ℕ). TextWritten ts area area' r) (first_tokens plan w) t

pub known_tokens : {plan words a b : List ℕ} {n : ℕ} → Given plan words → Wrote a 0 (shown_plan (program_of plan)) b n
    → Known (take (n - 0) b) × (length (take (n - 0) b) ≤ 16384)
known_tokens {plan} g w =
    let f = plan_fit (program_of plan) (right_program plan g.passes) in
    let e = first_tokens plan w in
    (subst Known (sym e) (known f), omega (arith, ap length e, f.few))
