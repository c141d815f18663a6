-- How long the text of a plan can be: at most 50 bytes for each token. Assumes nothing.
use Prim.Native.Nat.{ℕ, suc, ◌+◌, ◌*◌, ◌≤◌}
use native.Mathlib.Omega.{arith}
use mathlib.Core.Path.{◌≡◌}
use mathlib.Core.Bool.{Bool, true, false, cond}
use mathlib.Core.List.{List, [], ◌∷◌, ◌++◌}
use mathlib.Core.Option.{none}
use lib.ListN.{length, length-append, replicate, length-replicate}
use Rattle.plan_packed.specs.Trees.{program_of}
use Rattle.plan_packed.specs.Check.{refusal}
use Rattle.plan_written.proofs.RightPlans.{right_program}
use Rattle.plan_notation.specs.Tokens.{text_of}
use Rattle.plan_notation.specs.Inner.Known.{Known}
use Rattle.plan_notation.specs.Shown.{shown_plan}
use Rattle.plan_notation.specs.Layout.{Pen, start, apart, on_new_line, indentation, gap, pen_after, laid_from, laid_out}
use Rattle.plan_notation.specs.Text.{text_of_program, shown_text}
use Rattle.plan_notation.proofs.Widths.{few_bytes, indented}
use Rattle.plan_notation.proofs.ShownCodes.{Fit, plan_fit, known}

gap_few : (p : Pen) (t : ℕ) → length (gap p t) ≤ 41
unfolding gap
gap_few p t = by (on_new_line p t) (apart p.last t) (indentation p t) (indented p t)
  where
    by : (new spaced : Bool) (n : ℕ) → n ≤ 40 → length {A = ℕ} (cond new (10 ∷ replicate n 32) (cond spaced (32 ∷ []) [])) ≤ 41
    by true spaced n h = omega (arith, length-replicate {A = ℕ} n 32)
    by false true n h = omega arith
    by false false n h = omega arith

laid_few : (ts : List ℕ) (p : Pen) → Known ts → length (laid_from p ts) ≤ 50 * length ts + 1
unfolding laid_from
laid_few [] p k = omega arith
laid_few (t ∷ ts) p k =
    let rest = laid_from (pen_after p t) ts in
    omega (
      arith,
      length-append (gap p t) (text_of t ++ rest),
      length-append (text_of t) rest,
      gap_few p t,
      few_bytes t (k 0),
      laid_few ts (pen_after p t) (λ n. k (suc n)),
    )

few_laid : (ts : List ℕ) → Fit 11490 ts → length (laid_out ts) ≤ 574501
unfolding laid_out
few_laid ts f = let h = laid_few ts start (known f) in let k = f.few in omega arith

-- the text of an accepted plan
pub text_few : (plan : List ℕ) → refusal plan ≡ none → length (shown_text plan) ≤ 574501
unfolding shown_text text_of_program
text_few plan e = few_laid (shown_plan (program_of plan)) (plan_fit (program_of plan) (right_program plan e))
