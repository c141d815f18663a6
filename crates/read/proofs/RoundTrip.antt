-- Reading what is shown gives the plan in the one way that it is written; what is read passes the check; showing and reading it again changes nothing.
-- Assumes nothing.
use Prim.Native.Nat.{ℕ, ◌≤◌}
use native.Mathlib.Omega.{arith}
use mathlib.Core.Path.{◌≡◌, refl, ap, ◌∙◌}
use mathlib.Core.List.{List, [], ◌∷◌, ◌++◌}
use mathlib.Core.Option.{none}
use lib.ListN.{length, length-append}
use borrow.Author.Tests.{le-ltb}
use Rattle.format.specs.Area.{overwrite}
use Rattle.plan_packed.specs.Syntax.{Program}
use Rattle.plan_packed.specs.Trees.{program_of}
use Rattle.plan_packed.specs.Check.{refusal}
use Rattle.plan_written.specs.Written.{written, written_plan}
use Rattle.plan_written.proofs.RightPlans.{right_program}
use Rattle.plan_notation.specs.Tokens.{text_end}
use Rattle.plan_notation.specs.Lexing.{codes_of}
use Rattle.plan_notation.specs.Shown.{shown_plan}
use Rattle.plan_notation.specs.Text.{text_of_program, shown_text}
use Rattle.plan_notation.proofs.Found.{found_again}
use Rattle.plan_notation.proofs.ShownCodes.{Fit, plan_fit, known}
use Rattle.plan_parsing.specs.Plan.{plan, read_plan}
use Rattle.plan_parsing.proofs.PlanBack.{plan_back}
use Rattle.plan_parsing.proofs.PlanRight.{text_passes}
use Rattle.read.specs.Read as texts
use Rattle.read.specs.Read.{too_many, short_for_plan, answer_by, area_by, read_answer, read_area}

module _ (b : List ℕ) (h : refusal b ≡ none) where
  fits : Fit 11490 (shown_plan (program_of b))
  fits = plan_fit (program_of b) (right_program b h)

  -- the tokens of its text
  codes : codes_of (shown_text b) ≡ shown_plan (program_of b) ++ (text_end ∷ [])
  unfolding shown_text text_of_program
  codes = found_again (shown_plan (program_of b)) (known fits)

  -- "reading what show wrote gives the canonical plan [..], for every accepted plan"
  pub shown_read : read_plan (codes_of (shown_text b)) ≡ plan (program_of b)
  shown_read = ap read_plan codes ∙ plan_back b h

  few : length (codes_of (shown_text b)) ≤ 16384
  few = omega (arith, ap length codes, length-append (shown_plan (program_of b)) (text_end ∷ []), fits.few)

  -- the area begins with it, where it is long enough
  pub shown_area : (area : List ℕ) → length (written_plan b) ≤ length area → read_area (shown_text b) area ≡ overwrite (written_plan b) area
  unfolding read_area too_many area_by short_for_plan written_plan
  shown_area area l = rw (le-ltb 16384 (length (codes_of (shown_text b))) few, shown_read, le-ltb (length area) (length (written (program_of b))) l) refl

  pub shown_answer : (area : List ℕ) → length (written_plan b) ≤ length area → read_answer (shown_text b) area ≡ texts.Read.written (length (written_plan b))
  unfolding read_answer too_many answer_by short_for_plan written_plan
  shown_answer area l = rw (le-ltb 16384 (length (codes_of (shown_text b))) few, shown_read, le-ltb (length area) (length (written (program_of b))) l) refl

module _ (text : List ℕ) (g : Program) (e : read_plan (codes_of text) ≡ plan g) where
  -- "what read writes passes the check", and is a plan of the program that was read
  pub read_passes : refusal (written g) ≡ none
  read_passes = (text_passes text g e).0

  -- "showing what read wrote and reading it again changes nothing"
  pub read_again : read_plan (codes_of (shown_text (written g))) ≡ plan g
  read_again = shown_read (written g) read_passes ∙ ap plan (text_passes text g e).1
