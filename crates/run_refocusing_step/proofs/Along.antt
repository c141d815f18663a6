-- A step once the values that come next in a call's list are taken is the step from there. Assumes nothing.
use mathlib.Core.Path.{◌≡◌, refl, sym, ap, ◌∙◌}
use mathlib.Core.Bool.{Bool, true, false}
use mathlib.Core.List.{List}
use Prim.Native.Nat.{ℕ, ◌<◌}
use native.Mathlib.Omega.{arith}
use borrow.Author.Tests.{lt-ltb}
use lib.Dec.{eqb}
use Rattle.run_frames.specs.declared.frame.Frame.{Frame}
use Rattle.run_frames.specs.declared.refocusing.Stage.{Stage}
use Rattle.run_frames.specs.declared.refocusing.Stage.TheVariants as stage
use Rattle.run_frames.specs.declared.refocusing.Refocusing.{Refocusing}
use Rattle.run_frames.specs.Inner.Going.{go_list, feed_of}
use Rattle.plan_packed.specs.Inner.Operands.{tag_of, first_of}
use Rattle.run_term_words.specs.Inner.Words.{word_at, value_of}
use Rattle.run_refocusing_step.specs.Inner.Ahead.{next_of, next_in, taken_of, into_by, along_by}
use Rattle.run_refocusing_step.specs.Inner.Down.{stay_of, want_by, want_of, list_by, list_of, opened_by, opened_of, listed_by, listed_of, wanted_of, down_of, step_by}
use Rattle.run_refocusing_step.specs.Inner.Down.{step_of}

module _ (ws rs : List ℕ) (g o : Refocusing) (f : Frame) (d : ℕ) (x : Frame) (h : step_of ws rs g d x ≡ wanted_of ws (listed_of ws rs o) d) where
  -- of a term that is opened at stage s
  pub along_step : (s : Stage) → o.stage ≡ s → wanted_of ws (into_by s ws rs o f) d ≡ step_of ws rs (along_by s g f) d x
  unfolding step_of
  along_step stage.Full e = sym (h ∙ ap (λ (z : Stage). wanted_of ws (listed_by z ws rs o) d) e)
  along_step stage.At e = sym (h ∙ ap (λ (z : Stage). wanted_of ws (listed_by z ws rs o) d) e)
  along_step stage.Run e = sym (h ∙ ap (λ (z : Stage). wanted_of ws (listed_by z ws rs o) d) e)
  along_step stage.RunCondition e = sym (h ∙ ap (λ (z : Stage). wanted_of ws (listed_by z ws rs o) d) e)
  along_step stage.Want e = sym (h ∙ ap (λ (z : Stage). wanted_of ws (listed_by z ws rs o) d) e)
  along_step stage.WantCondition e = sym (h ∙ ap (λ (z : Stage). wanted_of ws (listed_by z ws rs o) d) e)
  along_step stage.List e = refl
  along_step stage.Value e = sym (h ∙ ap (λ (z : Stage). wanted_of ws (listed_by z ws rs o) d) e)
  along_step stage.Truth e = sym (h ∙ ap (λ (z : Stage). wanted_of ws (listed_by z ws rs o) d) e)

-- a step for a value that comes next in a call's list
pub step_takes : (ws rs : List ℕ) (f : Frame) (d : ℕ) (x : Frame) → next_in ws f < 32 → step_of ws rs (go_list f) d x ≡ stay_of (go_list (taken_of ws f)) d
unfolding step_of next_of list_of list_by want_of want_by feed_of
step_takes ws rs f d x l = by (eqb (tag_of (word_at ws f.first)) 16) refl
  where
    by : (b : Bool) → eqb (tag_of (word_at ws f.first)) 16 ≡ b → step_of ws rs (go_list f) d x ≡ stay_of (go_list (taken_of ws f)) d
    by true e =
        let p : next_in ws f ≡ value_of ws f.environment (first_of (word_at ws f.first)) = rw e in
        let m : value_of ws f.environment (first_of (word_at ws f.first)) < 32 = rw (← p) l in rw (e, lt-ltb _ _ m)
    by false e = let p : next_in ws f ≡ 32 = rw e in absurd (omega (arith, l, p))

-- a step from a call is the step from its list
module _ (ws rs : List ℕ) (g : Refocusing) (d : ℕ) (x : Frame) (e : (opened_of ws g).stage ≡ stage.List) where
  by_list : down_of ws rs g d ≡ down_of ws rs (go_list (opened_of ws g).frame) d
  by_list = ap (λ (z : Stage). wanted_of ws (listed_by z ws rs (opened_of ws g)) d) e

  pub step_opened : (s : Stage) → g.stage ≡ s → step_of ws rs g d x ≡ step_of ws rs (go_list (opened_of ws g).frame) d x
  unfolding step_of
  step_opened stage.Full q = ap (λ (z : Stage). step_by z ws rs g d x) q ∙ by_list
  step_opened stage.At q = ap (λ (z : Stage). step_by z ws rs g d x) q ∙ by_list
  step_opened stage.Run q = ap (λ (z : Stage). step_by z ws rs g d x) q ∙ by_list
  step_opened stage.RunCondition q = ap (λ (z : Stage). step_by z ws rs g d x) q ∙ by_list
  step_opened stage.Want q = ap (λ (z : Stage). step_by z ws rs g d x) q ∙ by_list
  step_opened stage.WantCondition q = ap (λ (z : Stage). step_by z ws rs g d x) q ∙ by_list
  step_opened stage.List q = ap (λ (z : Stage). step_by z ws rs g d x) q ∙ by_list
  step_opened stage.Value q = let r : opened_of ws g ≡ g = ap (λ (z : Stage). opened_by z ws g) q in cc (q, r, e)
  step_opened stage.Truth q = let r : opened_of ws g ≡ g = ap (λ (z : Stage). opened_by z ws g) q in cc (q, r, e)
