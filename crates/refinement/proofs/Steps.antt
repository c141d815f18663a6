-- One step of refocusing, from any stage. Assumes nothing.
use Prim.Native.Nat.{ℕ, suc, ◌+◌, ◌-◌, ◌≤◌, ◌<◌}
use native.Mathlib.Omega.{arith}
use mathlib.Core.Path.{◌≡◌, refl, sym, ap, ◌∙◌, subst}
use mathlib.Core.Bool.{true, false≢true}
use mathlib.Core.List.{List, [], ◌∷◌}
use lib.Dec.{eqb, eqb-suc-zero}
use lib.ListN.{length}
use Rattle.plan_packed.specs.Format.{terms}
use Rattle.plan_packed.specs.Trees.{node_at}
use Rattle.machine.specs.Inner.Frames as frames
use Rattle.machine.specs.Inner.Refocusing.{up_by, up, upᶜ}
use Rattle.machine.proofs.Sorted.{Well, Wellᶜ}
use Rattle.run_frames.specs.declared.frame.Frame.{Frame}
use Rattle.run_frames.specs.Inner.RedexKinds.{RedexKind as redex}
use Rattle.run_frames.specs.declared.refocusing.Stage.{Stage}
use Rattle.run_frames.specs.declared.refocusing.Stage.TheVariants as stage
use Rattle.run_frames.specs.declared.refocusing.Refocusing.{Refocusing}
use Rattle.run_frames.specs.Inner.Going.{ready_of, go_at, feed_of, feed_condition_of}
use Rattle.run_refocusing_step.specs.Inner.Down.{stay_of, back_of, back_condition_of, step_by, step_of, frame_at, top_of}
use Rattle.run_refocusing.specs.Inner.Refocusing.{Stack, live_by}
use Rattle.refinement.proofs.Meant.{Goes, GoesBy}
use Rattle.refinement.proofs.Fuel.{needs_most, Enough, EnoughBy, feed_enough, feed_condition_enough}
use Rattle.refinement.proofs.Feeding.{feed_goes, feed_condition_goes}
use Rattle.refinement.proofs.Operands.{Placed, Next, stays, want, wantᶜ}
use Rattle.refinement.proofs.Calls.{list_step}
use Rattle.refinement.proofs.Expressions.{run_step}
use Rattle.refinement.proofs.Conditions.{run_condition_step}

-- ---- the top frame

back_more : (f : Frame) (v d : ℕ) → stay_of (feed_of f v) d ≡ back_of f v (suc d)
unfolding back_of
back_more f v d = let q : suc d - 1 ≡ d = omega arith in rw (eqb-suc-zero d, q)

back_moreᶜ : (f : Frame) (v d : ℕ) → stay_of (feed_condition_of f v) d ≡ back_condition_of f v (suc d)
unfolding back_condition_of
back_moreᶜ f v d = let q : suc d - 1 ≡ d = omega arith in rw (eqb-suc-zero d, q)

top_more : (base d : ℕ) → base + d ≡ top_of base (suc d)
top_more base d = let q : suc d - 1 ≡ d = omega arith in rw (eqb-suc-zero d, q)

-- the frames under the top one
outer : {b ws rs : List ℕ} {k : Stack} {base : ℕ} {F : frames.Frame} {S : List frames.Frame} → Placed b ws rs k base (F ∷ S) → Placed b ws rs k base S
outer c = record { right = c.right; loaded = c.loaded; sized = c.sized; room = c.room; held = c.held.2; few = omega (arith, c.few) }

module _ {b ws rs : List ℕ} {k : Stack} {base n : ℕ} {X : frames.Found} where
  -- ---- a value goes into the top frame

  back_step : (S : List frames.Frame) → Placed b ws rs k base S → (v : ℕ) → v < 32 → Well S → X ≡ up (node_at b) (terms b) S v → 2054 ≤ suc n
      → Next b ws k base n X (back_of (frame_at k (top_of base (length S))) v (length S))
  unfolding back_of up up_by
  back_step [] c v l w x m = stays c (go_at (ready_of redex.Done v 0 0 0)) (redex.Done, refl, (refl, x, l)) (omega arith)
  back_step (F ∷ S) c v l w x m =
      let f = frame_at k (base + length S) in
      let e = c.held.0 in
      subst (λ (i : ℕ). Next b ws k base n X (back_of (frame_at k i) v (suc (length S)))) (top_more base (length S))
      (subst (Next b ws k base n X) (back_more f v (length S))
      (stays (outer c) (feed_of f v)
      (feed_goes b S X f v c.held.1 l (subst (λ (F : frames.Frame). Well (F ∷ S)) (sym e) w)
      (x ∙ ap (λ (F : frames.Frame). up (node_at b) (terms b) (F ∷ S) v) (sym e)))
      (feed_enough ws n f v (omega (arith, needs_most f.kind f.first)))))

  back_stepᶜ : (S : List frames.Frame) → Placed b ws rs k base S → (v : ℕ) → v < 2 → Wellᶜ S → X ≡ upᶜ (node_at b) (terms b) S (eqb v 1) → v + 2 ≤ suc n
      → Next b ws k base n X (back_condition_of (frame_at k (top_of base (length S))) v (length S))
  back_stepᶜ [] c v l w x m = absurd w
  back_stepᶜ (F ∷ S) c v l w x m =
      let f = frame_at k (base + length S) in
      let e = c.held.0 in
      subst (λ (i : ℕ). Next b ws k base n X (back_condition_of (frame_at k i) v (suc (length S)))) (top_more base (length S))
      (subst (Next b ws k base n X) (back_moreᶜ f v (length S))
      (stays (outer c) (feed_condition_of f v)
      (feed_condition_goes b S X f v c.held.1 l (subst (λ (F : frames.Frame). Wellᶜ (F ∷ S)) (sym e) w)
      (x ∙ ap (λ (F : frames.Frame). upᶜ (node_at b) (terms b) (F ∷ S) (eqb v 1)) (sym e)))
      (feed_condition_enough ws n f v (omega arith))))

  -- ---- by the stage

  step_by_lem : (s : Stage) (g : Refocusing) (S : List frames.Frame) → g.stage ≡ s → Placed b ws rs k base S → live_by s ≡ true → GoesBy b s g S X → EnoughBy ws
      (suc n) s g
      → Next b ws k base n X (step_by s ws rs g (length S) (frame_at k (top_of base (length S))))
  step_by_lem stage.Full g S z c live p q = absurd (false≢true live)
  step_by_lem stage.At g S z c live p q = absurd (false≢true live)
  step_by_lem stage.Run g S z c live p q = rw z (run_step c g.operand g.frame.environment p.0 p.1 p.2 q.0 q.1)
  step_by_lem stage.RunCondition g S z c live p q = rw z (run_condition_step c g.operand g.frame.environment p.0 p.1 p.2 q)
  step_by_lem stage.Want g S z c live p q = rw z (want c g.frame g.operand p.0 p.1 p.2 p.3 (omega (arith, q.0)) (omega (arith, q.1)))
  step_by_lem stage.WantCondition g S z c live p q = rw z (wantᶜ c g.frame g.operand p.0 p.1 p.2 p.3 (omega arith))
  step_by_lem stage.List g S z c live p q = rw z (list_step c g.frame p.0 p.2 p.3 p.4 q)
  step_by_lem stage.Value g S z c live p q = back_step S c g.operand p.1 p.0 p.2 q
  step_by_lem stage.Truth g S z c live p q = back_stepᶜ S c g.operand p.1 p.0 p.2 q

  pub step : (g : Refocusing) (S : List frames.Frame) → Placed b ws rs k base S → live_by g.stage ≡ true → Goes b g S X → Enough ws (suc n) g
      → Next b ws k base n X (step_of ws rs g (length S) (frame_at k (top_of base (length S))))
  unfolding step_of
  step g S c live p q = step_by_lem g.stage g S refl c live p q
