-- Refocusing goes on alike once the values that come next in a call's list are taken. Assumes nothing.
use mathlib.Core.Path.{◌≡◌, refl, sym, ap, ◌∙◌}
use mathlib.Core.Bool.{true}
use mathlib.Core.List.{List}
use Prim.Native.Nat.{ℕ, zero, suc, ◌+◌, ◌-◌, ◌<◌, ◌≤◌}
use native.Mathlib.Omega.{arith}
use native.Mathlib.Decide.{dec_lt}
use borrow.Author.Tests.{lt-ltb, le-ltb}
use Rattle.run_frames.specs.declared.frame.Frame.{Frame}
use Rattle.run_frames.specs.declared.refocusing.Stage.{Stage}
use Rattle.run_frames.specs.declared.refocusing.Stage.TheVariants as stage
use Rattle.run_frames.specs.declared.refocusing.Refocusing.{Refocusing}
use Rattle.run_frames.specs.Inner.Going.{go_list}
use Rattle.run_refocusing_step.specs.declared.Turn.{Turn}
use Rattle.run_refocusing_step.specs.Inner.Ahead.{next_in, taken_of, gathered_of, ahead_by, along_by}
use Rattle.run_refocusing_step.specs.Inner.Down.{opened_of, frame_at, top_of}
use Rattle.run_refocusing_step.proofs.Gathers.{within}
use Rattle.run_refocusing_step.proofs.Along.{step_takes, step_opened}
use Rattle.run_refocusing.specs.Inner.Refocusing.{Stack, live_of, stored, turn_at, refocus_of}
use Rattle.run_refocusing.proofs.Turns.{goes}

module _ (ws rs : List ℕ) (base : ℕ) (k : Stack) (d : ℕ) where
  -- steps from two stages that take the same turn
  alike : (n : ℕ) (g h : Refocusing) → 0 < n → live_of g ≡ true → live_of h ≡ true → turn_at ws rs base k g d ≡ turn_at ws rs base k h d
      → refocus_of n ws rs base k g d ≡ refocus_of n ws rs base k h d
  alike n g h l a b e =
      goes n ws rs base k g d l a
      ∙ ap (λ (t : Turn). refocus_of (n - 1) ws rs base (stored k base t) t.go t.depth) e
      ∙ sym (goes n ws rs base k h d l b)

  -- a step for a value
  takes : (n : ℕ) (f : Frame) → next_in ws f < 32 → refocus_of (suc n) ws rs base k (go_list f) d ≡ refocus_of n ws rs base k (go_list (taken_of ws f)) d
  takes n f l =
      let q : suc n - 1 ≡ n = omega arith in
      goes (suc n) ws rs base k (go_list f) d (omega arith) refl
      ∙ ap (λ (t : Turn). refocus_of (suc n - 1) ws rs base (stored k base t) t.go t.depth) (step_takes ws rs f d (frame_at k (top_of base d)) l)
      ∙ rw (q, le-ltb d d (omega arith))

  -- a step for each
  gathers : (n : ℕ) (f : Frame) → refocus_of (n + 1) ws rs base k (go_list f) d
      ≡ refocus_of (gathered_of n ws f).left ws rs base k (go_list (gathered_of n ws f).frame) d
  unfolding gathered_of
  gathers zero f = refl
  gathers (suc n) f = by (gathers n (taken_of ws f)) (dec_lt (next_in ws f) 32)
    where
      by : refocus_of (n + 1) ws rs base k (go_list (taken_of ws f)) d
          ≡ refocus_of (gathered_of n ws (taken_of ws f)).left ws rs base k (go_list (gathered_of n ws (taken_of ws f)).frame) d
          → Dec (next_in ws f < 32)
          → refocus_of (suc n + 1) ws rs base k (go_list f) d ≡ refocus_of (gathered_of (suc n) ws f).left ws rs base k (go_list (gathered_of (suc n) ws f).frame) d
      by r (yes l) =
          let q : suc n + 1 ≡ suc (n + 1) = omega arith in
          rw (lt-ltb _ _ l) (ap (λ (m : ℕ). refocus_of m ws rs base k (go_list f) d) q ∙ takes (n + 1) f l ∙ r)
      by r (no l) = let h : 32 ≤ next_in ws f = omega arith in rw (le-ltb _ _ h)

  -- by the stage s of the opened term
  pub along_refocuses : (n : ℕ) (g : Refocusing) → 0 < n → live_of g ≡ true → (s : Stage) → (opened_of ws g).stage ≡ s
      → refocus_of n ws rs base k g d
      ≡ refocus_of (ahead_by s n ws (opened_of ws g)).left ws rs base k (along_by s g (ahead_by s n ws (opened_of ws g)).frame) d
  along_refocuses n g l a stage.Full e = refl
  along_refocuses n g l a stage.At e = refl
  along_refocuses n g l a stage.Run e = refl
  along_refocuses n g l a stage.RunCondition e = refl
  along_refocuses n g l a stage.Want e = refl
  along_refocuses n g l a stage.WantCondition e = refl
  along_refocuses n g l a stage.List e =
      let q : n - 1 + 1 ≡ n = omega arith in
      alike n g (go_list (opened_of ws g).frame) l a refl (step_opened ws rs g d (frame_at k (top_of base d)) e g.stage refl)
      ∙ ap (λ (m : ℕ). refocus_of m ws rs base k (go_list (opened_of ws g).frame) d) (sym q)
      ∙ gathers (n - 1) (opened_of ws g).frame
  along_refocuses n g l a stage.Value e = refl
  along_refocuses n g l a stage.Truth e = refl

-- refocusing goes on from there
pub along_live : (s : Stage) (g : Refocusing) (f : Frame) → live_of g ≡ true → live_of (along_by s g f) ≡ true
along_live stage.Full g f a = a
along_live stage.At g f a = a
along_live stage.Run g f a = a
along_live stage.RunCondition g f a = a
along_live stage.Want g f a = a
along_live stage.WantCondition g f a = a
along_live stage.List g f a = refl
along_live stage.Value g f a = a
along_live stage.Truth g f a = a

-- with a step left, and no more than there were
pub ahead_left : (s : Stage) (n : ℕ) (ws : List ℕ) (o : Refocusing) → 0 < n → (0 < (ahead_by s n ws o).left) × ((ahead_by s n ws o).left ≤ n)
ahead_left stage.Full n ws o l = (l, omega arith)
ahead_left stage.At n ws o l = (l, omega arith)
ahead_left stage.Run n ws o l = (l, omega arith)
ahead_left stage.RunCondition n ws o l = (l, omega arith)
ahead_left stage.Want n ws o l = (l, omega arith)
ahead_left stage.WantCondition n ws o l = (l, omega arith)
ahead_left stage.List n ws o l = let r = within (n - 1) ws o.frame in (r.0, omega (arith, l, r.1))
ahead_left stage.Value n ws o l = (l, omega arith)
ahead_left stage.Truth n ws o l = (l, omega arith)
