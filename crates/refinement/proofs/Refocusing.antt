-- Refocusing on numbers finds what refocusing on frames finds: the redex that moves next, in frames that the stack holds, or more frames than there is room
-- for. 2,100 steps are enough. Assumes nothing.
use Prim.Native.Nat.{ℕ, zero, suc, ◌+◌, ◌-◌, ◌≤◌, ◌<◌}
use native.Mathlib.Omega.{arith}
use mathlib.Core.Path.{◌≡◌, refl, sym, ap, ◌∙◌, subst}
use mathlib.Core.Bool.{Bool, true, false, true≢false}
use mathlib.Core.List.{List}
use mathlib.Core.Option.{none}
use mathlib.Core.Logic.{◌⊎◌, inl, inr}
use lib.ListN.{length}
use Rattle.plan_packed.specs.Check.{refusal}
use Rattle.plan_packed.proofs.Accepted.{Accepted, accepted}
use Rattle.machine.specs.Inner.Frames as frames
use Rattle.run_frames.specs.declared.refocusing.Stage.{Stage}
use Rattle.run_frames.specs.declared.refocusing.Stage.TheVariants as stage
use Rattle.run_frames.specs.declared.refocusing.Refocusing.{Refocusing}
use Rattle.run_refocusing_step.specs.Inner.Down.{frame_at, top_of}
use Rattle.run_refocusing.specs.Inner.Refocusing.{Stack, ended, live_by, stored, turn_at, refocus_of}
use Rattle.run_refocusing.proofs.Turns
use Rattle.run_refocusing_step.proofs.Depths.{step_in}
use Rattle.refinement.proofs.Meant.{WordsAndRoots, Holds, Goes, GoesBy, Sized, FoundBy, Refocuses}
use Rattle.refinement.proofs.FrameLaws.{stored_sized, stored_other}
use Rattle.refinement.proofs.Fuel.{Enough, EnoughBy, needs_most}
use Rattle.refinement.proofs.Operands.{Next}
use Rattle.refinement.proofs.Steps.{step}

-- no stage has ended with no step left
none_left : (ws : List ℕ) (s : Stage) (g : Refocusing) → EnoughBy ws 0 s g → ⊥
none_left ws stage.Full g p = omega arith
none_left ws stage.At g p = omega arith
none_left ws stage.Run g p = omega (arith, p.0)
none_left ws stage.RunCondition g p = omega arith
none_left ws stage.Want g p = omega (arith, p.0)
none_left ws stage.WantCondition g p = omega arith
none_left ws stage.List g p = omega arith
none_left ws stage.Value g p = omega arith
none_left ws stage.Truth g p = omega arith

enough_by : (b ws : List ℕ) (s : Stage) (g : Refocusing) (S : List frames.Frame) (X : frames.Found) → GoesBy b s g S X → EnoughBy ws 2100 s g
enough_by b ws stage.Full g S X p = omega arith
enough_by b ws stage.At g S X p = omega arith
enough_by b ws stage.Run g S X p = (omega arith, λ l. omega arith)
enough_by b ws stage.RunCondition g S X p = omega arith
enough_by b ws stage.Want g S X p = (omega arith, omega (arith, needs_most g.frame.kind g.frame.first))
enough_by b ws stage.WantCondition g S X p = omega arith
enough_by b ws stage.List g S X p = omega arith
enough_by b ws stage.Value g S X p = omega arith
enough_by b ws stage.Truth g S X p = omega (arith, p.1)

-- ---- refocusing has ended

ended_by_lem : (b : List ℕ) (k : Stack) (base : ℕ) (X : frames.Found) (S : List frames.Frame) (g : Refocusing) (s : Stage) → Holds b k base S → length S ≤ 32
    → live_by s ≡ false → GoesBy b s g S X
    → FoundBy b s (ended k g (length S)) base X
ended_by_lem b k base X S g stage.Full held few live p = p
ended_by_lem b k base X S g stage.At held few live p = (S, held, refl, few, p)
ended_by_lem b k base X S g stage.Run held few live p = true≢false live
ended_by_lem b k base X S g stage.RunCondition held few live p = true≢false live
ended_by_lem b k base X S g stage.Want held few live p = true≢false live
ended_by_lem b k base X S g stage.WantCondition held few live p = true≢false live
ended_by_lem b k base X S g stage.List held few live p = true≢false live
ended_by_lem b k base X S g stage.Value held few live p = true≢false live
ended_by_lem b k base X S g stage.Truth held few live p = true≢false live

-- ---- and on

module _ (b ws rs : List ℕ) (a : Accepted b) (loaded : WordsAndRoots b ws rs) (base : ℕ) (room : base + 33 ≤ 297) (X : frames.Found) where
  apart : (i d : ℕ) → (i < base) ⊎ (base + 33 ≤ i) → d ≤ 32 → i ≡ base + d → ⊥
  apart i d (inl p) l e = omega arith
  apart i d (inr p) l e = omega arith

  -- what is to be shown of n steps
  abbrev RefocusesIn : ℕ → Type 0
  RefocusesIn n =
      (k : Stack) → Sized b k → (S : List frames.Frame) → Holds b k base S → length S ≤ 32 → (g : Refocusing) → Goes b g S X → Enough ws n g
      → Refocuses b k base X (refocus_of n ws rs base k g (length S))

  refocuses_on : (n : ℕ) → RefocusesIn n → (k : Stack) → Sized b k → (S : List frames.Frame) → length S ≤ 32 → (g : Refocusing) → live_by g.stage ≡ true
      → Next b ws k base n X (turn_at ws rs base k g (length S)) → Refocuses b k base X (refocus_of (suc n) ws rs base k g (length S))
  refocuses_on n rest k sized S few g live m =
      let T = turn_at ws rs base k g (length S) in
      let k' = stored k base T in
      let one : suc n - 1 ≡ n = omega arith in
      let i = (step_in ws rs g (length S) (frame_at k (top_of base (length S))) few).1 in
      let r = rest k' (stored_sized b k base T sized) m.around m.holds m.few T.go m.goes m.enough in
      subst (Refocuses b k base X)
      (ap (λ (d : ℕ). refocus_of n ws rs base k' T.go d) (sym m.depth_is) ∙ ap (λ (j : ℕ). refocus_of j ws rs base k' T.go T.depth) (sym one)
      ∙ sym (Turns.goes (suc n) ws rs base k g (length S) (omega arith) live))
      (record { found = r.found; sized = r.sized; others = λ j h. r.others j h ∙ stored_other k base T j (apart j T.at h i) })

  refocuses_by : (n : ℕ) → RefocusesIn n → (k : Stack) → Sized b k → (S : List frames.Frame) → Holds b k base S → length S ≤ 32 → (g : Refocusing) → Goes b g
      S X
      → Enough ws (suc n) g
      → (t : Bool) → live_by g.stage ≡ t → Refocuses b k base X (refocus_of (suc n) ws rs base k g (length S))
  refocuses_by n rest k sized S held few g p q true live =
      refocuses_on n rest k sized S few g live (step g S (record { right = a; loaded = loaded; sized = sized; room = room; held = held; few = few }) live p q)
  refocuses_by n rest k sized S held few g p q false live =
      subst (Refocuses b k base X) (sym (Turns.halts (suc n) ws rs base k g (length S) (omega arith) live))
      (record { found = ended_by_lem b k base X S g g.stage held few live p; sized = sized; others = λ i h. refl })

  refocuses : (n : ℕ) → RefocusesIn n
  refocuses zero k sized S held few g p q = absurd (none_left ws g.stage g q)
  refocuses (suc n) k sized S held few g p q = refocuses_by n (refocuses n) k sized S held few g p q (live_by g.stage) refl

-- refocusing, from any stage of an accepted plan
pub refocused : (b ws rs : List ℕ) → refusal b ≡ none → WordsAndRoots b ws rs → (base : ℕ) (k : Stack) → Sized b k → base + 33 ≤ 297
    → (S : List frames.Frame) → Holds b k base S → (g : Refocusing) (d : ℕ) → d ≡ length S → d ≤ 32 → (X : frames.Found) → Goes b g S X
    → Refocuses b k base X (refocus_of 2100 ws rs base k g d)
refocused b ws rs right loaded base k sized room S held g d e few X p =
    subst (λ (d : ℕ). Refocuses b k base X (refocus_of 2100 ws rs base k g d)) (sym e)
    (refocuses b ws rs (accepted b right) loaded base room X 2100 k sized S held (omega arith) g p (enough_by b ws g.stage g S X p))
