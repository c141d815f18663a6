-- A step that stays, pushes a frame, or wants an operand: where the code stands after it comes to the same, in frames that the stack holds.
-- Assumes nothing.
use Prim.Native.Nat.{ℕ, suc, ◌+◌, ◌≤◌, ◌<◌}
use native.Mathlib.Omega.{arith}
use native.Mathlib.Decide.{dec_lt}
use mathlib.Core.Path.{◌≡◌, refl, sym, ◌∙◌, subst}
use mathlib.Core.List.{List, ◌∷◌}
use lib.Dec.{eqb}
use lib.ListN.{length}
use borrow.Author.Tests.{lt-ltb, le-ltb}
use Rattle.plan_packed.specs.Format.{terms, expression, condition, Operand}
use Rattle.plan_packed.specs.Trees.{node_at}
use Rattle.plan_packed.proofs.Accepted.{Child, Accepted}
use Rattle.machine.specs.Inner.Frames as frames
use Rattle.machine.specs.Inner.Refocusing.{enter, enterᶜ}
use Rattle.machine.proofs.PlanTable.{ordered}
use Rattle.machine.proofs.Sorted.{Well, Wellᶜ}
use Rattle.run_frames.specs.declared.frame.Kind.{Kind}
use Rattle.run_frames.specs.declared.frame.Frame.{Frame}
use Rattle.run_frames.specs.declared.refocusing.Refocusing.{Refocusing}
use Rattle.run_refocusing_step.specs.declared.Turn.{Turn}
use Rattle.run_term_words.specs.Inner.Words.{value_of, truth_of}
use Rattle.run_frames.specs.Inner.Frames.{framed}
use Rattle.run_frames.specs.Inner.Going.{go_run, go_run_condition, go_full, feed_of, feed_condition_of}
use Rattle.run_refocusing_step.specs.Inner.Down.{stay_of, push_of, want_by, want_of, want_condition_by, want_condition_of}
use Rattle.run_refocusing.specs.Inner.Refocusing.{Stack, stored}
use Rattle.refinement.proofs.Meant.{WordsAndRoots, closed, frame_of, IsExpression, IsCondition, SortedBy, Fine, Holds, Goes, Sized}
use Rattle.refinement.proofs.FrameLaws.{holds_more, stored_stay, stored_push}
use Rattle.refinement.proofs.Values.{Valued, Tested, valued, tested}
use Rattle.refinement.proofs.Descent.{enter_value, enter_truth, under, underᶜ}
use Rattle.refinement.proofs.Fuel.{left, needs, Enough, feed_enough, feed_condition_enough}
use Rattle.refinement.proofs.Feeding.{feed_goes, feed_condition_goes}

-- an accepted plan is loaded, and the frames S stand in the stack from place `base` on, with room for 33
pub record Placed (b ws rs : List ℕ) (k : Stack) (base : ℕ) (S : List frames.Frame) : Type 0 where
  pub right : Accepted b
  pub loaded : WordsAndRoots b ws rs
  pub sized : Sized b k
  pub room : base + 33 ≤ 297
  pub held : Holds b k base S
  pub few : length S ≤ 32

-- after a step T, with n steps more: in frames that the stack then holds, refocusing stands at what comes to X
pub record Next (b ws : List ℕ) (k : Stack) (base n : ℕ) (X : frames.Found) (T : Turn) : Type 0 where
  pub around : List frames.Frame
  pub holds : Holds b (stored k base T) base around
  pub depth_is : T.depth ≡ length around
  pub few : length around ≤ 32
  pub goes : Goes b T.go around X
  pub enough : Enough ws n T.go

-- ---- the code, case by case

want_value : (ws : List ℕ) (f : Frame) (i d : ℕ) → value_of ws f.environment i < 32 → stay_of (feed_of f (value_of ws f.environment i)) d ≡ want_of ws f i d
unfolding want_of want_by
want_value ws f i d l = rw (lt-ltb (value_of ws f.environment i) 32 l)

want_other : (ws : List ℕ) (f : Frame) (i d : ℕ) → value_of ws f.environment i ≡ 32 → push_of (go_run i f.environment) d f ≡ want_of ws f i d
unfolding want_of want_by
want_other ws f i d e = rw e

want_truth : (ws : List ℕ) (f : Frame) (i d : ℕ) → truth_of ws i < 2 → stay_of (feed_condition_of f (truth_of ws i)) d ≡ want_condition_of ws f i d
unfolding want_condition_of want_condition_by
want_truth ws f i d l = rw (lt-ltb (truth_of ws i) 2 l)

want_otherᶜ : (ws : List ℕ) (f : Frame) (i d : ℕ) → truth_of ws i ≡ 2 → push_of (go_run_condition i f.environment) d f ≡ want_condition_of ws f i d
unfolding want_condition_of want_condition_by
want_otherᶜ ws f i d e = rw e

abbrev pushed : Refocusing → ℕ → Frame → Turn
pushed g d f = record { go = g; depth = d + 1; at = d; frame = f }

push_more : (g : Refocusing) (d : ℕ) (f : Frame) → d < 32 → pushed g d f ≡ push_of g d f
unfolding push_of
push_more g d f l = rw (lt-ltb d 32 l)

push_full : (g : Refocusing) (d : ℕ) (f : Frame) → 32 ≤ d → stay_of go_full d ≡ push_of g d f
unfolding push_of
push_full g d f l = rw (le-ltb d 32 l)

-- ---- a step

module _ {b ws rs : List ℕ} {k : Stack} {base : ℕ} {S : List frames.Frame} (c : Placed b ws rs k base S) {n : ℕ} {X : frames.Found} where
  -- the frames stay as they are
  pub stays : (g : Refocusing) → Goes b g S X → Enough ws n g → Next b ws k base n X (stay_of g (length S))
  stays g p q = record {
    around = S;
    holds = subst (λ (k : Stack). Holds b k base S) (sym (stored_stay k base g (length S))) c.held;
    depth_is = refl;
    few = c.few;
    goes = p;
    enough = q;
  }

  pushes : (g : Refocusing) (f : Frame) → length S < 32 → Fine b f → Goes b g (frame_of f ∷ S) X → Enough ws n g → Next b ws k base n X (pushed g (length S) f)
  pushes g f l fine p q = record {
    around = frame_of f ∷ S;
    holds = subst (λ (k : Stack). Holds b k base (frame_of f ∷ S)) (sym (stored_push k base g (length S) f))
        (holds_more b k base f S c.sized (omega (arith, c.room)) fine c.held);
    depth_is = omega arith;
    few = l;
    goes = p;
    enough = q;
  }

  -- one frame more, or no room for it
  push : (g : Refocusing) (f : Frame) → Fine b f → Goes b g (frame_of f ∷ S) X → Enough ws n g → length (frame_of f ∷ S) ≤ frames.height X → 1 ≤ n
      → Next b ws k base n X (push_of g (length S) f)
  push g f fine p q deep l = at (dec_lt (length S) 32)
    where
      at : Dec (length S < 32) → Next b ws k base n X (push_of g (length S) f)
      at (yes m) = subst (Next b ws k base n X) (push_more g (length S) f m) (pushes g f m fine p q)
      at (no m) = subst (Next b ws k base n X) (push_full g (length S) f (omega arith)) (stays go_full (omega arith) l)

  -- an operand, which is an expression
  pub want : (f : Frame) (i : ℕ) → Fine b f → Well (frame_of f ∷ S) → IsExpression b i
      → X ≡ enter (node_at b) (terms b) (frame_of f ∷ S) (closed i f.environment)
      → left i ≤ n → needs f.kind f.first ≤ n → Next b ws k base n X (want_of ws f i (length S))
  want f i fine w s e l m = at (valued b ws rs c.right c.loaded i f.environment s)
    where
      at : Valued b ws i f.environment → Next b ws k base n X (want_of ws f i (length S))
      at (Valued.value p q) =
          let v = value_of ws f.environment i in
          subst (Next b ws k base n X) (want_value ws f i (length S) p)
          (stays (feed_of f v) (feed_goes b S X f v fine p w (e ∙ enter_value (ordered b c.right) (frame_of f ∷ S) (closed i f.environment) v q))
          (feed_enough ws n f v m))
      at (Valued.other p q) =
          let deep = under (ordered b c.right) (frame_of f ∷ S) (closed i f.environment) q in
          subst (Next b ws k base n X) (want_other ws f i (length S) p)
          (push (go_run i f.environment) f fine (w, s, e) (l, λ r. absurd (omega arith))
          (subst (λ (X : frames.Found). length (frame_of f ∷ S) ≤ frames.height X) (sym e) deep) (omega arith))

  -- an operand, which is a condition
  pub wantᶜ : (f : Frame) (i : ℕ) → Fine b f → Wellᶜ (frame_of f ∷ S) → IsCondition b i
      → X ≡ enterᶜ (node_at b) (terms b) (frame_of f ∷ S) (closed i f.environment)
      → left i ≤ n → Next b ws k base n X (want_condition_of ws f i (length S))
  wantᶜ f i fine w s e l = at (tested b ws rs c.right c.loaded i f.environment s)
    where
      at : Tested b ws i f.environment → Next b ws k base n X (want_condition_of ws f i (length S))
      at (Tested.value p q) =
          let v = truth_of ws i in
          subst (Next b ws k base n X) (want_truth ws f i (length S) p)
          (stays (feed_condition_of f v)
          (feed_condition_goes b S X f v fine p w (e ∙ enter_truth (ordered b c.right) (frame_of f ∷ S) (closed i f.environment) (eqb v 1) q))
          (feed_condition_enough ws n f v (omega arith)))
      at (Tested.other p q) =
          let deep = underᶜ (ordered b c.right) (frame_of f ∷ S) (closed i f.environment) q in
          subst (Next b ws k base n X) (want_otherᶜ ws f i (length S) p)
          (push (go_run_condition i f.environment) f fine (w, s, e) l (subst (λ (X : frames.Found). length (frame_of f ∷ S) ≤ frames.height X) (sym e) deep)
          (omega arith))

-- ---- children

pub child : {b : List ℕ} {t i : ℕ} → Child b t expression i → IsExpression b i
child c = (c.below, c.sorted)

pub childᶜ : {b : List ℕ} {t i : ℕ} → Child b t condition i → IsCondition b i
childᶜ c = (c.below, c.sorted)

-- a child takes a step less
module _ {b : List ℕ} {t i : ℕ} {kind : Operand} {n : ℕ} (a : Accepted b) (l : left t ≤ suc n) (c : Child b t kind i) where
  pub less : left i + 1 ≤ n
  less = let few = a.few_terms in let p = c.above in let q = c.below in omega arith

  pub less_one : left i ≤ n
  less_one = omega (arith, less)

-- a frame of a term's operands
pub plain_fine : {b : List ℕ} (k : Kind) (i j m e : ℕ) → i < 1024 → j < 1024 → m < 32 → SortedBy b k (framed k i j m e) → Fine b (framed k i j m e)
plain_fine k i j m e p q r s = record { first_fits = p; second_fits = q; member_fits = r; count_fits = omega arith; sorted = s }
