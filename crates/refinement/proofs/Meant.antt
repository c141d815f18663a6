-- What the code's slots, frames, stacks and redexes stand for in the abstract machine, for a plan b whose terms and roots are loaded as numbers.
-- Assumes nothing.
use Prim.Native.Nat.{ℕ, suc, ◌+◌, ◌^◌, ◌≤◌, ◌<◌}
use mathlib.Core.Path.{◌≡◌}
use mathlib.Core.Bool.{true, false, cond}
use mathlib.Core.List.{List, [], ◌∷◌}
use mathlib.Core.Option.{none}
use mathlib.Core.Logic.{◌⊎◌}
use lib.Dec.{eqb}
use lib.ListN.{length, get_or}
use Rattle.format.specs.Bits.{bits_at}
use Rattle.plan_packed.specs.Syntax.{Signal}
use Rattle.plan_packed.specs.Format.{procedures, terms, root, expression, condition, list, fields_from, mask_bit, term_bit, tag_at}
use Rattle.plan_packed.specs.Trees.{binder_of, node_at}
use Rattle.plan_packed.proofs.Accepted.{OfSort}
use Rattle.plan_packed.proofs.WellFormed.{count}
use Rattle.plan_packed.proofs.TreeLaws.{treeᵃ}
use Rattle.rules.specs.Rules.{Rule}
use Rattle.machine.specs.Inner.Frames.{Slots, Closure, closure, branches}
use Rattle.machine.specs.Inner.Frames as frames
use Rattle.machine.specs.Inner.Machine as machine
use Rattle.machine.specs.Inner.Playing as playing
use Rattle.machine.specs.Inner.Refocusing.{downᵃ, up, upᶜ, enter, enterᶜ}
use Rattle.machine.proofs.Sorted.{Well, Wellᶜ}
use Rattle.run_frames.specs.declared.frame.Kind.{Kind}
use Rattle.run_frames.specs.declared.frame.Kind.TheVariants as kind
use Rattle.run_frames.specs.declared.frame.Frame.{Frame}
use Rattle.run_frames.specs.Inner.RedexKinds.{RedexKind, RedexKind as redex, number_of}
use Rattle.run_frames.specs.declared.refocusing.Ready.{Ready}
use Rattle.run_frames.specs.declared.refocusing.Stage.{Stage}
use Rattle.run_frames.specs.declared.refocusing.Stage.TheVariants as stage
use Rattle.run_frames.specs.declared.refocusing.Refocusing.{Refocusing}
use Rattle.run_term_words.specs.Inner.Slots.{slot_of}
use Rattle.run_frames.specs.Inner.Going.{ready_in}
use Rattle.run_refocusing_step.specs.Inner.Down.{frame_at}
use Rattle.run_refocusing.specs.Inner.Refocusing.{Stack, Ended}

-- ---- the plan as numbers

-- each term's 40 bits, and each root
pub record WordsAndRoots (b ws rs : List ℕ) : Type 0 where
  pub words : (t : ℕ) → t < terms b → get_or ws t 0 ≡ bits_at b (term_bit b t) 40
  pub roots : (m : ℕ) → m < procedures b → get_or rs m 0 ≡ root b m

-- ---- slots, closures, frames

abbrev pub slots : ℕ → Slots
slots e = slot_of e

abbrev pub closed : ℕ → ℕ → Closure
closed t e = closure t (slots e)

-- the signal of a number: 0 wait, 1 notify, 2 notify all
abbrev pub signal_meant : ℕ → Signal
signal_meant k = cond (eqb k 0) Signal.wait (cond (eqb k 1) Signal.notify Signal.notify_all)

abbrev pub frame_by : Kind → Frame → frames.Frame
frame_by kind.Read f = frames.Frame.read f.member
frame_by kind.Write1 f = frames.Frame.write₁ f.member (closed f.first f.environment)
frame_by kind.Write2 f = frames.Frame.write₂ f.arguments f.member
frame_by kind.Call f = frames.Frame.call f.member f.count (slots f.arguments) (closed f.first f.environment)
frame_by kind.Let f = frames.Frame.let_in (binder_of f.count) (closed f.first f.environment)
frame_by kind.Synch f = frames.Frame.synch (closed f.first f.environment)
frame_by kind.Hold f = frames.Frame.hold f.arguments
frame_by kind.Join f = frames.Frame.join
frame_by kind.Equal1 f = frames.Frame.equal₁ (closed f.first f.environment)
frame_by kind.Equal2 f = frames.Frame.equal₂ f.arguments
frame_by kind.If f = frames.Frame.if (branches f.first f.second (slots f.environment))
frame_by kind.And f = frames.Frame.and (closed f.first f.environment)
frame_by kind.Not f = frames.Frame.not
frame_by kind.Test f = frames.Frame.while_test (branches f.first f.second (slots f.environment))
frame_by kind.Body f = frames.Frame.while_body (branches f.first f.second (slots f.environment))
frame_by kind.Signal f = frames.Frame.signal (signal_meant f.member)

-- the frame that a code frame stands for
abbrev pub frame_of : Frame → frames.Frame
frame_of f = frame_by f.kind f

module _ (b : List ℕ) where
  -- a term of the plan, of the sort that is wanted
  abbrev pub IsExpression : ℕ → Type 0
  IsExpression t = (t < terms b) × OfSort expression (tag_at b t)

  abbrev pub IsCondition : ℕ → Type 0
  IsCondition t = (t < terms b) × OfSort condition (tag_at b t)

  -- the rest of a call's list, after n arguments: no more than eight in all
  abbrev pub IsRest : ℕ → ℕ → Type 0
  IsRest n t = (t < terms b) × OfSort list (tag_at b t) × (n + count (treeᵃ (node_at b) (terms b) t) ≤ 8)

  abbrev pub SortedBy : Kind → Frame → Type 0
  SortedBy kind.Read f = (0 < f.member)
  SortedBy kind.Write1 f = (0 < f.member) × IsExpression f.first
  SortedBy kind.Write2 f = (0 < f.member) × (f.arguments < 32)
  SortedBy kind.Call f = (f.member < procedures b) × IsRest (suc f.count) f.first
  SortedBy kind.Let f = ((f.count < 8) ⊎ (f.count ≡ 15)) × IsExpression f.first
  SortedBy kind.Synch f = IsExpression f.first
  SortedBy kind.Hold f = f.arguments < 32
  SortedBy kind.Join f = Unit {0}
  SortedBy kind.Equal1 f = IsExpression f.first
  SortedBy kind.Equal2 f = f.arguments < 32
  SortedBy kind.If f = IsExpression f.first × IsExpression f.second
  SortedBy kind.And f = IsCondition f.first
  SortedBy kind.Not f = Unit {0}
  SortedBy kind.Test f = IsCondition f.first × IsExpression f.second
  SortedBy kind.Body f = IsCondition f.first × IsExpression f.second
  SortedBy kind.Signal f = Unit {0}

  -- a frame that the code can hold: its numbers fit, its terms are of the right sort
  pub record Fine (f : Frame) : Type 0 where
    pub first_fits : f.first < 1024
    pub second_fits : f.second < 1024
    pub member_fits : f.member < 32
    pub count_fits : f.count < 16
    pub sorted : SortedBy f.kind f

  -- the frames from place `base` on stand for S, the innermost last
  abbrev pub Holds : Stack → ℕ → List frames.Frame → Type 0
  Holds k base [] = Unit {0}
  Holds k base (F ∷ S) = (frame_of (frame_at k (base + length S)) ≡ F) × Fine (frame_at k (base + length S)) × Holds k base S

  -- ---- what moves next

  -- a redex that leaves no record and needs no room: whatever the state, it comes to this result
  pub record Unlogged (R : frames.Ready) (x : frames.Result) : Type 0 where
    pub rule : Rule
    pub needs_no_room : (s : machine.State) → playing.no_room_before s rule ≡ none
    pub acts : (s : machine.State) (p : ℕ) (t : machine.Thread) → machine.act (playing.table_of b) s p t R ≡ machine.does rule none s x

  -- the same of a part of a condition, whose value is v
  pub record Unloggedᶜ (S : List frames.Frame) (Q : frames.Readyᶜ) (code : frames.Found) : Type 0 where
    pub needs_no_room : (s : machine.State) → playing.no_room_before s (machine.actᶜ (playing.table_of b) S Q).rule ≡ none
    pub acts : (machine.actᶜ (playing.table_of b) S Q).expression ≡ code

  abbrev Pure : List frames.Frame → frames.Result → frames.Found → Type 0
  Pure S x X = (R : frames.Ready) × (X ≡ frames.Found.here S R) × Unlogged R x

  abbrev Pureᶜ : List frames.Frame → frames.Found → frames.Found → Type 0
  Pureᶜ S code X = (Q : frames.Readyᶜ) × (X ≡ frames.Found.hereᶜ S Q) × Unloggedᶜ S Q code

  -- redex r, in the frames S, is what was found
  abbrev pub StandsBy : RedexKind → Ready → List frames.Frame → frames.Found → Type 0
  StandsBy redex.Done r S X = (S ≡ []) × (X ≡ frames.Found.value r.first) × (r.first < 32)
  StandsBy redex.NoRule r S X = ⊥
  StandsBy redex.Run r S X = Well S × IsExpression r.first × Pure S (frames.Result.run (closed r.first r.environment)) X
  StandsBy redex.RunCondition r S X = Wellᶜ S × IsCondition r.first ×
      (X ≡ frames.Found.hereᶜ S (frames.Readyᶜ.and true (closed r.first r.environment)))
  StandsBy redex.Val r S X = Well S × (r.first ≡ 0) × Pure S (frames.Result.value 0) X
  StandsBy redex.Truth r S X = Wellᶜ S × (r.first < 2) × Pureᶜ S (upᶜ (node_at b) (terms b) S (eqb r.first 1)) X
  StandsBy redex.While r S X =
      Well S × IsCondition r.first × IsExpression r.second ×
      (X ≡ frames.Found.here S (frames.Ready.while (branches r.first r.second (slots r.environment))))
  StandsBy redex.Body r S X =
      Well S × IsCondition r.first × IsExpression r.second ×
      (X ≡ frames.Found.here S (frames.Ready.while_test true (branches r.first r.second (slots r.environment))))
  StandsBy redex.Again r S X =
      Well S × IsCondition r.first × IsExpression r.second × Pure S
      (frames.Result.while_again (branches r.first r.second (slots r.environment))) X
  StandsBy redex.New r S X =
      Well S × (r.first < 2 ^ 32) × (eqb (mask_bit r.first 0) 1 ≡ false) × (X ≡ frames.Found.here S (frames.Ready.new (fields_from r.first 0 32)))
  StandsBy redex.Read r S X =
      Well S × (r.first < 32) × (0 < r.second) × (r.second < 32) × (X ≡ frames.Found.here S (frames.Ready.read r.first r.second))
  StandsBy redex.Write r S X =
      Well S × (r.first < 32) × (0 < r.second) × (r.second < 32) × (r.third < 32) ×
      (X ≡ frames.Found.here S (frames.Ready.write r.first r.second r.third))
  StandsBy redex.Fork r S X = Well S × IsExpression r.first × (X ≡ frames.Found.here S (frames.Ready.fork (closed r.first r.environment)))
  StandsBy redex.Join r S X = Well S × (r.first < 32) × (X ≡ frames.Found.here S (frames.Ready.join r.first))
  StandsBy redex.Synch r S X =
      Well S × (r.first < 32) × IsExpression r.second × (X ≡ frames.Found.here S (frames.Ready.synch r.first (closed r.second r.environment)))
  StandsBy redex.Hold r S X = Well S × (r.first < 32) × (r.second < 32) × (X ≡ frames.Found.here S (frames.Ready.hold r.first r.second))
  StandsBy redex.Signal r S X = Well S × (r.first < 32) × (X ≡ frames.Found.here S (frames.Ready.signal (signal_meant r.second) r.first))
  StandsBy redex.Waiting r S X = Well S × (r.first < 32) × (X ≡ frames.Found.here S (frames.Ready.waiting r.first))

  abbrev pub Stands : Ready → List frames.Frame → frames.Found → Type 0
  Stands r S X = (P : RedexKind) × (r.redex ≡ number_of P) × StandsBy P r S X

  -- ---- where refocusing stands

  -- stage g, in the frames S, comes to X
  abbrev pub GoesBy : Stage → Refocusing → List frames.Frame → frames.Found → Type 0
  GoesBy stage.Full g S X = 32 < frames.height X
  GoesBy stage.At g S X = Stands (ready_in g) S X
  GoesBy stage.Run g S X = Well S × IsExpression g.operand × (X ≡ enter (node_at b) (terms b) S (closed g.operand g.frame.environment))
  GoesBy stage.RunCondition g S X = Wellᶜ S × IsCondition g.operand × (X ≡ enterᶜ (node_at b) (terms b) S (closed g.operand g.frame.environment))
  GoesBy stage.Want g S X =
      Fine g.frame × Well (frame_of g.frame ∷ S) × IsExpression g.operand ×
      (X ≡ enter (node_at b) (terms b) (frame_of g.frame ∷ S) (closed g.operand g.frame.environment))
  GoesBy stage.WantCondition g S X =
      Fine g.frame × Wellᶜ (frame_of g.frame ∷ S) × IsCondition g.operand ×
      (X ≡ enterᶜ (node_at b) (terms b) (frame_of g.frame ∷ S) (closed g.operand g.frame.environment))
  GoesBy stage.List g S X = Well S × (g.frame.kind ≡ kind.Call) × (g.frame.member < procedures b) × IsRest g.frame.count g.frame.first ×
      (X ≡ downᵃ (node_at b) (terms b) S g.frame.member g.frame.count (slots g.frame.arguments) (closed g.frame.first g.frame.environment))
  GoesBy stage.Value g S X = Well S × (g.operand < 32) × (X ≡ up (node_at b) (terms b) S g.operand)
  GoesBy stage.Truth g S X = Wellᶜ S × (g.operand < 2) × (X ≡ upᶜ (node_at b) (terms b) S (eqb g.operand 1))

  abbrev pub Goes : Refocusing → List frames.Frame → frames.Found → Type 0
  Goes g S X = GoesBy g.stage g S X

  -- a stack of the code: room for nine threads of 33 frames, of three numbers each
  abbrev pub Sized : Stack → Type 0
  Sized k = length k ≡ 891

  -- where refocusing ended: the redex that moves next is found, in frames that the stack holds; or there is no room for the frames
  abbrev pub FoundBy : Stage → Ended → ℕ → frames.Found → Type 0
  FoundBy stage.At E base X =
      (S : List frames.Frame) × Holds E.stack base S × (E.refocused.depth ≡ length S) × (length S ≤ 32) × Stands E.refocused.ready S X
  FoundBy stage.Full E base X = 32 < frames.height X
  FoundBy stage.Run E base X = ⊥
  FoundBy stage.RunCondition E base X = ⊥
  FoundBy stage.Want E base X = ⊥
  FoundBy stage.WantCondition E base X = ⊥
  FoundBy stage.List E base X = ⊥
  FoundBy stage.Value E base X = ⊥
  FoundBy stage.Truth E base X = ⊥

  -- refocusing from a stack k, in the place of the thread whose frames begin at `base`, found X
  pub record Refocuses (k : Stack) (base : ℕ) (X : frames.Found) (E : Ended) : Type 0 where
    pub found : FoundBy E.refocused.stage E base X
    pub sized : Sized E.stack
    -- the other threads' frames are as they were
    pub others : (i : ℕ) → (i < base) ⊎ (base + 33 ≤ i) → frame_at E.stack i ≡ frame_at k i
