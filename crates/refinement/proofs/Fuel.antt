-- How many steps are enough: on the way down each step goes on at a later term, and once refocusing has gone down it carries no value up. Assumes nothing.
use Prim.Native.Nat.{ℕ, ◌+◌, ◌-◌, ◌*◌, ◌≤◌, ◌<◌}
use native.Mathlib.Omega.{arith}
use mathlib.Core.Path.{◌≡◌, refl}
use mathlib.Core.Bool.{Bool, true, false, cond}
use mathlib.Core.List.{List}
use lib.Dec.{eqb}
use borrow.Author.Tests.{eqb-true}
use Rattle.run_frames.specs.declared.frame.Kind.{Kind}
use Rattle.run_frames.specs.declared.frame.Kind.TheVariants as kind
use Rattle.run_frames.specs.declared.frame.Frame.{Frame}
use Rattle.run_frames.specs.Inner.RedexKinds.{RedexKind as redex}
use Rattle.run_frames.specs.declared.refocusing.Stage.{Stage}
use Rattle.run_frames.specs.declared.refocusing.Stage.TheVariants as stage
use Rattle.run_frames.specs.declared.refocusing.Refocusing.{Refocusing}
use Rattle.run_term_words.specs.Inner.Words.{value_of}
use Rattle.run_frames.specs.Inner.Going.{ready_of, go_at, go_truth, feed_by, feed_of, feed_if_by, feed_if_of, feed_condition_by, feed_condition_of}

-- down from term i
abbrev pub left : ℕ → ℕ
left i = 2 * (1024 - i) + 4

-- after a value for a frame of this kind, whose next term is a
abbrev pub needs : Kind → ℕ → ℕ
needs kind.Read a = 1
needs kind.Write1 a = left a + 1
needs kind.Write2 a = 1
needs kind.Call a = left a
needs kind.Let a = 1
needs kind.Synch a = 1
needs kind.Hold a = 1
needs kind.Join a = 1
needs kind.Equal1 a = left a + 1
needs kind.Equal2 a = 1
needs kind.If a = 1
needs kind.And a = 1
needs kind.Not a = 1
needs kind.Test a = 1
needs kind.Body a = 1
needs kind.Signal a = 1

pub needs_most : (k : Kind) (a : ℕ) → needs k a ≤ 2053
needs_most kind.Read a = omega arith
needs_most kind.Write1 a = omega arith
needs_most kind.Write2 a = omega arith
needs_most kind.Call a = omega arith
needs_most kind.Let a = omega arith
needs_most kind.Synch a = omega arith
needs_most kind.Hold a = omega arith
needs_most kind.Join a = omega arith
needs_most kind.Equal1 a = omega arith
needs_most kind.Equal2 a = omega arith
needs_most kind.If a = omega arith
needs_most kind.And a = omega arith
needs_most kind.Not a = omega arith
needs_most kind.Test a = omega arith
needs_most kind.Body a = omega arith
needs_most kind.Signal a = omega arith

module _ (ws : List ℕ) (n : ℕ) where
  -- n steps are enough from here, the last of them to see that refocusing has ended
  abbrev pub EnoughBy : Stage → Refocusing → Type 0
  EnoughBy stage.Full g = 1 ≤ n
  EnoughBy stage.At g = 1 ≤ n
  EnoughBy stage.Run g = (left g.operand ≤ n) × (value_of ws g.frame.environment g.operand < 32 → 2055 ≤ n)
  EnoughBy stage.RunCondition g = left g.operand ≤ n
  EnoughBy stage.Want g = (left g.operand < n) × (needs g.frame.kind g.frame.first < n)
  EnoughBy stage.WantCondition g = left g.operand < n
  EnoughBy stage.List g = left g.frame.first ≤ n
  EnoughBy stage.Value g = 2054 ≤ n
  EnoughBy stage.Truth g = g.operand + 2 ≤ n

  abbrev pub Enough : Refocusing → Type 0
  Enough g = EnoughBy g.stage g

  -- ---- what a frame does with a value

  feed_by_lem : (k : Kind) (f : Frame) (v : ℕ) → needs k f.first ≤ n → Enough (feed_by k f v)
  feed_by_lem kind.Read f v h = h
  feed_by_lem kind.Write1 f v h = (omega arith, omega arith)
  feed_by_lem kind.Write2 f v h = h
  feed_by_lem kind.Call f v h = h
  feed_by_lem kind.Let f v h = h
  feed_by_lem kind.Synch f v h = h
  feed_by_lem kind.Hold f v h = h
  feed_by_lem kind.Join f v h = h
  feed_by_lem kind.Equal1 f v h = (omega arith, omega arith)
  feed_by_lem kind.Equal2 f v h = h
  feed_by_lem kind.If f v h = h
  feed_by_lem kind.And f v h = h
  feed_by_lem kind.Not f v h = h
  feed_by_lem kind.Test f v h = h
  feed_by_lem kind.Body f v h = h
  feed_by_lem kind.Signal f v h = h

  pub feed_enough : (f : Frame) (v : ℕ) → needs f.kind f.first ≤ n → Enough (feed_of f v)
  unfolding feed_of
  feed_enough f v h = feed_by_lem f.kind f v h

  either : (t : Bool) (g g' : Refocusing) → Enough g → Enough g' → Enough (cond t g g')
  either true g g' p q = p
  either false g g' p q = q

  feed_if_by_lem : (k : Kind) (f : Frame) (x : ℕ) → 1 ≤ n → Enough (feed_if_by k f x)
  feed_if_by_lem kind.Read f x h = h
  feed_if_by_lem kind.Write1 f x h = h
  feed_if_by_lem kind.Write2 f x h = h
  feed_if_by_lem kind.Call f x h = h
  feed_if_by_lem kind.Let f x h = h
  feed_if_by_lem kind.Synch f x h = h
  feed_if_by_lem kind.Hold f x h = h
  feed_if_by_lem kind.Join f x h = h
  feed_if_by_lem kind.Equal1 f x h = h
  feed_if_by_lem kind.Equal2 f x h = h
  feed_if_by_lem kind.If f x h =
      either (eqb x 1) (go_at (ready_of redex.Run f.first 0 0 f.environment)) (go_at (ready_of redex.Run f.second 0 0 f.environment)) h h
  feed_if_by_lem kind.And f x h = h
  feed_if_by_lem kind.Not f x h = h
  feed_if_by_lem kind.Test f x h = either (eqb x 1) (go_at (ready_of redex.Body f.first f.second 0 f.environment)) (go_at (ready_of redex.Val 0 0 0 0)) h h
  feed_if_by_lem kind.Body f x h = h
  feed_if_by_lem kind.Signal f x h = h

  feed_if : (f : Frame) (x : ℕ) → 1 ≤ n → Enough (feed_if_of f x)
  unfolding feed_if_of
  feed_if f x h = feed_if_by_lem f.kind f x h

  feed_condition_by_lem : (k : Kind) (f : Frame) (x : ℕ) → x + 1 ≤ n → 1 ≤ n → Enough (feed_condition_by k f x)
  feed_condition_by_lem kind.Read f x h l = feed_if f x l
  feed_condition_by_lem kind.Write1 f x h l = feed_if f x l
  feed_condition_by_lem kind.Write2 f x h l = feed_if f x l
  feed_condition_by_lem kind.Call f x h l = feed_if f x l
  feed_condition_by_lem kind.Let f x h l = feed_if f x l
  feed_condition_by_lem kind.Synch f x h l = feed_if f x l
  feed_condition_by_lem kind.Hold f x h l = feed_if f x l
  feed_condition_by_lem kind.Join f x h l = feed_if f x l
  feed_condition_by_lem kind.Equal1 f x h l = feed_if f x l
  feed_condition_by_lem kind.Equal2 f x h l = feed_if f x l
  feed_condition_by_lem kind.If f x h l = feed_if f x l
  feed_condition_by_lem kind.And f x h l =
      either (eqb x 1) (go_at (ready_of redex.RunCondition f.first 0 0 f.environment)) (go_at (ready_of redex.Truth 0 0 0 0)) l l
  feed_condition_by_lem kind.Not f x h l = at (eqb x 1) (λ e. omega (arith, eqb-true x 1 e))
    where
      at : (t : Bool) → (t ≡ true → 2 ≤ n) → Enough (cond t (go_truth 0) (go_at (ready_of redex.Truth 1 0 0 0)))
      at true p = p refl
      at false p = l
  feed_condition_by_lem kind.Test f x h l = feed_if f x l
  feed_condition_by_lem kind.Body f x h l = feed_if f x l
  feed_condition_by_lem kind.Signal f x h l = feed_if f x l

  pub feed_condition_enough : (f : Frame) (x : ℕ) → x + 1 ≤ n → Enough (feed_condition_of f x)
  unfolding feed_condition_of
  feed_condition_enough f x h = feed_condition_by_lem f.kind f x h (omega arith)
