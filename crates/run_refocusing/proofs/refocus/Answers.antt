use mathlib.Core.Path.{◌≡◌, refl, sym, ap, ◌∙◌}
use mathlib.Core.Bool.{true, false, cond}
use mathlib.Core.List.{List}
use Prim.Native.Nat.{ℕ, ◌<◌, ◌≤◌, ◌+◌, ◌-◌}
use native.Mathlib.Omega.{arith}
use mathlib.Core.Logic.{⊎_elim}
use borrow.Author.Tests.{not-true, not-false, lt-ltb, le-ltb}
use Rattle.run_lists.specs.Inner.Lists.{Right}
use Rattle.run_frames.specs.Inner.Going.{go_full}
use Rattle.run_refocusing_step.specs.declared.Stepped.{Stepped}
use Rattle.run_refocusing_step.specs.Inner.Ahead.{ahead_of, along_of, stepped_of}
use Rattle.run_refocusing_step.specs.Inner.Down.{opened_of, frame_at, top_of}
use Rattle.run_refocusing.specs.declared.Refocused.{Refocused}
use Rattle.run_refocusing.specs.declared.Way.{Way}
use Rattle.run_refocusing_step.proofs.Depths.{Within, step_in}
use Rattle.run_refocusing.specs.Inner.Refocusing.{Stack, Ended, live_of, refocused_of, no_refocusing, full_of, ended, stored, refocus_of, refocus_from, after_of}
use Rattle.run_refocusing.proofs.Turns.{goes, halts, spent}
use Rattle.run_refocusing.proofs.After.{last, last_full, another}
use Rattle.run_refocusing.proofs.Along.{along_refocuses, along_live, ahead_left}
use borrow.Author.Rules.{rules}
use Rattle.run_refocusing.proofs.refocus.Goals as goal
use Rattle.run_refocusing.proofs.refocus.Goals.{After-end_at-ended, After-step-stepped, At-loop-left, Joined-turn}

abbrev words : (c : At-loop-left) → List ℕ
words c = c.args.words.now

abbrev roots : (c : At-loop-left) → List ℕ
roots c = c.args.roots.now

abbrev second : (c : At-loop-left) → Way
second c = c.args.second

abbrev rest : (c : At-loop-left) → Ended
rest c = refocus_of c.loop-left.left (words c) (roots c) c.loop-left.base c.loop-left.stack c.loop-left.go c.loop-left.depth

abbrev here : (c : At-loop-left) → Ended
here c = ended c.loop-left.stack c.loop-left.go c.loop-left.depth

-- all of the refocusings, from there
whole : (c : At-loop-left) → after_of (words c) (roots c) c.loop-left.more (second c) c.loop-left.before (rest c)
    ≡ after_of (words c) (roots c) c.args.forks (second c)
    no_refocusing (refocus_from (words c) (roots c) c.args.first c.args.stack.now)
whole c =
    c.loop-left.invariant.5
    ∙ ap (λ (b : Refocused). after_of (words c) (roots c) c.args.forks (second c) b
    (refocus_from (words c) (roots c) c.args.first c.args.stack.now))
    c.no_refocusing-before.ensures

abbrev words_after_end_at_ended : (c : After-end_at-ended) → List ℕ
words_after_end_at_ended c = c.args.words.now

abbrev roots_after_end_at_ended : (c : After-end_at-ended) → List ℕ
roots_after_end_at_ended c = c.args.roots.now

abbrev rest_after_end_at_ended : (c : After-end_at-ended) → Ended
rest_after_end_at_ended c = refocus_of c.loop-left.left (words_after_end_at_ended c) (roots_after_end_at_ended c) c.loop-left.base c.loop-left.stack c.loop-left.go c.loop-left.depth

abbrev here_after_end_at_ended : (c : After-end_at-ended) → Ended
here_after_end_at_ended c = ended c.loop-left.stack c.loop-left.go c.loop-left.depth

halted_after_end_at_ended : (c : After-end_at-ended) → 0 < c.loop-left.left → live_of c.loop-left.go ≡ false → rest_after_end_at_ended c ≡ here_after_end_at_ended c
halted_after_end_at_ended c h e = halts c.loop-left.left (words_after_end_at_ended c) (roots_after_end_at_ended c) c.loop-left.base c.loop-left.stack c.loop-left.go c.loop-left.depth h e

-- where a refocusing has ended
stands : (c : After-end_at-ended) → rest_after_end_at_ended c ≡ here_after_end_at_ended c
stands c =
    halted_after_end_at_ended c c.loop-left-test.true
    (sym c.live.ensures ∙ not-true _ c.if-not-live.true-raw)

abbrev words_after_step_stepped : (c : After-step-stepped) → List ℕ
words_after_step_stepped c = c.args.words.now

abbrev roots_after_step_stepped : (c : After-step-stepped) → List ℕ
roots_after_step_stepped c = c.args.roots.now

took : (c : After-step-stepped) → c.step-stepped.result ≡ stepped_of (words_after_step_stepped c) (roots_after_step_stepped c) c.loop-left.left
    c.loop-left.go c.loop-left.depth (frame_at c.loop-left.stack (top_of c.loop-left.base c.loop-left.depth))
took c = c.step-stepped.ensures.value

inside : (c : After-step-stepped) → Within c.step-stepped.result.turn
inside c = rw (took c) (step_in _ _ _ _ _ c.loop-left.invariant.0)

left : (c : After-step-stepped) → (0 < c.step-stepped.result.left) × (c.step-stepped.result.left ≤ c.loop-left.left)
left c =
    let e : c.step-stepped.result.left ≡ (ahead_of c.loop-left.left (words_after_step_stepped c) (opened_of (words_after_step_stepped c) c.loop-left.go)).left = ap (λ (z : Stepped). z.left) (took c) in
    let r = ahead_left (opened_of (words_after_step_stepped c) c.loop-left.go).stage c.loop-left.left (words_after_step_stepped c) (opened_of (words_after_step_stepped c) c.loop-left.go)
    c.loop-left-test.true in (omega (arith, r.0, e), omega (arith, r.1, e))

-- the place of the frame is a place
place : (c : After-step-stepped) → c.loop-left.base + c.step-stepped.result.turn.at < 297
place c = omega (arith, inside c, c.loop-left.invariant.1)

-- the frames after the step
keeps : (c : Joined-turn) → c.if-turn.stack ≡ stored c.loop-left.stack
    c.loop-left.base c.step-stepped.result.turn
keeps c = ⊎_elim (λ w. simp (w.stack-is, w.store.ensures, lt-ltb _ _ w.if-turn.true)) (λ w. simp (w.stack-is, le-ltb _ _ w.if-turn.false)) c.if-turn.branch-raw

pub loop-left-init : goal.loop-left-init
loop-left-init c =
    let p = c.requires in (p.1, p.0, p.2, p.3, rw c.no_refocusing-before.ensures (omega arith), refl, p.4)

pub returns-then-not-more : goal.returns-then-not-more
returns-then-not-more c =
    simp (c.ends.ensures, c.end_at-ended.ensures) record {
      result_value = sym (last (words (goal.at.returns-then-not-more c).At-loop-left) (roots (goal.at.returns-then-not-more c).At-loop-left) (second (goal.at.returns-then-not-more c).At-loop-left) c.loop-left.before (here (goal.at.returns-then-not-more c).At-loop-left) c.loop-left.more (not-true _ c.if-not-more.true-raw))
          ∙ ap (after_of (words (goal.at.returns-then-not-more c).At-loop-left) (roots (goal.at.returns-then-not-more c).At-loop-left) c.loop-left.more (second (goal.at.returns-then-not-more c).At-loop-left) c.loop-left.before) (sym (stands (goal.at.returns-then-not-more c).After-end_at-ended))
          ∙ whole (goal.at.returns-then-not-more c).At-loop-left;
      depth_bound = (c.loop-left.invariant.4, c.loop-left.invariant.0);
      right = c.loop-left.invariant.6;
    }

pub returns-then-full : goal.returns-then-full
returns-then-full c =
    let f : full_of (refocused_of c.loop-left.go c.loop-left.depth) ≡ true =
    ap full_of (sym c.end_at-ended.ensures) ∙ sym c.full.ensures ∙ c.if-full.true in
    simp (c.ends-then-full.ensures, c.end_at-ended.ensures) record {
      result_value = sym (last_full (words (goal.at.returns-then-full c).At-loop-left) (roots (goal.at.returns-then-full c).At-loop-left) (second (goal.at.returns-then-full c).At-loop-left) c.loop-left.before (here (goal.at.returns-then-full c).At-loop-left) c.loop-left.more f)
          ∙ ap (after_of (words (goal.at.returns-then-full c).At-loop-left) (roots (goal.at.returns-then-full c).At-loop-left) c.loop-left.more (second (goal.at.returns-then-full c).At-loop-left) c.loop-left.before) (sym (stands (goal.at.returns-then-full c).After-end_at-ended))
          ∙ whole (goal.at.returns-then-full c).At-loop-left;
      depth_bound = (c.loop-left.invariant.4, c.loop-left.invariant.0);
      right = c.loop-left.invariant.6;
    }

pub loop-left-smaller-then-not-live : goal.loop-left-smaller-then-not-live
loop-left-smaller-then-not-live c =
    let q : ◌≡◌ {A = ℕ} (cond c.loop-left.more 2101 0) 2101 = rw (not-false c.loop-left.more c.if-not-more.false-raw) in omega (arith, q)

pub loop-left-preserved-then-not-live : goal.loop-left-preserved-then-not-live
loop-left-preserved-then-not-live c =
    let f : full_of (refocused_of c.loop-left.go c.loop-left.depth) ≡ false = ap full_of (sym c.end_at-ended.ensures) ∙ sym c.full.ensures
    ∙ c.if-full.false in (
      c.loop-left.invariant.3,
      c.loop-left.invariant.2,
      c.loop-left.invariant.2,
      c.loop-left.invariant.3,
      rw c.end_at-ended.ensures c.loop-left.invariant.0,
      ap (λ (b : Refocused). after_of (words (goal.at.loop-left-preserved-then-not-live c).At-loop-left) (roots (goal.at.loop-left-preserved-then-not-live c).At-loop-left) false (second (goal.at.loop-left-preserved-then-not-live c).At-loop-left) b (refocus_from (words (goal.at.loop-left-preserved-then-not-live c).At-loop-left) (roots (goal.at.loop-left-preserved-then-not-live c).At-loop-left) (second (goal.at.loop-left-preserved-then-not-live c).At-loop-left) c.loop-left.stack)) c.end_at-ended.ensures
          ∙ sym (another (words (goal.at.loop-left-preserved-then-not-live c).At-loop-left) (roots (goal.at.loop-left-preserved-then-not-live c).At-loop-left) (second (goal.at.loop-left-preserved-then-not-live c).At-loop-left) c.loop-left.before (here (goal.at.loop-left-preserved-then-not-live c).At-loop-left) c.loop-left.more (not-false _ c.if-not-more.false-raw) f)
          ∙ ap (after_of (words (goal.at.loop-left-preserved-then-not-live c).At-loop-left) (roots (goal.at.loop-left-preserved-then-not-live c).At-loop-left) c.loop-left.more (second (goal.at.loop-left-preserved-then-not-live c).At-loop-left) c.loop-left.before) (sym (stands (goal.at.loop-left-preserved-then-not-live c).After-end_at-ended))
          ∙ c.loop-left.invariant.5,
      c.loop-left.invariant.6,
    )

pub step-stepped-requires : goal.step-stepped-requires
step-stepped-requires c = (
  c.loop-left.invariant.1,
  c.loop-left.invariant.0,
  c.loop-left-test.true,
  c.loop-left.invariant.6,
)

pub overflow_add-base : goal.overflow_add-base
overflow_add-base c = record { fits = omega (arith, place (goal.at.overflow_add-base c).After-step-stepped) }

pub store-requires : goal.store-requires
store-requires c = place (goal.at.store-requires c).After-step-stepped

pub overflow_sub-left : goal.overflow_sub-left
overflow_sub-left c = (left (goal.at.overflow_sub-left c).After-step-stepped).0

pub loop-left-smaller : goal.loop-left-smaller
loop-left-smaller c = omega (arith, left (goal.at.loop-left-smaller c).After-step-stepped)

pub loop-left-preserved : goal.loop-left-preserved
loop-left-preserved c =
    let ws = words (goal.at.loop-left-preserved c).At-loop-left in
    let g = c.loop-left.go in
    let d = c.loop-left.depth in
    let o = opened_of ws g in
    let k = c.loop-left.stack in
    let h = c.loop-left-test.true in
    let a : live_of g ≡ true = sym c.live.ensures ∙ not-false _ c.if-not-live.false-raw in
    let e : refocus_of (c.step-stepped.result.left - 1) ws (roots (goal.at.loop-left-preserved c).At-loop-left) c.loop-left.base c.if-turn.stack c.step-stepped.result.turn.go
    c.step-stepped.result.turn.depth ≡ rest (goal.at.loop-left-preserved c).At-loop-left =
    ap (λ (k : Stack). refocus_of (c.step-stepped.result.left - 1) ws (roots (goal.at.loop-left-preserved c).At-loop-left) c.loop-left.base k c.step-stepped.result.turn.go c.step-stepped.result.turn.depth)
    (keeps (goal.at.loop-left-preserved c).Joined-turn)
    ∙ ap (λ (z : Stepped). refocus_of (z.left - 1) ws (roots (goal.at.loop-left-preserved c).At-loop-left) c.loop-left.base (stored k c.loop-left.base z.turn) z.turn.go z.turn.depth) (took (goal.at.loop-left-preserved c).After-step-stepped)
    ∙ sym (goes (ahead_of c.loop-left.left ws o).left ws (roots (goal.at.loop-left-preserved c).At-loop-left) c.loop-left.base k (along_of c.loop-left.left ws g) d
    (ahead_left o.stage c.loop-left.left ws o h).0 (along_live o.stage g (ahead_of c.loop-left.left ws o).frame a))
    ∙ sym (along_refocuses ws (roots (goal.at.loop-left-preserved c).At-loop-left) c.loop-left.base k d c.loop-left.left g h a o.stage refl) in
    let i = c.loop-left.invariant in (
      (inside (goal.at.loop-left-preserved c).After-step-stepped).0,
      i.1,
      i.2,
      i.3,
      i.4,
      ap (after_of ws (roots (goal.at.loop-left-preserved c).At-loop-left) c.loop-left.more (second (goal.at.loop-left-preserved c).At-loop-left) c.loop-left.before) e ∙ i.5,
      c.step-stepped.ensures.right,
    )

pub returns : goal.returns
returns c =
    let z : c.loop-left.left ≡ 0 = omega (arith, c.loop-left-test.false) in
    simp (c.ends-2.ensures, c.end_at.ensures, c.full-2.ensures) record {
      result_value = sym (last_full (words (goal.at.returns c).At-loop-left) (roots (goal.at.returns c).At-loop-left) (second (goal.at.returns c).At-loop-left) c.loop-left.before (ended c.loop-left.stack go_full c.loop-left.depth) c.loop-left.more refl)
          ∙ ap (after_of (words (goal.at.returns c).At-loop-left) (roots (goal.at.returns c).At-loop-left) c.loop-left.more (second (goal.at.returns c).At-loop-left) c.loop-left.before)
          (sym (spent c.loop-left.left (words (goal.at.returns c).At-loop-left) (roots (goal.at.returns c).At-loop-left) c.loop-left.base c.loop-left.stack c.loop-left.go c.loop-left.depth z))
          ∙ whole (goal.at.returns c).At-loop-left;
      depth_bound = (c.loop-left.invariant.4, c.loop-left.invariant.0);
      right = c.loop-left.invariant.6;
    }
