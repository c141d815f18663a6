-- `refocus` meets its contract. The loop's invariant: what the refocusings from here come to is what all of them come to. Assumes nothing.
use mathlib.Core.Path.{◌≡◌, refl, sym, ap, ◌∙◌}
use mathlib.Core.Bool.{true, false, cond}
use mathlib.Core.List.{List}
use Prim.Native.Nat.{ℕ, ◌<◌, ◌≤◌, ◌+◌, ◌-◌}
use native.Mathlib.Omega.{arith}
use mathlib.Core.Logic.{⊎_elim}
use borrow.Author.Tests.{not-true, not-false, lt-ltb, le-ltb}
use Rattle.run_lists.specs.Inner.Lists.{Right}
use Rattle.run_frames.specs.Inner.Going.{go_full}
use Rattle.run_refocusing_step.specs.declared.Stepped.{Stepped}
use Rattle.run_refocusing_step.specs.Inner.Ahead.{ahead_of, along_of, stepped_of}
use Rattle.run_refocusing_step.specs.Inner.Down.{opened_of, frame_at, top_of}
use Rattle.run_refocusing.specs.declared.Refocused.{Refocused}
use Rattle.run_refocusing.specs.declared.Way.{Way}
use Rattle.run_refocusing_step.proofs.Depths.{Within, step_in}
use Rattle.run_refocusing.specs.Inner.Refocusing.{Stack, Ended, live_of, refocused_of, no_refocusing, full_of, ended, stored, refocus_of, refocus_from, after_of}
use Rattle.run_refocusing.proofs.Turns.{goes, halts, spent}
use Rattle.run_refocusing.proofs.After.{last, last_full, another}
use Rattle.run_refocusing.proofs.Along.{along_refocuses, along_live, ahead_left}
use borrow.Author.Rules.{rules}
use Rattle.run_refocusing.proofs.refocus.Given as goal

abbrev pub invariant-loop-left : goal.invariant-loop-left
invariant-loop-left l =
    (l.depth ≤ 32) × (l.base ≤ 264) × (l.second.base ≤ 264) × (l.second.depth ≤ 32) × (l.before.depth ≤ 32)
    × (after_of l.words l.roots l.more l.second l.before (refocus_of l.left l.words l.roots l.base l.stack l.go l.depth)
    ≡ after_of l.words l.roots l.initial.more l.second l.initial.before (refocus_of l.initial.left l.words l.roots l.initial.base l.initial.stack l.initial.go l.initial.depth))
    × Right l.words l.lists

-- each refocusing has its steps
abbrev pub decreases-loop-left : goal.decreases-loop-left
decreases-loop-left l = cond l.more 2101 0 + l.left
