use Prim.Native.Nat.{ℕ}
use native.Mathlib.Numerals.{add-one}
use native.Mathlib.Omega.{arith}
use mathlib.Core.Path.{◌≡◌, ap, ◌∙◌}
use lib.ListN.{take}
use lib.Seq.{take_all}
use Rattle.text.proofs.Added.{added_none, added_more, added_as}
use Rattle.text_state_lines.specs.Inner.Threads.{thread_lines}
use Rattle.text_state_lines.proofs.ThreadTexts.{lines_next}
use borrow.Author.Rules.{rules}
use Rattle.text_state_lines.proofs.put_threads.Goals as goal

pub loop-index-init : goal.loop-index-init
unfolding thread_lines
loop-index-init c = (search rules, search rules, added_none _ _)

pub put_thread-at-requires : goal.put_thread-at-requires
put_thread-at-requires c =
    omega
    (arith, c.loop-index.invariant.1, c.loop-index.invariant.2.kept, c.requires.0)

pub loop-index-preserved : goal.loop-index-preserved
loop-index-preserved c =
    let l = c.loop-index in
    let ts = c.args.threads in
    let t = c.put_thread-at in
    let less = c.loop-index-test.true in (
      search rules,
      omega (arith, l.invariant.1, t.ensures.within),
      rw add-one
          (added_as (lines_next ts l.index _ (omega (arith, c.requires.1)))
          (added_more l.invariant.2 t.ensures.wrote)),
    )

pub shape_of-area : goal.shape_of-area
shape_of-area c = c.loop-index.invariant.2.kept

pub returns : goal.returns
returns c =
    let l = c.loop-index in
    let ts = c.args.threads in
    let whole : l.index ≡ 8 = omega (arith, l.invariant.0, c.loop-index-test.false) in
    added_as (ap (λ (k : ℕ). thread_lines 0 (take k ts)) whole ∙ ap (thread_lines 0) (take_all 8 ts (omega (arith, c.requires.1))))
    l.invariant.2
