use Prim.Native.Nat.{suc, ◌+◌}
use native.Mathlib.Omega.{arith}
use mathlib.Core.Path.{◌≡◌, refl, ◌∙◌}
use mathlib.Core.Logic.{⊎_elim}
use lib.ListN.{length-set}
use borrow.Author.Tests.{eq-eqb, ne_eqb}
use borrow.Author.Rules.{rules}
use Rattle.log_schedule_writer.proofs.Picks.{writing_start, writing_end, at_below, writing_skip, writing_pick, writing_fork, writing_as}
use Rattle.log_schedule_writer.proofs.put_picks.Goals as goal

pub loop-index-init : goal.loop-index-init
loop-index-init c = let a = c.args in (writing_start a.log.now a.kept.now a.area.now, refl)

pub bounds-kept-index : goal.bounds-kept-index
bounds-kept-index c = omega (arith, c.requires.sized)

pub bounds-area-at : goal.bounds-area-at
bounds-area-at c =
    at_below c.loop-index.invariant.0 (omega arith) c.columns_at-columns.ensures c.if-kept-index.true c.requires.room c.requires.small

pub overflow_add-at : goal.overflow_add-at
overflow_add-at c = let i = c.loop-index.invariant.0.at_most in search rules

pub overflow_add-next : goal.overflow_add-next
overflow_add-next c = let i = c.loop-index.invariant.0.next_most in search rules

pub loop-index-preserved : goal.loop-index-preserved
loop-index-preserved c =
    let l = c.loop-index in
    let less = c.loop-index-test.true in
    let next_index : l.index + 1 ≡ suc l.index = omega arith in
    ⊎_elim (λ w.
    writing_as w.area-is w.numbers-is w.next-is w.at-is (
      writing_fork l.invariant.0 less w.columns_at-columns.ensures w.if-kept-index.true c.requires.room c.requires.small (l.index + 1) (l.at + 1) (l.next + 1) next_index
          (omega arith) (omega arith) (eq-eqb _ 8 w.if-columns-eq-FORK.true),
      length-set l.area l.at _ ∙ l.invariant.1,
    )) (λ w. ⊎_elim (λ w.
    writing_as w.area-is w.numbers-is w.next-is w.at-is (
      writing_pick l.invariant.0 less w.columns_at-columns.ensures w.if-kept-index.true c.requires.room c.requires.small (l.index + 1) (l.at + 1) next_index (omega arith)
          (ne_eqb _ 8 w.if-columns-eq-FORK.false),
      length-set l.area l.at _ ∙ l.invariant.1,
    )) (λ w.
    writing_as w.area-is w.numbers-is w.next-is w.at-is (writing_skip l.invariant.0 less (l.index + 1) next_index w.if-kept-index.false, l.invariant.1)) w) c.if-kept-index.branch-raw

pub shape_of-area : goal.shape_of-area
shape_of-area c = c.loop-index.invariant.1

pub returns : goal.returns
returns c =
    let l = c.loop-index in
    let a = c.args in
    writing_end a.log.now a.kept.now a.area.now l.numbers l.next l.at l.index l.area l.invariant.0 (omega arith)
