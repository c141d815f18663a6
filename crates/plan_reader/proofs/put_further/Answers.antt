use native.Mathlib.Numerals.{add-one}
use native.Mathlib.Omega.{arith}
use Rattle.plan_reader.proofs.Counts.{at_first, at_next, at_last}
use Rattle.plan_reader.proofs.put_further.Goals as goal

pub loop-index-init : goal.loop-index-init
loop-index-init c = at_first _ _ _

pub put_count-next-requires : goal.put_count-next-requires
put_count-next-requires c =
    let l = c.loop-index in
    let h = c.loop-index-test.true in
    (omega (arith, c.requires.0, h), omega (arith, c.requires.1, h, l.invariant.wrote.next, l.invariant.wrote.kept, l.invariant.few))

pub loop-index-preserved : goal.loop-index-preserved
loop-index-preserved c =
    rw add-one (at_next c.loop-index.invariant c.loop-index-test.true
    c.put_count-next.ensures)

pub shape_of-area : goal.shape_of-area
shape_of-area c = c.loop-index.invariant.wrote.kept

pub returns : goal.returns
returns c = at_last c.loop-index.invariant c.loop-index-test.false
