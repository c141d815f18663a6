use native.Mathlib.Numerals.{add-one}
use native.Mathlib.Omega.{arith}
use mathlib.Core.Path.{ap}
use lib.ListN.{get_or}
use lib.Seq.{take_all}
use Rattle.text.proofs.Added.{added_none, added_more, added_as}
use Rattle.text_inputs.specs.Schedules.{digit_picks}
use Rattle.text_inputs.proofs.Bytes.{picks_more, one_pick}
use borrow.Author.Rules.{rules}
use Rattle.text_inputs.proofs.schedules.put_digit_picks.Goals as goal

pub loop-byte-init : goal.loop-byte-init
unfolding digit_picks
loop-byte-init c = (search rules, added_none _ _)

pub put_pick-next-requires : goal.put_pick-next-requires
put_pick-next-requires c =
    let loop-test = c.loop-byte-test in
    let loop = c.loop-byte in
    omega (arith, loop.invariant.0, loop.invariant.1.kept, loop-test.true)

pub loop-byte-preserved : goal.loop-byte-preserved
loop-byte-preserved c =
    let put-pick = c.put_pick-next in
    let loop-test = c.loop-byte-test in
    let loop = c.loop-byte in
    let a = c.args in
    let w = a.bytes.now in
    let i = loop.byte-index in
    let few = one_pick (get_or w i 0) in
    let one = added_as (picks_more w i loop-test.true) (added_more loop.invariant.1 put-pick.ensures) in
    (omega (arith, few, loop.invariant.0, put-pick.ensures.next), rw add-one one)

pub shape_of-area : goal.shape_of-area
shape_of-area c =
    let loop = c.loop-byte in
    loop.invariant.1.kept

pub returns : goal.returns
returns c =
    let loop-test = c.loop-byte-test in
    let loop = c.loop-byte in
    let a = c.args in
    added_as (ap digit_picks (take_all loop.byte-index a.bytes.now loop-test.false)) loop.invariant.1
