use Prim.Native.Nat.{ℕ}
use native.Mathlib.Numerals.{add-one}
use native.Mathlib.Omega.{arith}
use mathlib.Core.Path.{ap, ◌∙◌}
use mathlib.Core.List.{[], ◌∷◌, ◌++◌}
use lib.ListN.{take}
use lib.Seq.{take_all}
use Rattle.text.proofs.Added.{added_none, added_more, added_as}
use Rattle.text_inputs.specs.Schedules.{digits_of, digit_line}
use Rattle.text_inputs.proofs.Bytes.{digits_more}
use borrow.Author.Rules.{rules}
use Rattle.text_inputs.proofs.schedules.put_digit_line.Goals as goal

pub loop-pick-init : goal.loop-pick-init
unfolding digits_of
loop-pick-init c = (search rules, added_none _ _)

pub put_byte-next-requires : goal.put_byte-next-requires
put_byte-next-requires c =
    let loop-test = c.loop-pick-test in
    let loop = c.loop-pick in
    omega (arith, loop.invariant.0, loop.invariant.1.kept, loop-test.true)

pub loop-pick-preserved : goal.loop-pick-preserved
loop-pick-preserved c =
    let put_byte = c.put_byte-next in
    let digit-of = c.digit_of in
    let loop-test = c.loop-pick-test in
    let loop = c.loop-pick in
    let a = c.args in
    let w = a.picks.now in
    let i = loop.pick-index in
    let one = ap (λ (d : ℕ). digits_of (take i w) ++ (d ∷ [])) digit-of.ensures ∙ digits_more w i loop-test.true in
    (omega (arith, loop.invariant.0, put_byte.ensures.next), rw add-one (added_as one (added_more loop.invariant.1 put_byte.ensures)))

pub put_byte-requires : goal.put_byte-requires
put_byte-requires c =
    let loop = c.loop-pick in
    omega (arith, loop.invariant.0, loop.invariant.1.kept)

pub shape_of-area : goal.shape_of-area
shape_of-area c =
    let put-byte2 = c.put_byte in
    let loop = c.loop-pick in
    put-byte2.ensures.kept ∙ loop.invariant.1.kept

pub returns : goal.returns
unfolding digit_line
returns c =
    let put-byte2 = c.put_byte in
    let loop-test = c.loop-pick-test in
    let loop = c.loop-pick in
    let a = c.args in
    let all = ap digits_of (take_all loop.pick-index a.picks.now loop-test.false) in
    added_more (added_as all loop.invariant.1) put-byte2.ensures
