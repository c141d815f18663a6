use Prim.Native.Nat.{ℕ}
use native.Mathlib.Numerals.{add-one}
use mathlib.Core.Path.{sym, ap, ◌∙◌}
use lib.ListN.{get_or}
use lib.Seq.{take_all}
use Rattle.text_inputs.specs.Numerals.{with_digit, number_from, number_of}
use Rattle.text_inputs.proofs.Bytes.{number_more}
use borrow.Author.Rules.{rules}
use Rattle.text_inputs.proofs.numerals.number_of.Goals as goal

pub loop-byte-init : goal.loop-byte-init
unfolding number_from
loop-byte-init c = (search rules, search rules)

pub loop-byte-preserved : goal.loop-byte-preserved
loop-byte-preserved c =
    let with-digit = c.with_digit-number in
    let loop-test = c.loop-byte-test in
    let loop = c.loop-byte in
    let a = c.args in
    let before = ap (λ (n : ℕ). with_digit n (get_or a.bytes.now loop.byte-index 0)) loop.invariant.0 in
    let more = with-digit.ensures.0 ∙ before ∙ sym (number_more a.bytes.now loop.byte-index loop-test.true) in
    (rw add-one more, with-digit.ensures.1)

pub returns : goal.returns
unfolding number_of
returns c =
    let loop-test = c.loop-byte-test in
    let loop = c.loop-byte in
    let a = c.args in
    loop.invariant.0 ∙ ap (number_from 0) (take_all loop.byte-index a.bytes.now loop-test.false)
