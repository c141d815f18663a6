-- `put_cents` meets its contract. Assumes nothing.
use native.Mathlib.Omega.{arith}
use Rattle.text.specs.Text.{ascii}
use Rattle.text.proofs.Added.{added_more, added_as}
use Rattle.text_plan_words.proofs.Parts.{wide_digits}
use Rattle.text_run_words.proofs.Parts.{cents_parts}
use borrow.Author.Rules.{rules}
use Rattle.text_run_words.proofs.put_cents.Goals as goal

pub put_number-at-requires : goal.put_number-at-requires
put_number-at-requires c =
    let a = c.args in
    omega (arith, wide_digits a.plain (omega arith))

pub put_word-at-requires : goal.put_word-at-requires
put_word-at-requires c =
    let put-number = c.put_number-at in
    let a = c.args in
    let w = put-number.ensures in
    omega (arith, w.next, w.kept, wide_digits a.plain (omega arith))

pub put_number-at-requires-2 : goal.put_number-at-requires-2
put_number-at-requires-2 c =
    let put_word = c.put_word-at in
    let put-number = c.put_number-at in
    let a = c.args in
    let w = put-number.ensures in
    let v = put_word.ensures in
    omega (arith, w.next, w.kept, v.next, v.kept, wide_digits a.plain (omega arith), wide_digits a.more (omega arith))

pub put_word-requires : goal.put_word-requires
put_word-requires c =
    let put-number2 = c.put_number-at-2 in
    let put_word = c.put_word-at in
    let put-number = c.put_number-at in
    let a = c.args in
    let w = put-number.ensures in
    let v = put_word.ensures in
    let u = put-number2.ensures in
    let few = wide_digits a.plain (omega arith) in
    let few2 = wide_digits a.more (omega arith) in
    omega (arith, w.next, w.kept, v.next, v.kept, u.next, u.kept, few, few2)

pub returns : goal.returns
unfolding ascii
returns c =
    let put-word2 = c.put_word in
    let put-number2 = c.put_number-at-2 in
    let put_word = c.put_word-at in
    let put-number = c.put_number-at in
    let a = c.args in
    added_as (cents_parts a.plain a.more)
    (added_more (added_more (added_more put-number.ensures put_word.ensures) put-number2.ensures) put-word2.ensures)
