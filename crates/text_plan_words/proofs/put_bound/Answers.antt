-- `put_bound` meets its contract. Assumes nothing.
use native.Mathlib.Omega.{arith}
use Rattle.text.specs.Text.{ascii}
use Rattle.text.proofs.Added.{added_more, added_as}
use Rattle.text_plan_words.proofs.Parts.{wide_digits, bound_parts}
use borrow.Author.Rules.{rules}
use Rattle.text_plan_words.proofs.put_bound.Goals as goal

pub put_number-at-requires : goal.put_number-at-requires
put_number-at-requires c =
    let put_word = c.put_word-at in
    let a = c.args in
    omega (arith, put_word.ensures.next, put_word.ensures.kept, wide_digits a.moves (omega arith))

pub put_word-requires : goal.put_word-requires
put_word-requires c =
    let put-number = c.put_number-at in
    let put_word = c.put_word-at in
    let a = c.args in
    let w = put_word.ensures in
    let v = put-number.ensures in
    omega (arith, w.next, w.kept, v.next, v.kept, wide_digits a.moves (omega arith))

pub returns : goal.returns
unfolding ascii
returns c =
    let put-word2 = c.put_word in
    let put-number = c.put_number-at in
    let put_word = c.put_word-at in
    let a = c.args in
    added_as (bound_parts a.moves) (added_more (added_more put_word.ensures put-number.ensures) put-word2.ensures)
