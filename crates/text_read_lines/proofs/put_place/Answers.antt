-- `put_place` meets its contract. Assumes nothing.
use native.Mathlib.Omega.{arith}
use Rattle.text.specs.Text.{ascii}
use Rattle.text.proofs.Added.{added_more, added_as}
use Rattle.text_read_lines.proofs.FailureLines.{place_parts, place_length}
use Rattle.text_read_lines.proofs.put_place.Goals as goal

pub put_word-at-requires : goal.put_word-at-requires
unfolding ascii
put_word-at-requires c =
    let a = c.args in
    omega (arith, place_length a.line a.column)

pub put_number-at-requires : goal.put_number-at-requires
unfolding ascii
put_number-at-requires c =
    let put_word = c.put_word-at in
    let a = c.args in
    let w = put_word.ensures in
    omega (arith, w.next, w.kept, place_length a.line a.column)

pub put_word-at-requires-2 : goal.put_word-at-requires-2
unfolding ascii
put_word-at-requires-2 c =
    let put-number = c.put_number-at in
    let put_word = c.put_word-at in
    let a = c.args in
    let w = put_word.ensures in
    let v = put-number.ensures in
    omega (arith, w.next, w.kept, v.next, v.kept, place_length a.line a.column)

pub put_number-at-requires-2 : goal.put_number-at-requires-2
unfolding ascii
put_number-at-requires-2 c =
    let put-word2 = c.put_word-at-2 in
    let put-number = c.put_number-at in
    let put_word = c.put_word-at in
    let a = c.args in
    let w = put_word.ensures in
    let v = put-number.ensures in
    let u = put-word2.ensures in
    omega (arith, w.next, w.kept, v.next, v.kept, u.next, u.kept, place_length a.line a.column)

pub put_word-requires : goal.put_word-requires
unfolding ascii
put_word-requires c =
    let put-number2 = c.put_number-at-2 in
    let put-word2 = c.put_word-at-2 in
    let put-number = c.put_number-at in
    let put_word = c.put_word-at in
    let a = c.args in
    let w = put_word.ensures in
    let v = put-number.ensures in
    let u = put-word2.ensures in
    let t = put-number2.ensures in
    omega (arith, w.next, w.kept, v.next, v.kept, u.next, u.kept, t.next, t.kept, place_length a.line a.column)

pub returns : goal.returns
unfolding ascii
returns c =
    let put-word3 = c.put_word in
    let put-number2 = c.put_number-at-2 in
    let put-word2 = c.put_word-at-2 in
    let put-number = c.put_number-at in
    let put_word = c.put_word-at in
    let a = c.args in
    added_as (place_parts a.line a.column)
    (added_more
    (added_more (added_more (added_more put_word.ensures put-number.ensures) put-word2.ensures) put-number2.ensures)
    put-word3.ensures)
