-- `text_refusal_lines::put_refusal` meets its contract. Assumes nothing.
use native.Mathlib.Omega.{arith}
use Rattle.text.specs.Text.{ascii}
use Rattle.text.proofs.Added.{added_more, added_as}
use Rattle.text_refusal_lines.proofs.LineParts.{refusal_parts, refusal_length}
use borrow.Author.Rules.{rules}
use Rattle.text_refusal_lines.proofs.put_refusal.Goals as goal

pub put_word-at-requires : goal.put_word-at-requires
unfolding ascii
put_word-at-requires c =
    let a = c.args in
    omega (arith, refusal_length (record { number = a.number; place = a.place }))

pub put_column-at-requires : goal.put_column-at-requires
unfolding ascii
put_column-at-requires c =
    let a = c.args in
    omega (arith, refusal_length (record { number = a.number; place = a.place }))

pub put_column-at-requires-2 : goal.put_column-at-requires-2
unfolding ascii
put_column-at-requires-2 c =
    let a = c.args in
    omega (arith, refusal_length (record { number = a.number; place = a.place }))

pub put_byte-requires : goal.put_byte-requires
unfolding ascii
put_byte-requires c =
    let a = c.args in
    omega (arith, refusal_length (record { number = a.number; place = a.place }))

pub returns : goal.returns
unfolding ascii
returns c =
    let put_byte = c.put_byte in
    let put-column2 = c.put_column-at-2 in
    let put-column = c.put_column-at in
    let put_word = c.put_word-at in
    let a = c.args in
    added_as (refusal_parts (record { number = a.number; place = a.place }))
    (added_more (added_more (added_more put_word.ensures put-column.ensures) put-column2.ensures) put_byte.ensures)
