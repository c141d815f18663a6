-- `text_sample_lines::put_sample` meets its contract. Assumes nothing.
use native.Mathlib.Omega.{arith}
use Rattle.text.proofs.Added.{added_more, added_as}
use Rattle.text_sample_lines.proofs.LineParts.{line_parts, line_length}
use borrow.Author.Rules.{rules}
use Rattle.text_sample_lines.proofs.put_sample.Goals as goal

pub put_below_10000-at-requires : goal.put_below_10000-at-requires
put_below_10000-at-requires c = let a = c.args in (omega arith, omega (arith, line_length a.number a.end.now))

pub put_byte-at-requires : goal.put_byte-at-requires
put_byte-at-requires c =
    let a = c.args in
    let w = c.put_below_10000-at.ensures in
    omega (arith, w.next, w.kept, line_length a.number a.end.now)

pub put_thousands-at-requires : goal.put_thousands-at-requires
put_thousands-at-requires c =
    let a = c.args in
    let w = c.put_below_10000-at.ensures in
    let v = c.put_byte-at.ensures in
    (omega arith, omega (arith, w.next, w.kept, v.next, v.kept, line_length a.number a.end.now))

pub put_word-requires : goal.put_word-requires
put_word-requires c =
    let a = c.args in
    let w = c.put_below_10000-at.ensures in
    let v = c.put_byte-at.ensures in
    let u = c.put_thousands-at.ensures in
    omega (arith, w.next, w.kept, v.next, v.kept, u.next, u.kept, line_length a.number a.end.now)

pub returns : goal.returns
returns c =
    let a = c.args in
    added_as (line_parts a.number a.end.now)
    (added_more
    (added_more (added_more
    c.put_below_10000-at.ensures
    c.put_byte-at.ensures)
    c.put_thousands-at.ensures)
    c.put_word.ensures)
