-- `text_record_lines::put_record` meets its contract. Assumes nothing.
use native.Mathlib.Omega.{arith}
use Rattle.text_record_lines.specs.Inner.Columns.{record_of}
use Rattle.text.proofs.Added.{added_more, added_as}
use Rattle.text_record_lines.proofs.LineParts.{record_parts, record_length}
use borrow.Author.Rules.{rules}
use Rattle.text_record_lines.proofs.put_record.Goals as goal

pub put_number-at-requires : goal.put_number-at-requires
put_number-at-requires c = let a = c.args in omega (arith, record_length a.index (record_of a.columns))

pub put_byte-at-requires : goal.put_byte-at-requires
put_byte-at-requires c = let a = c.args in omega (arith, record_length a.index (record_of a.columns))

pub put_kind-at-requires : goal.put_kind-at-requires
put_kind-at-requires c =
    let a = c.args in
    omega (arith, record_length a.index (record_of a.columns))

pub put_column-at-requires : goal.put_column-at-requires
put_column-at-requires c =
    let a = c.args in
    omega (arith, record_length a.index (record_of a.columns))

pub put_column-at-requires-2 : goal.put_column-at-requires-2
put_column-at-requires-2 c =
    let a = c.args in
    omega (arith, record_length a.index (record_of a.columns))

pub put_column-at-requires-3 : goal.put_column-at-requires-3
put_column-at-requires-3 c =
    let a = c.args in
    omega (arith, record_length a.index (record_of a.columns))

pub put_column-at-requires-4 : goal.put_column-at-requires-4
put_column-at-requires-4 c =
    let a = c.args in
    omega (arith, record_length a.index (record_of a.columns))

pub put_byte-requires : goal.put_byte-requires
put_byte-requires c =
    let a = c.args in
    omega (arith, record_length a.index (record_of a.columns))

pub returns : goal.returns
returns c =
    let a = c.args in
    added_as (record_parts a.index (record_of a.columns))
    (added_more (added_more
    (added_more (added_more (added_more (added_more (added_more c.put_number-at.ensures c.put_byte-at.ensures) c.put_kind-at.ensures)
    c.put_column-at.ensures) c.put_column-at-2.ensures) c.put_column-at-3.ensures) c.put_column-at-4.ensures) c.put_byte.ensures)
