-- `put_reason` meets its contract: the reason is a word of the code's table. Assumes nothing.
use native.Mathlib.Omega.{arith}
use mathlib.Core.Path.{ap}
use lib.ListN.{length, length-append}
use Rattle.text.proofs.Added.{added_more, added_as}
use Rattle.text_read_lines.proofs.FailureLines.{reason_is, reason_room}
use Rattle.text_read_lines.proofs.put_reason.Goals as goal

pub put_row-at-requires : goal.put_row-at-requires
put_row-at-requires c =
    let starts = c.starts-starts in
    let words = c.words-words in
    let a = c.args in
    let given = c.requires in
    reason_room a.row given.0 words.ensures starts.ensures a.at _ given.1

pub put_byte-requires : goal.put_byte-requires
put_byte-requires c =
    let put-row = c.put_row-at in
    let starts = c.starts-starts in
    let words = c.words-words in
    let a = c.args in
    let given = c.requires in
    let e = reason_is a.row given.0 words.ensures starts.ensures in
    omega (arith, put-row.ensures.next, put-row.ensures.kept, simp length-append at (ap length e))

pub returns : goal.returns
returns c =
    let put_byte = c.put_byte in
    let put-row = c.put_row-at in
    let starts = c.starts-starts in
    let words = c.words-words in
    let a = c.args in
    let given = c.requires in
    added_as (reason_is a.row given.0 words.ensures starts.ensures)
    (added_more put-row.ensures put_byte.ensures)
