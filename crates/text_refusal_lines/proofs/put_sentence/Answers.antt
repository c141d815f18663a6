-- `text_refusal_lines::put_sentence` meets its contract: the sentence is a word of the code's table. Assumes nothing.
use native.Mathlib.Omega.{arith}
use mathlib.Core.Path.{ap}
use mathlib.Core.List.{[], ◌∷◌}
use lib.ListN.{length, length-append}
use Rattle.text.proofs.Added.{added_more, added_as}
use Rattle.text_refusal_lines.proofs.SentenceLines.{sentence_is, sentence_room}
use borrow.Author.Rules.{rules}
use Rattle.text_refusal_lines.proofs.put_sentence.Goals as goal

pub put_row-at-requires : goal.put_row-at-requires
put_row-at-requires c =
    let row = c.row in
    let starts = c.starts-starts in
    let words = c.words-words in
    let a = c.args in
    let given = c.requires in
    sentence_room a.number a.at _ words.ensures starts.ensures row.ensures given

pub put_byte-requires : goal.put_byte-requires
put_byte-requires c =
    let put-row = c.put_row-at in
    let row = c.row in
    let starts = c.starts-starts in
    let words = c.words-words in
    let a = c.args in
    let e = sentence_is a.number words.ensures starts.ensures row.ensures in
    omega (arith, put-row.ensures.next, put-row.ensures.kept, simp length-append at (ap length e))

pub returns : goal.returns
returns c =
    let put_byte = c.put_byte in
    let put-row = c.put_row-at in
    let row = c.row in
    let starts = c.starts-starts in
    let words = c.words-words in
    let a = c.args in
    added_as (sentence_is a.number words.ensures starts.ensures row.ensures)
    (added_more put-row.ensures put_byte.ensures)
