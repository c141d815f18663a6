-- `text_race_lines::put_access` meets its contract. Assumes nothing.
use native.Mathlib.Omega.{arith}
use Rattle.text.specs.Text.{ascii}
use Rattle.text.proofs.Added.{added_more, added_as}
use Rattle.text_phrases.specs.Phrase.{phrase}
use Rattle.text_record_lines.specs.Inner.Columns.{record_of}
use Rattle.text_race_lines.specs.Lines.{deed}
use Rattle.text_race_lines.proofs.LineParts.{access_parts, access_length}
use Rattle.text_race_lines.proofs.put_access.Goals as goal

pub put_phrase-at-requires : goal.put_phrase-at-requires
put_phrase-at-requires c = let a = c.args in omega (arith, access_length a.index (record_of a.access))

pub put_either-at-requires : goal.put_either-at-requires
unfolding deed ascii
put_either-at-requires c =
    let a = c.args in
    (omega (arith, access_length a.index (record_of a.access)), c.requires.1)

pub put_phrase-at-requires-2 : goal.put_phrase-at-requires-2
unfolding deed ascii
put_phrase-at-requires-2 c =
    let a = c.args in omega
    (arith, access_length a.index (record_of a.access))

pub put_phrase-at-requires-3 : goal.put_phrase-at-requires-3
unfolding deed ascii
put_phrase-at-requires-3 c =
    let a = c.args in omega (arith, access_length a.index (record_of a.access))

pub put_phrase-requires : goal.put_phrase-requires
unfolding deed ascii
put_phrase-requires c =
    let a = c.args in omega (arith, access_length a.index (record_of a.access))

pub returns : goal.returns
unfolding deed phrase ascii
returns c =
    let a = c.args in
    added_as (access_parts a.index (record_of a.access))
    (added_more
    (added_more
    (added_more
    (added_more
    c.put_phrase-at.ensures
    c.put_either-at.ensures)
    c.put_phrase-at-2.ensures)
    c.put_phrase-at-3.ensures) c.put_phrase.ensures)
