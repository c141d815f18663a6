-- `text_race_lines::put_lack` meets its contract. Assumes nothing.
use native.Mathlib.Omega.{arith}
use Rattle.text.specs.Text.{ascii}
use Rattle.text.proofs.Added.{added_more, added_as}
use Rattle.text_phrases.specs.Phrase.{phrase}
use Rattle.text_record_lines.specs.Inner.Columns.{record_of}
use Rattle.text_race_lines.specs.Lines.{does}
use Rattle.text_race_lines.proofs.LineParts.{lack_parts, lack_length}
use Rattle.text_race_lines.proofs.put_lack.Goals as goal

pub put_phrase-at-requires : goal.put_phrase-at-requires
put_phrase-at-requires c = let a = c.args in omega (arith, lack_length a.index (record_of a.write) (record_of a.access))

pub put_either-at-requires : goal.put_either-at-requires
unfolding does ascii
put_either-at-requires c =
    let a = c.args in (
      omega (arith, lack_length a.index (record_of a.write) (record_of a.access)),
      c.requires.1,
    )

pub put_phrase-at-requires-2 : goal.put_phrase-at-requires-2
unfolding does ascii
put_phrase-at-requires-2 c =
    let a = c.args in omega
    (arith, lack_length a.index (record_of a.write) (record_of a.access))

pub put_phrase-at-requires-3 : goal.put_phrase-at-requires-3
unfolding does ascii
put_phrase-at-requires-3 c =
    let a = c.args in omega (arith, lack_length a.index (record_of a.write) (record_of a.access))

pub put_phrase-at-requires-4 : goal.put_phrase-at-requires-4
unfolding does ascii
put_phrase-at-requires-4 c =
    let a = c.args in omega (arith, lack_length a.index (record_of a.write) (record_of a.access))

pub put_phrase-at-requires-5 : goal.put_phrase-at-requires-5
unfolding does ascii
put_phrase-at-requires-5 c =
    let a = c.args in omega
    (arith, lack_length a.index (record_of a.write) (record_of a.access))

pub put_byte-requires : goal.put_byte-requires
unfolding does ascii
put_byte-requires c =
    let a = c.args in
    let first = c.put_phrase-at.ensures in
    let second = c.put_either-at.ensures in
    omega (
      arith,
      first.next,
      first.kept,
      second.next,
      second.kept,
      c.requires.0,
      lack_length a.index (record_of a.write) (record_of a.access),
    )

pub returns : goal.returns
unfolding does phrase ascii
returns c =
    let a = c.args in
    let first = added_more
    (added_more
    c.put_phrase-at.ensures
    c.put_either-at.ensures)
    c.put_phrase-at-2.ensures in
    let second = added_more
    (added_more first
    c.put_phrase-at-3.ensures) c.put_phrase-at-4.ensures
    in
    added_as (lack_parts a.index (record_of a.write) (record_of a.access))
    (added_more (added_more second c.put_phrase-at-5.ensures) c.put_byte.ensures)
