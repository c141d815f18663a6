-- `text_race_lines::put_apart` meets its contract. Assumes nothing.
use native.Mathlib.Omega.{arith}
use Rattle.text.specs.Text.{ascii}
use Rattle.text.proofs.Added.{added_more, added_as}
use Rattle.text_phrases.specs.Phrase.{phrase}
use Rattle.text_race_lines.proofs.LineParts.{apart_parts, apart_length}
use Rattle.text_race_lines.proofs.put_apart.Goals as goal

pub put_phrase-at-requires : goal.put_phrase-at-requires
put_phrase-at-requires c = let a = c.args in omega (arith, apart_length a.earlier a.later)

pub put_phrase-at-requires-2 : goal.put_phrase-at-requires-2
put_phrase-at-requires-2 c =
    let a = c.args in omega (arith, apart_length a.earlier a.later)

pub put_byte-requires : goal.put_byte-requires
put_byte-requires c =
    let a = c.args in omega
    (arith, apart_length a.earlier a.later)

pub returns : goal.returns
unfolding phrase ascii
returns c =
    let a = c.args in
    added_as (apart_parts a.earlier a.later)
    (added_more
    (added_more c.put_phrase-at.ensures
    c.put_phrase-at-2.ensures) c.put_byte.ensures)
