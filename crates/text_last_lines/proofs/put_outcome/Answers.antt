-- `text_last_lines::put_outcome` meets its contract. Assumes nothing.
use native.Mathlib.Omega.{arith}
use Rattle.play.specs.Answer.{stop_of}
use Rattle.text.proofs.Added.{added_more, added_as}
use Rattle.text_last_lines.proofs.LineParts.{outcome_parts, outcome_length}
use borrow.Author.Rules.{rules}
use Rattle.text_last_lines.proofs.put_outcome.Goals as goal

pub put_stop-at-requires : goal.put_stop-at-requires
put_stop-at-requires c = let a = c.args in omega (arith, outcome_length (stop_of a.stop) a.picks a.moves a.records)

pub put_column-at-requires : goal.put_column-at-requires
put_column-at-requires c =
    let a = c.args in
    omega (arith, outcome_length (stop_of a.stop) a.picks a.moves a.records)

pub put_column-at-requires-2 : goal.put_column-at-requires-2
put_column-at-requires-2 c =
    let a = c.args in
    omega (arith, outcome_length (stop_of a.stop) a.picks a.moves a.records)

pub put_column-at-requires-3 : goal.put_column-at-requires-3
put_column-at-requires-3 c =
    let a = c.args in
    omega (arith, outcome_length (stop_of a.stop) a.picks a.moves a.records)

pub put_byte-requires : goal.put_byte-requires
put_byte-requires c =
    let a = c.args in
    omega (arith, outcome_length (stop_of a.stop) a.picks a.moves a.records)

pub returns : goal.returns
returns c =
    let a = c.args in
    added_as (outcome_parts (stop_of a.stop) a.picks a.moves a.records)
    (added_more (added_more
    (added_more (added_more
    c.put_stop-at.ensures
    c.put_column-at.ensures)
    c.put_column-at-2.ensures)
    c.put_column-at-3.ensures) c.put_byte.ensures)
