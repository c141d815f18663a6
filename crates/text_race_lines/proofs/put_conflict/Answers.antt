-- `text_race_lines::put_conflict` meets its contract. Assumes nothing.
use native.Mathlib.Omega.{arith}
use Rattle.text_record_lines.specs.Inner.Columns.{record_of}
use Rattle.text.proofs.Added.{added_more, added_as}
use Rattle.text_race_lines.proofs.LineParts.{apart_short, access_short, other_short, conflict_parts}
use Rattle.text_race_lines.proofs.put_conflict.Goals as goal

pub put_access-at-requires : goal.put_access-at-requires
put_access-at-requires c =
    let a = c.args in
    let g = c.requires in (
      omega (
        arith,
        g.room,
        access_short a.later (record_of a.second) g.few_later g.later.thread_below g.later.object_below
            g.later.field_below,
      ),
      g.later.kind_below,
    )

pub put_other-at-requires : goal.put_other-at-requires
put_other-at-requires c =
    let a = c.args in
    let g = c.requires in
    let first = access_short a.later (record_of a.second) g.few_later g.later.thread_below g.later.object_below g.later.field_below in
    (omega (arith, g.room, first, other_short a.earlier (record_of a.first) g.few_earlier g.earlier.thread_below), g.earlier.kind_below)

pub put_apart-requires : goal.put_apart-requires
put_apart-requires c =
    let a = c.args in
    let g = c.requires in
    let first = access_short a.later (record_of a.second) g.few_later g.later.thread_below g.later.object_below g.later.field_below in
    let second = other_short a.earlier (record_of a.first) g.few_earlier g.earlier.thread_below in
    omega (arith, g.room, first, second, apart_short a.earlier a.later g.few_earlier g.few_later)

pub returns : goal.returns
returns c =
    let a = c.args in
    added_as (conflict_parts a.earlier (record_of a.first) a.later (record_of a.second))
    (added_more
    (added_more c.put_access-at.ensures
    c.put_other-at.ensures) c.put_apart.ensures)
