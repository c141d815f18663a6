-- `text_race_lines::put_unordered` meets its contract. Assumes nothing.
use native.Mathlib.Omega.{arith}
use Rattle.text_record_lines.specs.Inner.Columns.{record_of}
use Rattle.text.proofs.Added.{added_more, added_as}
use Rattle.text_race_lines.proofs.LineParts.{apart_short, lack_short}
use Rattle.text_race_lines.proofs.Records.{unordered_text}
use Rattle.text_race_lines.proofs.put_unordered.Goals as goal

pub put_lack-at-requires : goal.put_lack-at-requires
put_lack-at-requires c =
    let w = c.columns_at-write in
    let x = c.columns_at-access in
    let i = c.last_write-last in
    let few = c.requires.has_last.inside in
    let t = c.requires.short in
    let l = i.ensures.before in
    let short = lack_short i.result (record_of w.result) (record_of x.result) (omega arith) w.ensures.narrow.thread_below
    x.ensures.narrow.thread_below x.ensures.narrow.object_below x.ensures.narrow.field_below in
    (omega (arith, c.requires.room, short), x.ensures.narrow.kind_below)

pub put_apart-requires : goal.put_apart-requires
put_apart-requires c =
    let w = c.columns_at-write in
    let x = c.columns_at-access in
    let i = c.last_write-last in
    let p = c.put_lack-at.ensures in
    let few = c.requires.has_last.inside in
    let t = c.requires.short in
    let l = i.ensures.before in
    let short = lack_short i.result (record_of w.result) (record_of x.result) (omega arith) w.ensures.narrow.thread_below
    x.ensures.narrow.thread_below x.ensures.narrow.object_below x.ensures.narrow.field_below in
    omega (
      arith,
      c.requires.room,
      short,
      apart_short i.result
          c.args.failing (omega arith) (omega arith),
      p.next,
      p.kept,
    )

pub returns : goal.returns
returns c = λ v u.
    let w = c.columns_at-write in
    let x = c.columns_at-access in
    let i = c.last_write-last in
    added_as
    (unordered_text c.args.log.now
    c.args.failing i.result
    w.result x.result i.ensures
    c.requires.has_last.inside
    w.ensures x.ensures v u)
    (added_more c.put_lack-at.ensures c.put_apart.ensures)
