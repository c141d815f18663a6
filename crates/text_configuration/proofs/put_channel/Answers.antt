-- `text_configuration::put_channel` meets its contract. Assumes nothing.
use native.Mathlib.Omega.{arith}
use Rattle.text.specs.Text.{ascii}
use Rattle.text.proofs.Added.{added_more, added_as}
use Rattle.text_configuration.proofs.Parts.{channel_parts, channel_length}
use Rattle.text_configuration.proofs.put_channel.Goals as goal

pub put_number-at-requires : goal.put_number-at-requires
put_number-at-requires c = omega (arith, channel_length c.args.object)

pub put_word-at-requires : goal.put_word-at-requires
put_word-at-requires c = let w = c.put_number-at.ensures in
    omega (arith, w.next, w.kept, channel_length c.args.object)

pub put_number-at-requires-2 : goal.put_number-at-requires-2
put_number-at-requires-2 c =
    let w = c.put_number-at.ensures in
    let v = c.put_word-at.ensures in
    omega (
      arith,
      w.next,
      w.kept,
      v.next,
      v.kept,
      channel_length c.args.object,
    )

pub put_word-requires : goal.put_word-requires
put_word-requires c =
    let w = c.put_number-at.ensures in
    let v = c.put_word-at.ensures in
    let u = c.put_number-at-2.ensures in
    omega (
      arith,
      w.next,
      w.kept,
      v.next,
      v.kept,
      u.next,
      u.kept,
      channel_length c.args.object,
    )

pub returns : goal.returns
unfolding ascii
returns c =
    added_as (channel_parts
    c.args.object)
    (added_more (added_more
    (added_more c.put_number-at.ensures c.put_word-at.ensures)
    c.put_number-at-2.ensures) c.put_word.ensures)
