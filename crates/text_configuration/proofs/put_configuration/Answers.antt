-- `text_configuration::put_configuration` meets its contract. Assumes nothing.
use native.Mathlib.Omega.{arith}
use Rattle.text.specs.Text.{ascii}
use Rattle.text.proofs.Added.{added_more, added_as}
use Rattle.text_configuration.proofs.Parts.{head_is, whole_is}
use Rattle.text_configuration.proofs.put_configuration.Goals as goal

pub returns : goal.returns
unfolding ascii
returns c =
    let w = c.put_word-at.ensures in
    let v = c.put_channels-at.ensures in
    let u = c.put_last.ensures in record {
      wrote = added_as (whole_is c.args.samples)
          (added_more (added_more (added_as head_is w) v.wrote) u.wrote);
      within = omega (arith, w.next, v.within, u.within);
    }
