-- `text_configuration::put_last` meets its contract. Assumes nothing.
use native.Mathlib.Omega.{arith}
use Rattle.text.specs.Text.{ascii}
use Rattle.text.proofs.Decimals.{few_digits}
use Rattle.text.proofs.Added.{added_more, added_as}
use Rattle.text_configuration.proofs.Parts.{last_parts}
use Rattle.text_configuration.proofs.put_last.Goals as goal

pub put_number-at-requires : goal.put_number-at-requires
put_number-at-requires c = let w = c.put_word-at.ensures in
    omega (arith, w.next, w.kept, few_digits 3 c.args.samples (omega arith))

pub put_word-at-requires-2 : goal.put_word-at-requires-2
put_word-at-requires-2 c =
    let w = c.put_word-at.ensures in
    let v = c.put_number-at.ensures in
    omega (
      arith,
      w.next,
      w.kept,
      v.next,
      v.kept,
      few_digits 3 c.args.samples (omega arith),
    )

pub put_word-requires : goal.put_word-requires
put_word-requires c =
    let w = c.put_word-at.ensures in
    let v = c.put_number-at.ensures in
    let u = c.put_word-at-2.ensures in
    omega (
      arith,
      w.next,
      w.kept,
      v.next,
      v.kept,
      u.next,
      u.kept,
      few_digits 3 c.args.samples (omega arith),
    )

pub returns : goal.returns
unfolding ascii
returns c =
    let w = c.put_word-at.ensures in
    let v = c.put_number-at.ensures in
    let u = c.put_word-at-2.ensures in
    let t = c.put_word.ensures in record {
      wrote = added_as (last_parts
          c.args.samples) (added_more (added_more (added_more w v) u) t);
      within = omega (
        arith,
        w.next,
        v.next,
        u.next,
        t.next,
        few_digits 3 c.args.samples (omega arith),
      );
    }
