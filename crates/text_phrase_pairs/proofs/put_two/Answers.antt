-- `put_two` meets its contract. Assumes nothing.
use native.Mathlib.Omega.{arith}
use lib.ListN.{length-append}
use Rattle.text.specs.Text.{decimal}
use Rattle.text.proofs.Added.{added_more}
use Rattle.text_phrase_pairs.proofs.Digits.{wide_digits}
use borrow.Author.Rules.{rules}
use Rattle.text_phrase_pairs.proofs.put_two.Goals as goal

pub put_phrase-at-requires : goal.put_phrase-at-requires
put_phrase-at-requires c =
    let a = c.args in
    omega (arith, length-append a.first.now (decimal a.field), wide_digits a.field (omega arith))

pub put_phrase-requires : goal.put_phrase-requires
put_phrase-requires c =
    let a = c.args in
    omega (
      arith,
      length-append a.first.now (decimal a.field),
      wide_digits a.field (omega arith),
      length-append a.second.now
          (decimal a.object),
      wide_digits a.object (omega arith),
    )

pub returns : goal.returns
returns c =
    let a = c.args in record {
      wrote = added_more c.put_phrase-at.ensures c.put_phrase.ensures;
      upper_bound = omega (
        arith,
        c.put_phrase-at.ensures.next,
        c.put_phrase.ensures.next,
        length-append a.first.now (decimal a.field),
        wide_digits a.field (omega arith),
        length-append a.second.now
            (decimal a.object),
        wide_digits a.object (omega arith),
      );
    }
