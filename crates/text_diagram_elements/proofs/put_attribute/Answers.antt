-- `text_diagram::elements::put_attribute` meets its contract. Assumes nothing.
use native.Mathlib.Omega.{arith}
use Rattle.text.specs.Text.{ascii}
use Rattle.text.proofs.Decimals.{few_digits}
use Rattle.text.proofs.Added.{added_more}
use Rattle.text_diagram_elements.specs.Diagram.{attribute}
use Rattle.text_diagram_elements.proofs.put_attribute.Goals as goal

pub put_number-at-requires : goal.put_number-at-requires
put_number-at-requires c =
    omega (
      arith,
      few_digits 4
          c.args.number
          c.requires.0,
    )

pub put_byte-requires : goal.put_byte-requires
put_byte-requires c =
    omega (
      arith,
      c.put_byte-at.ensures.next,
      c.put_byte-at.ensures.kept,
      c.put_word-at.ensures.next,
      c.put_word-at.ensures.kept,
      c.put_word-at-2.ensures.next,
      c.put_word-at-2.ensures.kept,
      c.put_number-at.ensures.next,
      c.put_number-at.ensures.kept,
      few_digits 4 c.args.number c.requires.0,
      c.requires.1,
    )

pub returns : goal.returns
unfolding attribute ascii
returns c =
    record {
      wrote = added_more c.put_byte-at.ensures
          (added_more c.put_word-at.ensures
          (added_more c.put_word-at-2.ensures (added_more c.put_number-at.ensures c.put_byte.ensures)));
      short =
          omega (
            arith,
            c.put_byte-at.ensures.next,
            c.put_word-at.ensures.next,
            c.put_word-at-2.ensures.next,
            c.put_number-at.ensures.next,
            c.put_byte.ensures.next,
            few_digits 4 c.args.number c.requires.0,
          );
    }
