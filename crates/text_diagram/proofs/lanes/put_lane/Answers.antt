-- `text_diagram::lanes::put_lane` meets its contract. Assumes nothing.
use native.Mathlib.Omega.{arith}
use Rattle.text.specs.Text.{ascii}
use Rattle.text.proofs.Decimals.{few_digits}
use Rattle.text.proofs.Added.{added_more}
use Rattle.text_diagram_elements.specs.Diagram.{lane_text}
use Rattle.text_diagram.proofs.lanes.put_lane.Goals as goal

pub put_number-at-requires : goal.put_number-at-requires
put_number-at-requires c =
    omega (
      arith,
      c.put_segment-at.ensures.short,
      c.put_segment-at.ensures.wrote.kept,
      c.put_word-at.ensures.next,
      c.put_word-at.ensures.kept,
      c.put_attribute-at.ensures.short,
      c.put_attribute-at.ensures.wrote.kept,
      c.put_word-at-2.ensures.next,
      c.put_word-at-2.ensures.kept,
      few_digits 0 c.args.thread (omega (arith, c.requires.0)),
      c.requires.2,
    )

pub put_word-requires : goal.put_word-requires
put_word-requires c =
    omega (
      arith,
      c.put_segment-at.ensures.short,
      c.put_segment-at.ensures.wrote.kept,
      c.put_word-at.ensures.next,
      c.put_word-at.ensures.kept,
      c.put_attribute-at.ensures.short,
      c.put_attribute-at.ensures.wrote.kept,
      c.put_word-at-2.ensures.next,
      c.put_word-at-2.ensures.kept,
      c.put_number-at.ensures.next,
      c.put_number-at.ensures.kept,
      few_digits 0 c.args.thread (omega (arith, c.requires.0)),
      c.requires.2,
    )

pub returns : goal.returns
unfolding lane_text ascii
returns c =
    record {
      wrote = added_more c.put_segment-at.ensures.wrote
          (added_more c.put_word-at.ensures
          (added_more c.put_attribute-at.ensures.wrote
          (added_more c.put_word-at-2.ensures (added_more c.put_number-at.ensures c.put_word.ensures))));
      short =
          omega (
            arith,
            c.put_segment-at.ensures.short,
            c.put_word-at.ensures.next,
            c.put_attribute-at.ensures.short,
            c.put_word-at-2.ensures.next,
            c.put_number-at.ensures.next,
            c.put_word.ensures.next,
            few_digits 0 c.args.thread (omega (arith, c.requires.0)),
          );
    }
