-- `text_diagram::rows::put_words` meets its contract. Assumes nothing.
use native.Mathlib.Omega.{arith}
use Rattle.text.specs.Text.{ascii}
use Rattle.text.proofs.Added.{added_more}
use Rattle.text_record_lines.proofs.FirstRecords.{line_short}
use Rattle.text_diagram_elements.specs.Diagram.{words_text}
use Rattle.text_diagram_rows.proofs.put_words.Goals as goal

pub put_record-at-requires : goal.put_record-at-requires
put_record-at-requires c =
    omega (
      arith,
      c.put_word-at.ensures.next,
      c.put_word-at.ensures.kept,
      c.put_attribute-at.ensures.short,
      c.put_attribute-at.ensures.wrote.kept,
      c.put_attribute-at-2.ensures.short,
      c.put_attribute-at-2.ensures.wrote.kept,
      c.put_byte-at.ensures.next,
      c.put_byte-at.ensures.kept,
      line_short c.args.index c.args.columns c.requires.1 c.requires.2,
      c.requires.3,
    )

pub put_word-requires : goal.put_word-requires
put_word-requires c =
    omega (
      arith,
      c.put_word-at.ensures.next,
      c.put_word-at.ensures.kept,
      c.put_attribute-at.ensures.short,
      c.put_attribute-at.ensures.wrote.kept,
      c.put_attribute-at-2.ensures.short,
      c.put_attribute-at-2.ensures.wrote.kept,
      c.put_byte-at.ensures.next,
      c.put_byte-at.ensures.kept,
      c.put_record-at.ensures.next,
      c.put_record-at.ensures.kept,
      line_short c.args.index c.args.columns c.requires.1 c.requires.2,
      c.requires.3,
    )

pub returns : goal.returns
unfolding words_text ascii
returns c =
    record {
      wrote = added_more c.put_word-at.ensures
          (added_more c.put_attribute-at.ensures.wrote
          (added_more c.put_attribute-at-2.ensures.wrote
          (added_more c.put_byte-at.ensures (added_more c.put_record-at.ensures c.put_word.ensures))));
      short =
          omega (
            arith,
            c.put_word-at.ensures.next,
            c.put_attribute-at.ensures.short,
            c.put_attribute-at-2.ensures.short,
            c.put_byte-at.ensures.next,
            c.put_record-at.ensures.next,
            c.put_word.ensures.next,
            line_short c.args.index c.args.columns c.requires.1 c.requires.2,
          );
    }
