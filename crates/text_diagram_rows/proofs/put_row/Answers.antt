-- `text_diagram::rows::put_row` meets its contract. Assumes nothing.
use native.Mathlib.Omega.{arith}
use mathlib.Core.Path.{◌∙◌}
use Rattle.text.specs.Text.{ascii}
use Rattle.text.proofs.Added.{added_more}
use Rattle.text_diagram_elements.specs.Diagram.{row_text}
use Rattle.text_diagram_rows.proofs.put_row.Goals as goal

pub put_words-at-requires : goal.put_words-at-requires
put_words-at-requires c = (
  c.requires.0,
  c.requires.1,
  c.requires.2,
  omega (
    arith,
    c.put_word-at.ensures.next,
    c.put_word-at.ensures.kept,
    c.put_colour-at.ensures.short,
    c.put_colour-at.ensures.wrote.kept,
    c.put_word-at-2.ensures.next,
    c.put_word-at-2.ensures.kept,
    c.put_segment-at.ensures.short,
    c.put_segment-at.ensures.wrote.kept,
    c.put_mark-at.ensures.short,
    c.put_mark-at.ensures.wrote.kept,
    c.requires.3,
  ),
)

pub put_word-requires : goal.put_word-requires
put_word-requires c =
    omega (
      arith,
      c.put_word-at.ensures.next,
      c.put_word-at.ensures.kept,
      c.put_colour-at.ensures.short,
      c.put_colour-at.ensures.wrote.kept,
      c.put_word-at-2.ensures.next,
      c.put_word-at-2.ensures.kept,
      c.put_segment-at.ensures.short,
      c.put_segment-at.ensures.wrote.kept,
      c.put_mark-at.ensures.short,
      c.put_mark-at.ensures.wrote.kept,
      c.put_words-at.ensures.short,
      c.put_words-at.ensures.wrote.kept,
      c.requires.3,
    )

pub shape_of-area : goal.shape_of-area
shape_of-area c =
    c.put_word.ensures.kept ∙ c.put_words-at.ensures.wrote.kept ∙ c.put_mark-at.ensures.wrote.kept
    ∙ c.put_segment-at.ensures.wrote.kept ∙ c.put_word-at-2.ensures.kept ∙ c.put_colour-at.ensures.wrote.kept
    ∙ c.put_word-at.ensures.kept

pub returns : goal.returns
unfolding row_text ascii
returns c =
    record {
      wrote = added_more c.put_word-at.ensures
          (added_more c.put_colour-at.ensures.wrote
          (added_more c.put_word-at-2.ensures
          (added_more c.put_segment-at.ensures.wrote
          (added_more c.put_mark-at.ensures.wrote (added_more c.put_words-at.ensures.wrote c.put_word.ensures)))));
      short =
          omega (
            arith,
            c.put_word-at.ensures.next,
            c.put_colour-at.ensures.short,
            c.put_word-at-2.ensures.next,
            c.put_segment-at.ensures.short,
            c.put_mark-at.ensures.short,
            c.put_words-at.ensures.short,
            c.put_word.ensures.next,
          );
    }
