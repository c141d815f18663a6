-- `text_diagram::elements::put_segment` meets its contract. Assumes nothing.
use native.Mathlib.Omega.{arith}
use mathlib.Core.Path.{◌∙◌}
use Rattle.text.specs.Text.{ascii}
use Rattle.text.proofs.Added.{added_more}
use Rattle.text_diagram_elements.specs.Diagram.{segment}
use Rattle.text_diagram_elements.proofs.put_segment.Goals as goal

pub put_attribute-at-requires-4 : goal.put_attribute-at-requires-4
put_attribute-at-requires-4 c = (
  c.requires.0.v_small,
  omega (
    arith,
    c.put_word-at.ensures.next,
    c.put_word-at.ensures.kept,
    c.put_word-at-2.ensures.next,
    c.put_word-at-2.ensures.kept,
    c.put_byte-at.ensures.next,
    c.put_byte-at.ensures.kept,
    c.put_attribute-at.ensures.short,
    c.put_attribute-at.ensures.wrote.kept,
    c.put_attribute-at-2.ensures.short,
    c.put_attribute-at-2.ensures.wrote.kept,
    c.put_attribute-at-3.ensures.short,
    c.put_attribute-at-3.ensures.wrote.kept,
    c.requires.1,
  ),
)

pub put_word-requires : goal.put_word-requires
put_word-requires c =
    omega (
      arith,
      c.put_word-at.ensures.next,
      c.put_word-at.ensures.kept,
      c.put_word-at-2.ensures.next,
      c.put_word-at-2.ensures.kept,
      c.put_byte-at.ensures.next,
      c.put_byte-at.ensures.kept,
      c.put_attribute-at.ensures.short,
      c.put_attribute-at.ensures.wrote.kept,
      c.put_attribute-at-2.ensures.short,
      c.put_attribute-at-2.ensures.wrote.kept,
      c.put_attribute-at-3.ensures.short,
      c.put_attribute-at-3.ensures.wrote.kept,
      c.put_attribute-at-4.ensures.short,
      c.put_attribute-at-4.ensures.wrote.kept,
      c.requires.1,
    )

pub shape_of-area : goal.shape_of-area
shape_of-area c =
    c.put_word.ensures.kept ∙ c.put_attribute-at-4.ensures.wrote.kept ∙ c.put_attribute-at-3.ensures.wrote.kept
    ∙ c.put_attribute-at-2.ensures.wrote.kept ∙ c.put_attribute-at.ensures.wrote.kept ∙ c.put_byte-at.ensures.kept
    ∙ c.put_word-at-2.ensures.kept ∙ c.put_word-at.ensures.kept

pub returns : goal.returns
unfolding segment ascii
returns c =
    record {
      wrote = added_more c.put_word-at.ensures
          (added_more c.put_word-at-2.ensures
          (added_more c.put_byte-at.ensures
          (added_more c.put_attribute-at.ensures.wrote
          (added_more c.put_attribute-at-2.ensures.wrote
          (added_more c.put_attribute-at-3.ensures.wrote (added_more c.put_attribute-at-4.ensures.wrote c.put_word.ensures))))));
      short =
          omega (
            arith,
            c.put_word-at.ensures.next,
            c.put_word-at-2.ensures.next,
            c.put_byte-at.ensures.next,
            c.put_attribute-at.ensures.short,
            c.put_attribute-at-2.ensures.short,
            c.put_attribute-at-3.ensures.short,
            c.put_attribute-at-4.ensures.short,
            c.put_word.ensures.next,
          );
    }
