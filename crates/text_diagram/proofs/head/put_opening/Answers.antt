-- `text_diagram::head::put_opening` meets its contract. Assumes nothing.
use native.Mathlib.Omega.{arith}
use Rattle.text.specs.Text.{ascii}
use Rattle.text.proofs.Added.{added_more}
use Rattle.text_diagram_elements.specs.Diagram.{opening_text}
use Rattle.text_diagram.proofs.head.put_opening.Goals as goal

pub returns : goal.returns
unfolding opening_text ascii
returns c =
    record {
      wrote = added_more c.put_word-at.ensures
          (added_more c.put_attribute-at.ensures.wrote (added_more c.put_attribute-at-2.ensures.wrote c.put_word.ensures));
      short =
          omega (
            arith,
            c.put_word-at.ensures.next,
            c.put_attribute-at.ensures.short,
            c.put_attribute-at-2.ensures.short,
            c.put_word.ensures.next,
          );
    }
