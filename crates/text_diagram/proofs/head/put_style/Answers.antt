-- `text_diagram::head::put_style` meets its contract. Assumes nothing.
use native.Mathlib.Omega.{arith}
use Rattle.text.specs.Text.{ascii}
use Rattle.text.proofs.Added.{added_more}
use Rattle.text_diagram_elements.specs.Diagram.{style_text}
use Rattle.text_diagram.proofs.head.put_style.Goals as goal

pub returns : goal.returns
unfolding style_text ascii
returns c =
    record {
      wrote = added_more c.put_word-at.ensures
          (added_more c.put_word-at-2.ensures
          (added_more c.put_word-at-3.ensures (added_more c.put_word-at-4.ensures c.put_word.ensures)));
      short =
          omega (
            arith,
            c.put_word-at.ensures.next,
            c.put_word-at-2.ensures.next,
            c.put_word-at-3.ensures.next,
            c.put_word-at-4.ensures.next,
            c.put_word.ensures.next,
          );
    }
