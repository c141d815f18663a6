-- `text_diagram::head::put_head` meets its contract. Assumes nothing.
use native.Mathlib.Omega.{arith}
use Rattle.text.proofs.Added.{added_more}
use Rattle.text_diagram_elements.specs.Diagram.{head_text}
use Rattle.text_diagram.proofs.head.put_head.Goals as goal

pub returns : goal.returns
unfolding head_text
returns c =
    record {
      wrote = added_more c.put_opening-at.ensures.wrote (added_more c.put_style-at.ensures.wrote c.put_columns.ensures.wrote);
      short = omega (arith, c.put_opening-at.ensures.short, c.put_style-at.ensures.short, c.put_columns.ensures.short);
    }
