-- `text_sample_lines::no_values`: the bytes of the code and those of the end, each computed, are the same. Assumes nothing.
use mathlib.Core.Path.{refl}
use Rattle.text_sample_lines.specs.Inner.LineEnds.{end_of}
use Rattle.text_sample_lines.proofs.no_values.Goals as goal

pub returns : goal.returns
unfolding end_of
returns c = refl
