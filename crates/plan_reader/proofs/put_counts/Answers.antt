-- `put_counts` meets its contract. Assumes nothing.
use native.Mathlib.Omega.{arith}
use mathlib.Core.Path.{◌∙◌}
use Rattle.text.proofs.Added.{added_more}
use Rattle.plan_parsing.specs.Plan.{counts_of}
use Rattle.plan_reader.proofs.put_counts.Goals as goal

pub put_byte-next-requires : goal.put_byte-next-requires
put_byte-next-requires c = omega (arith, c.requires.1)

pub put_further-requires : goal.put_further-requires
put_further-requires c =
    let p = c.put_byte-next.ensures in
    (c.requires.0, omega (arith, c.requires.1, p.next, p.kept))

pub shape_of-area : goal.shape_of-area
shape_of-area c = c.put_further.ensures.kept ∙ c.put_byte-next.ensures.kept

pub returns : goal.returns
unfolding counts_of
returns c = added_more c.put_byte-next.ensures c.put_further.ensures
