-- `read_plan` meets its contract. Assumes nothing.
use native.Mathlib.Omega.{arith}
use Rattle.plan_reader.specs.Inner.Reading.{fault_of}
use Rattle.plan_reader.proofs.Counts.{counts_few, first_counts}
use Rattle.plan_reader.proofs.OneMore.{starts}
use Rattle.plan_reader.proofs.read_plan.Goals as goal

pub header-heading-requires : goal.header-heading-requires
header-heading-requires c = (c.requires.tokens_nonzero.0, c.requires.tokens_nonzero.1)

pub returns-then-heading-gt1 : goal.returns-then-heading-gt1
unfolding fault_of
returns-then-heading-gt1 c = record { so = c.header-heading.ensures.unknown c.if-heading-gt1.true }

pub put_counts-count-requires : goal.put_counts-count-requires
put_counts-count-requires c = (c.requires.tokens_nonzero.1, c.requires.tokens_nonzero.2)

pub slice_bounds-procedures-end : goal.slice_bounds-procedures-end
slice_bounds-procedures-end c =
    let p = c.put_counts-count.ensures in
    omega (arith, p.next, p.kept, counts_few c.args.tokens.now, c.requires.tokens_nonzero.2)

pub procedures-requires : goal.procedures-requires
procedures-requires c =
    let h = c.header-heading.ensures in
    let k = c.if-heading-gt1.false in record { tokens_len_bound = (c.requires.tokens_nonzero.1, first_counts _ c.put_counts-count.ensures, k); sized = c.requires.sized.0; going = starts _ _ _ _ _ _ _ (h.known k) c.requires.tokens_nonzero.3 c.requires.sized.0.most_words c.requires.sized.1 c.requires.sized.2 h.inside }

pub returns : goal.returns
returns c = c.procedures.ensures
