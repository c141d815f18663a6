-- `write` meets its contract. Assumes nothing.
use native.Mathlib.Omega.{arith}
use mathlib.Core.Path.{ap, ◌∙◌}
use Rattle.canonical.specs.Inner.Begun.{trees_written}
use Rattle.canonical.proofs.Procedures.{long_plan}
use Rattle.canonical.proofs.Whole.{area_whole}
use borrow.Author.Rules.{rules}
use Rattle.canonical.proofs.write.Goals as goal

pub procedures-procedures-requires : goal.procedures-procedures-requires
procedures-procedures-requires c = long_plan c.requires

pub copy_header-requires : goal.copy_header-requires
copy_header-requires c = let l = long_plan c.requires in (l, omega (arith, c.requires.long))

pub returns : goal.returns
returns c =
    let k = c.shared_slice_known-1.given in
    c.write_trees.ensures ∙ ap (trees_written _ 0 0) c.copy_header.ensures
    ∙ area_whole c.args.plan.now c.args.area.now (λ j. let f = k j in omega arith) c.requires.passes c.requires.long
