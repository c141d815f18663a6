-- `occurs`: the tag of one of the first words is this one. Assumes nothing.
use native.Mathlib.Omega.{arith}
use mathlib.Core.Path.{◌∙◌}
use lib.Dec.{eqb}
use Rattle.std.proofs.Common.{rules, tests}
use Rattle.std.proofs.lemmas.Iterator.{YieldsList-from_slice}
use Rattle.std.proofs.lemmas.Iterator.Search.{any_from_yields_List}
use Rattle.plan_packed.specs.Inner.Operands.{tag_of}
use Rattle.plan_packed.specs.Inner.Steps.{tag_in}
use Rattle.plan_tag_search.proofs.Tests.{any_taken}
use Rattle.plan_tag_search.proofs.occurs.Goals as goal

pub returns : goal.returns
unfolding tag_in
returns c =
    any_from_yields_List (λ w. eqb (tag_of w) c.args.tag) _ _ c.any.result c.any.ensures.ran (YieldsList-from_slice _ c.iter.ensures.rest) (λ x b q k. search (rules, tests))
    ∙ any_taken (λ w. eqb (tag_of w) c.args.tag) c.args.words.now c.args.count (omega arith)
