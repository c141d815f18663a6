-- `wrong_header`: the tests of the header's numbers, one by one.
use mathlib.Core.Path.{◌≡◌, sym, ◌∙◌}
use borrow.Author.Tests.{le-ltb, eq-eqb}
use native.Mathlib.Omega.{arith}
use Rattle.std.proofs.lemmas.Bool.Decides.{nat_tests}
use Rattle.plan_packed.specs.Format.{mask_bit}
use Rattle.plan_packed.specs.Refusals.{wrong_header}
use Rattle.plan_packed.proofs.Reading.{header_tests, header_tests_lem}
use Rattle.plan_header.proofs.wrong_header.Goals as goal
use Rattle.plan_header.proofs.wrong_header.Goals.{After-volatiles-mask}

-- the check is these tests of the numbers that were read
are : (c : After-volatiles-mask)
    → wrong_header c.args.plan.now
    ≡ header_tests c.version-version.result c.procedures-procedures.result c.terms-count.result
    c.spare-spare.result c.volatiles-mask.result
are c = header_tests_lem _ _ _ _ _ _ c.version-version.ensures c.procedures-procedures.ensures
    c.terms-count.ensures c.spare-spare.ensures c.volatiles-mask.ensures

pub returns-then-spare-ne0 : goal.returns-then-spare-ne0
returns-then-spare-ne0 c = let e = are (goal.at.returns-then-spare-ne0 c).After-volatiles-mask in grind (arith, nat_tests, e)

pub returns-else-spare-ne0 : goal.returns-else-spare-ne0
unfolding mask_bit
returns-else-spare-ne0 c =
    let h = c.if-spare-ne0.false in
    sym (are (goal.at.returns-else-spare-ne0 c).After-volatiles-mask
    ∙ rw (le-ltb 1 _ h.0, le-ltb _ 1 h.1, le-ltb 32 _ h.2, le-ltb _ 1 h.3, le-ltb 1024 _ h.4, eq-eqb _ 0 h.5))
