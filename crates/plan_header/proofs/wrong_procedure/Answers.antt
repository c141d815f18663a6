-- `wrong_procedure`: the tests of a procedure's numbers, one by one.
use mathlib.Core.Path.{refl}
use native.Mathlib.Omega.{arith}
use Rattle.std.proofs.lemmas.Bool.Decides.{nat_tests}
use Rattle.plan_packed.specs.Format.{root}
use Rattle.plan_packed.proofs.Reading.{procedure_tests}
use Rattle.plan_header.proofs.wrong_procedure.Goals as goal

pub returns-then-parameters-gt0 : goal.returns-then-parameters-gt0
returns-then-parameters-gt0 c =
    let a = c.args in
    let k = c.parameters-parameters in
    let e = procedure_tests a.plan.now a.procedure k.result a.count (root a.plan.now a.procedure) k.ensures c.requires.0 refl in
    grind (arith, nat_tests, e)

pub returns-else-parameters-gt0 : goal.returns-else-parameters-gt0
returns-else-parameters-gt0 c =
    let a = c.args in
    let k = c.parameters-parameters in
    let e = procedure_tests a.plan.now a.procedure k.result a.count c.root.result k.ensures c.requires.0 c.root.ensures in
    grind (arith, nat_tests, e)
