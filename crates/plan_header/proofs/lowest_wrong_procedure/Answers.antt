use Rattle.plan_packed.proofs.Reading.{procedures_lt}
use native.Mathlib.Omega.{arith}
use Rattle.plan_header.proofs.lowest_wrong_procedure.Goals as goal

pub wrong_procedure-requires : goal.wrong_procedure-requires
wrong_procedure-requires c =
    let z = c.requires in
    (z.terms_are, omega (arith, z, procedures_lt c.args.plan.now), omega (arith, z))
