-- A run that stopped for want of a key: no chain leads to its last record from the last write of its field. Assumes nothing.
use Prim.Native.Nat.{ℕ, suc}
use native.Mathlib.Omega.{arith}
use mathlib.Core.Path.{◌≡◌}
use lib.ListN.{length}
use mathlib.Core.List.{List}
use Rattle.plan_packed.specs.Syntax.{Program}
use Rattle.log_order.specs.Chains.{Unordered}
use Rattle.log_order.proofs.Agree.{lacking_plain}
use Rattle.rules.specs.Run.{race, Run, log}
use Rattle.rules.proofs.StateLaws.{there}
use Rattle.agreement.specs.Agreement.{StoppedAt, Agreement}

-- demand 3 at the last record
pub raced_unordered : {g : Program} {ps : List ℕ} {r : Run} → Agreement g ps r → r.stop ≡ race → (j : ℕ) → suc j ≡ length (log r)
    → Unordered g.version (log r) j
raced_unordered {g} {ps} {r} A raced j last =
    let x = there (log r) j (omega arith) in
    let stopped : StoppedAt r j = record { raced = raced; is_last = last } in
    let lacks = (A.lacks j x.0 x.1).1 stopped in
    (A.stops j x.0 x.1 (lacking_plain x.0.kind lacks)).0 stopped
