-- `log_places::records::kind_at` meets its contract. Assumes nothing.
use Rattle.log_places.proofs.Bytes.{kind_of_byte}
use native.Mathlib.Omega.{arith}
use Rattle.log_places.proofs.records.kind_at.Goals as goal

pub returns : goal.returns
returns c =
    let a = c.args in
    let w = c.wide-first.ensures in
    omega (arith, kind_of_byte a.log.now a.index (omega arith))
