-- `log_places::records::place_at` meets its contract. Assumes nothing.
use Rattle.log_places.proofs.Bytes.{place_of_bytes}
use native.Mathlib.Omega.{arith}
use Rattle.log_places.proofs.records.place_at.Goals as goal

pub returns : goal.returns
returns c =
    let a = c.args in
    let x = c.wide-first.ensures in
    let y = c.wide-second.ensures in
    let z = c.wide-third.ensures in
    record { value = omega (arith, place_of_bytes a.log.now a.index (omega arith) (omega arith) (omega arith)); result_in = omega arith }
