-- `log_places::records::thread_at` meets its contract. Assumes nothing.
use Rattle.log_places.proofs.Bytes.{thread_of_byte}
use native.Mathlib.Omega.{arith}
use Rattle.log_places.proofs.records.thread_at.Goals as goal

pub returns : goal.returns
returns c =
    let a = c.args in
    let w = c.wide-first.ensures in
    record { value = omega (arith, thread_of_byte a.log.now a.index (omega arith)); result_in = omega arith }
