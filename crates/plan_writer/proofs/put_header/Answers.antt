-- `put_header` meets its contract. Assumes nothing.
use native.Mathlib.Omega.{arith}
use Rattle.plan_writer.proofs.Stores.{four_keeps, four_and_four}
use Rattle.plan_writer.proofs.put_header.Goals as goal

pub put_bytes-requires-2-clause-in_bounds : goal.put_bytes-requires-2-clause-in_bounds
put_bytes-requires-2-clause-in_bounds c =
    let h = c.requires.in_bounds in
    omega (arith, four_keeps _ _ _ c.put_bytes.ensures)

pub returns : goal.returns
returns c = four_and_four _ _ _ c.put_bytes.ensures c.put_bytes-2.ensures
