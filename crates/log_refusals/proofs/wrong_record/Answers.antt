-- `log_refusals::wrong_record` meets its contract: its tests are the definition's. Assumes nothing.
use Rattle.log_refusals.proofs.WrongRecords.{spare_below, wrong_is}
use native.Mathlib.Omega.{arith}
use Rattle.log_refusals.proofs.wrong_record.Goals as goal

pub overflow_add-bits-2 : goal.overflow_add-bits-2
overflow_add-bits-2 c =
    let read = c.columns_at-columns.ensures in
    omega (arith, spare_below _ _ _ read, read.narrow.field_below, read.narrow.value_below)

pub overflow_cast-bits : goal.overflow_cast-bits
overflow_cast-bits c =
    let read = c.columns_at-columns.ensures in
    omega (arith, spare_below _ _ _ read, read.narrow.field_below, read.narrow.value_below)

pub returns : goal.returns
returns c =
    let R = c.columns_at-columns in
    wrong_is c.args.log.now c.args.index R.result R.ensures c.args.least.now c.args.zero.now c.requires.least_value c.requires.zero_value
