-- `log_refusals::four_wrong` meets its contract. Assumes nothing.
use Rattle.log_limits.proofs.Tables.{early_table}
use lib.ListN.{length}
use native.Mathlib.Omega.{arith}
use Prim.Native.Nat.{◌+◌, ◌/◌}
use Rattle.log_refusals.proofs.four_wrong.Goals as goal

pub wrong_record-first-requires : goal.wrong_record-first-requires
wrong_record-first-requires c =
    record { index_in = omega arith; least_value = early_table _ c.args.index (length c.args.log.now / 3) c.requires.least_value (omega arith); zero_value = c.requires.zero_value }

pub wrong_record-second-requires : goal.wrong_record-second-requires
wrong_record-second-requires c =
    record { index_in = omega arith; least_value = early_table _ (c.args.index + 1) (length c.args.log.now / 3) c.requires.least_value (omega arith); zero_value = c.requires.zero_value }

pub wrong_record-third-requires : goal.wrong_record-third-requires
wrong_record-third-requires c =
    record { index_in = omega arith; least_value = early_table _ (c.args.index + 2) (length c.args.log.now / 3) c.requires.least_value (omega arith); zero_value = c.requires.zero_value }

pub wrong_record-fourth-requires : goal.wrong_record-fourth-requires
wrong_record-fourth-requires c =
    record { index_in = omega arith; least_value = early_table _ (c.args.index + 3) (length c.args.log.now / 3) c.requires.least_value (omega arith); zero_value = c.requires.zero_value }

pub returns : goal.returns
returns c = cc
