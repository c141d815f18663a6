-- `log_refusals::wrong_length` meets its contract: its test is the definition's. Assumes nothing.
use Rattle.log_records.proofs.Accepted.{wrong_length_lem}
use mathlib.Core.Path.{sym}
use Rattle.log_refusals.proofs.wrong_length.Goals as goal

pub returns : goal.returns
returns c = sym (wrong_length_lem c.args.log.now)
