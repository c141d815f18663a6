-- `condition_row` meets its contract. Assumes nothing.
use native.Mathlib.Omega.{arith}
use borrow.Author.Tests.{lt-ltb, le-ltb}
use Rattle.plan_token_writer.specs.Inner.Items.{condition_row}
use Rattle.plan_token_writer.proofs.condition_row.Goals as goal

pub returns-in-13-to-15 : goal.returns-in-13-to-15
unfolding condition_row
returns-in-13-to-15 c = (rw (lt-ltb 12 c.args.tag (omega arith), lt-ltb c.args.tag 16 (omega arith)), omega arith)

pub returns-in_default : goal.returns-in_default
unfolding condition_row
returns-in_default c = (rw (le-ltb 12 c.args.tag (omega arith)), omega arith)

pub returns-in_default-2 : goal.returns-in_default-2
unfolding condition_row
returns-in_default-2 c = (rw (lt-ltb 12 c.args.tag (omega arith), le-ltb c.args.tag 16 (omega arith)), omega arith)
