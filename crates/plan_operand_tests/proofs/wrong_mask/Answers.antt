-- `wrong_mask`: the top bit is field 0, and the count of ones is the count of fields.
use borrow.Author.Tests.{le-leb}
use Rattle.plan_packed.proofs.Reading.{fields_are, no_monitor_bit, monitor_bit}
use Rattle.plan_operand_tests.proofs.wrong_mask.Goals as goal

pub returns-then-fields-ge2147483648 : goal.returns-then-fields-ge2147483648
returns-then-fields-ge2147483648 c =
    let v = c.args.fields in
    let h = c.if-fields-ge2147483648.true in
    simp (le-leb _ _ h, monitor_bit v h c.requires)

pub returns-else-fields-ge2147483648 : goal.returns-else-fields-ge2147483648
returns-else-fields-ge2147483648 c =
    let v = c.args.fields in
    rw (no_monitor_bit v c.if-fields-ge2147483648.false) (fields_are v c.requires)
