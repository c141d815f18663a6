-- `put_failure` meets its contract. Assumes nothing.
use native.Mathlib.Omega.{arith}
use mathlib.Core.Path.{ap}
use lib.ListN.{length}
use Rattle.text.proofs.Added.{added_more, added_as}
use Rattle.read.specs.Answer.{failure_of}
use Rattle.text_read_lines.specs.Reasons.{reason_words, failure_line}
use Rattle.text_read_lines.proofs.FailureLines.{failure_few, failure_length}
use Rattle.text_read_lines.proofs.put_failure.Goals as goal

pub put_place-at-requires : goal.put_place-at-requires
put_place-at-requires c =
    let a = c.args in
    omega (arith, failure_length a.line a.column (failure_of a.kind a.reason))

pub put_reason-requires : goal.put_reason-requires
put_reason-requires c =
    let failure-row = c.failure_row in
    let put-place = c.put_place-at in
    let a = c.args in
    let f = failure_of a.kind a.reason in
    let w = put-place.ensures in
    let e = ap length (ap reason_words failure-row.ensures) in
    (omega (arith, failure_few f, failure-row.ensures), omega (arith, e, w.next, w.kept, failure_length a.line a.column f))

pub returns : goal.returns
unfolding failure_line
returns c =
    let put-reason = c.put_reason in
    let failure-row = c.failure_row in
    let put-place = c.put_place-at in
    added_more put-place.ensures (added_as (ap reason_words failure-row.ensures) put-reason.ensures)
