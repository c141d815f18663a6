-- `waveform::comtrade` meets its contract: the refusals in the order of their numbers, then the lines and the end mark. Assumes nothing.
use native.Mathlib.Omega.{arith}
use mathlib.Core.Path.{◌≡◌, sym, ◌∙◌}
use mathlib.Core.Option.{none}
use Prim.Native.Nat.{◌≤◌}
use lib.ListN.{length}
use Rattle.log_records.specs.Packed.{record_count}
use Rattle.log_records.specs.Refusals.{log_refusal}
use Rattle.log_records.proofs.Accepted.{accepted}
use Rattle.log_refusals.proofs.Refused.{refused_length, refused_record, not_refused}
use Rattle.text.proofs.Added.{added_more, added_as}
use Rattle.waveform.proofs.FileLength.{file_length}
use Rattle.waveform.proofs.Answers as answers
use borrow.Author.Rules.{rules}
use Rattle.waveform.proofs.comtrade.Goals as goal
use Rattle.waveform.proofs.comtrade.Goals.{Else-wrong-count}

pub returns-then-wrong_length : goal.returns-then-wrong_length
returns-then-wrong_length c =
    let a = c.args in let both = answers.turned_away a.log.now a.area.now
    (answers.refused_log a.log.now a.area.now (refused_length a.log.now (sym c.if-wrong_length.true ∙ c.wrong_length.ensures))) in
    rw c.at.ensures (record { answer = both.0; area = both.1 })

pub returns-then-wrong-count : goal.returns-then-wrong-count
returns-then-wrong-count c =
    let a = c.args in let both = answers.turned_away a.log.now a.area.now
    (answers.refused_log a.log.now a.area.now
    (refused_record a.log.now c.lowest_wrong-wrong.result (sym c.if-wrong_length.false ∙ c.wrong_length.ensures)
    c.lowest_wrong-wrong.ensures c.if-wrong-count.true)) in rw c.at-then-wrong-count.ensures (record { answer = both.0; area = both.1 })

-- past both tests nothing refuses the log
passed : (c : Else-wrong-count) → log_refusal c.args.log.now ≡ none
passed c =
    not_refused c.args.log.now c.lowest_wrong-wrong.result
    (sym c.if-wrong_length.false ∙ c.wrong_length.ensures) c.lowest_wrong-wrong.ensures c.if-wrong-count.false

few : (c : Else-wrong-count) → length c.args.log.now ≤ 12288
few c = (accepted c.args.log.now (passed c)).length_most

pub file_length-requires : goal.file_length-requires
file_length-requires c = omega (arith, few c)

pub returns-then-area-file_length : goal.returns-then-area-file_length
unfolding record_count
returns-then-area-file_length c =
    let a = c.args in let both = answers.turned_away a.log.now a.area.now
    (answers.refused_short a.log.now a.area.now (passed (goal.at.returns-then-area-file_length c).Else-wrong-count)
    (omega (
      arith,
      c.if-area-file_length.true,
      c.file_length.ensures,
      file_length a.log.now (few (goal.at.returns-then-area-file_length c).Else-wrong-count),
    ))) in
    rw c.at-then-area-file_length.ensures (record { answer = both.0; area = both.1 })

pub put_samples-at-requires : goal.put_samples-at-requires
unfolding record_count
put_samples-at-requires c =
    let a = c.args in (
      few (goal.at.put_samples-at-requires c).Else-wrong-count,
      omega (arith, c.if-area-file_length.false, c.file_length.ensures, file_length a.log.now (few (goal.at.put_samples-at-requires c).Else-wrong-count)),
    )

pub put_byte-requires : goal.put_byte-requires
unfolding record_count
put_byte-requires c =
    let a = c.args in
    let w = c.put_samples-at.ensures in
    omega (
      arith,
      w.next,
      w.kept,
      c.if-area-file_length.false,
      c.file_length.ensures,
      file_length a.log.now (few (goal.at.put_byte-requires c).Else-wrong-count),
      answers.lines_length a.log.now,
    )

pub returns : goal.returns
unfolding record_count
returns c =
    let a = c.args in let both = answers.written a.log.now a.area.now
    (answers.not_refused a.log.now a.area.now (passed (goal.at.returns c).Else-wrong-count)
    (omega (
      arith,
      c.if-area-file_length.false,
      c.file_length.ensures,
      file_length a.log.now (few (goal.at.returns c).Else-wrong-count),
    )))
    (added_as (answers.whole_file a.log.now)
    (added_more c.put_samples-at.ensures c.put_byte.ensures)) in record { answer = both.0; area = both.1 }
