use Prim.Native.Nat.{ℕ, suc, ◌/◌}
use native.Mathlib.Numerals.{add-one}
use native.Mathlib.Omega.{arith}
use mathlib.Core.Path.{◌≡◌, sym, ap, ◌∙◌}
use lib.ListN.{length, length-append, take}
use Rattle.log_records.specs.Packed.{record_count, log_of}
use Rattle.text.proofs.Added.{added_none, added_more, added_as}
use Rattle.text_sample_lines.specs.DataFile.{sample_line, sample_lines}
use Rattle.text_sample_lines.specs.Inner.LineEnds.{line_of}
use Rattle.text_sample_lines.proofs.LineEnds.{end_length}
use Rattle.text_sample_lines.proofs.LineParts.{line_is, line_length, sample_length}
use Rattle.waveform.proofs.FileLength.{lines_within}
use Rattle.waveform.proofs.Records.{end_next}
use Rattle.waveform.proofs.Answers.{lines_length}
use borrow.Author.Rules.{rules}
use Rattle.waveform.proofs.put_samples.Goals as goal

pub loop-index-init : goal.loop-index-init
unfolding sample_lines
loop-index-init c = (search rules, c.no_values-end.ensures, added_none _ _)

pub slice_bounds-put_next_sample-end : goal.slice_bounds-put_next_sample-end
slice_bounds-put_next_sample-end c = let l = c.loop-index in sym (ap length l.invariant.1 ∙ end_length _)

pub put_next_sample-at-requires : goal.put_next_sample-at-requires
unfolding record_count sample_lines
put_next_sample-at-requires c =
    let b = c.args.log.now in
    let l = c.loop-index in
    let long = ap length l.invariant.1 ∙ end_length _ in record {
      numbered = (
        omega arith,
        omega arith,
        omega (
          arith,
          l.invariant.2.next,
          l.invariant.2.kept,
          line_length (suc l.index) l.end,
          sample_length (log_of b) (suc l.index),
          ap (λ (n : ℕ). length (line_of n l.end)) (add-one l.index),
          length-append (sample_lines (log_of b) l.index) (sample_line (log_of b) (suc l.index)),
          lines_within (log_of b) (suc l.index) (length b / 3) (omega arith),
          lines_length b,
        ),
      );
      narrow = (c.columns_at-columns.ensures.narrow, long);
    }

pub loop-index-preserved : goal.loop-index-preserved
unfolding sample_lines
loop-index-preserved c =
    let b = c.args.log.now in
    let l = c.loop-index in
    let r = c.columns_at-columns in
    let x = c.put_next_sample-at.ensures (take l.index (log_of b)) l.invariant.1 in
    let E = end_next b l.index (omega arith) r.result _ r.ensures x.ends in
    let line = ap (line_of (suc l.index)) (sym x.ends ∙ E) ∙ line_is (log_of b) (suc l.index) in
    (omega arith, rw add-one E, rw add-one (added_more l.invariant.2 (added_as line (rw add-one at x.wrote))))

pub shape_of-area : goal.shape_of-area
shape_of-area c = c.loop-index.invariant.2.kept

pub returns : goal.returns
unfolding record_count
returns c =
    let l = c.loop-index in
    let b = c.args.log.now in
    let whole : l.index ≡ length b / 3 = omega arith in
    added_as (ap (sample_lines (log_of b)) whole) l.invariant.2
