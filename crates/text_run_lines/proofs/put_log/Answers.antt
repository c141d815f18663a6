use Prim.Native.Nat.{ℕ, ◌+◌, ◌-◌, ◌*◌, ◌/◌, ◌≤◌}
use native.Mathlib.Numerals.{add-one}
use native.Mathlib.Omega.{arith}
use mathlib.Core.Path.{◌≡◌, sym, ap, ◌∙◌}
use mathlib.Core.List.{◌++◌}
use lib.ListN.{length}
use Rattle.log_records.specs.Record.{Record}
use Rattle.log_records.specs.Packed.{records_from, record_count, log_of}
use Rattle.text_record_lines.specs.Lines.{record_line, record_lines}
use Rattle.text.specs.Inner.Wrote.{Wrote}
use Rattle.text.proofs.Added.{added_none, added_more, added_as}
use Rattle.text_run_lines.proofs.RecordText.{text_more, columns_are, line_short}
use borrow.Author.Rules.{rules}
use Rattle.text_run_lines.proofs.put_log.Goals as goal

pub loop-index-init : goal.loop-index-init
unfolding records_from record_lines
loop-index-init c = (search rules, search rules, added_none _ _)

pub put_record-at-requires : goal.put_record-at-requires
put_record-at-requires c =
    let l = c.loop-index in
    let r = c.columns_at-columns in
    omega (
      arith,
      l.invariant.1,
      l.invariant.2.kept,
      line_short c.args.log.now l.index r.result
          (omega arith) r.ensures,
    )

pub loop-index-preserved : goal.loop-index-preserved
loop-index-preserved c =
    let l = c.loop-index in
    let r = c.columns_at-columns in
    let p = c.put_record-at in
    let b = c.args.log.now in
    let short = line_short b l.index r.result (omega arith) r.ensures in
    let e = ap (λ (x : Record). record_lines 0 (records_from b 0 l.index) ++ record_line l.index x) (columns_are b l.index r.result r.ensures)
    ∙ sym (text_more b l.index) in
    (search rules, omega (arith, l.invariant.1, p.ensures.next, short), rw add-one (added_as e (added_more l.invariant.2 p.ensures)))

pub shape_of-area : goal.shape_of-area
shape_of-area c = c.loop-index.invariant.2.kept

pub returns : goal.returns
unfolding log_of record_count
returns c =
    let l = c.loop-index in
    let b = c.args.log.now in
    let whole : l.index ≡ length b / 3 = omega arith in record { wrote = added_as (ap (λ (k : ℕ). record_lines 0 (records_from b 0 k)) whole) l.invariant.2; within = omega arith }
