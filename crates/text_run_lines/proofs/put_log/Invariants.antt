-- `text_run_lines::put_log` meets its contract. The invariant: the lines of the first i records. Assumes nothing.
use Prim.Native.Nat.{ℕ, ◌+◌, ◌-◌, ◌*◌, ◌/◌, ◌≤◌}
use native.Mathlib.Numerals.{add-one}
use native.Mathlib.Omega.{arith}
use mathlib.Core.Path.{◌≡◌, sym, ap, ◌∙◌}
use mathlib.Core.List.{◌++◌}
use lib.ListN.{length}
use Rattle.log_records.specs.Record.{Record}
use Rattle.log_records.specs.Packed.{records_from, record_count, log_of}
use Rattle.text_record_lines.specs.Lines.{record_line, record_lines}
use Rattle.text.specs.Inner.Wrote.{Wrote}
use Rattle.text.proofs.Added.{added_none, added_more, added_as}
use Rattle.text_run_lines.proofs.RecordText.{text_more, columns_are, line_short}
use borrow.Author.Rules.{rules}
use Rattle.text_run_lines.proofs.put_log.Given as goal

abbrev pub invariant-loop-index : goal.invariant-loop-index
invariant-loop-index l = (l.index ≤ length l.log / 3) × (l.at ≤ 28 * l.index) × Wrote l.initial.area 0 (record_lines 0 (records_from l.log 0 l.index)) l.area l.at
