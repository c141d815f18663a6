-- `put_next_sample` meets its contract: the line as it ended before, with its end changed for that after the record. Assumes nothing.
use Prim.Native.Nat.{ℕ, ◌+◌, ◌-◌, ◌*◌, ◌≤◌}
use native.Mathlib.Omega.{arith}
use mathlib.Core.Path.{◌≡◌, sym, ap, ◌∙◌}
use mathlib.Core.List.{List, [], ◌∷◌, ◌++◌}
use lib.ListN.{length}
use Rattle.text.specs.Text.{decimal}
use Rattle.text.specs.Inner.Wrote.{Wrote}
use Rattle.text.proofs.Added.{added_as}
use Rattle.text_sample_lines.proofs.LineEnds.{end_length}
use Rattle.text_sample_lines.proofs.LineParts.{line_parts, line_length}
use Rattle.text_sample_lines.proofs.ChangedEnds.{last_bytes, last_changed}
use borrow.Author.Rules.{rules}
use Rattle.text_sample_lines.proofs.put_next_sample.Goals as goal
use Rattle.text_sample_lines.proofs.put_next_sample.Goals.{After-put_sample-next}

abbrev beginning : (c : After-put_sample-next) → List ℕ
beginning c = (decimal c.args.number ++ (44 ∷ [])) ++ decimal ((c.args.number - 1) * 1000)

abbrev area : (c : After-put_sample-next) → List ℕ
area c = c.put_sample-next.new.area

added : (c : After-put_sample-next) → Wrote c.args.area.now c.args.at ((beginning c) ++ c.args.end.now) (area c) c.put_sample-next.result
added c = added_as (sym (line_parts c.args.number c.args.end.now)) c.put_sample-next.ensures

room : (c : After-put_sample-next) → c.args.at + length ((beginning c) ++ c.args.end.now) ≤ length c.args.area.now
room c = omega (arith, c.requires.numbered.2, ap length (line_parts c.args.number c.args.end.now))

pub overflow_sub-from : goal.overflow_sub-from
overflow_sub-from c =
    omega (arith, c.put_sample-next.ensures.next, line_length c.args.number c.args.end.now, c.requires.narrow.1)

pub after_record-requires : goal.after_record-requires
after_record-requires c =
    (c.requires.narrow.0, ap length (last_bytes (beginning (goal.at.after_record-requires c).After-put_sample-next) c.args.end.now (added (goal.at.after_record-requires c).After-put_sample-next) (room (goal.at.after_record-requires c).After-put_sample-next) 66 c.requires.narrow.1) ∙ c.requires.narrow.1)

pub returns : goal.returns
returns c L e =
    let long = c.requires.narrow.1 in
    let x = c.after_record in
    let changed = x.ensures L (last_bytes (beginning (goal.at.returns c).After-put_sample-next) c.args.end.now (added (goal.at.returns c).After-put_sample-next) (room (goal.at.returns c).After-put_sample-next) 66 long ∙ e) in
    record {
      ends = c.after_record-2.ensures L e;
      wrote = added_as (ap (λ (l : List ℕ). beginning (goal.at.returns c).After-put_sample-next ++ l) changed ∙ line_parts c.args.number _)
          (last_changed (beginning (goal.at.returns c).After-put_sample-next) c.args.end.now (added (goal.at.returns c).After-put_sample-next) (room (goal.at.returns c).After-put_sample-next) 66 long x.new.end (ap length changed ∙ end_length _));
    }
