-- `conflict` meets its contract: what the tests before the last one leave is the conjunction so far. Assumes nothing.
use mathlib.Core.Path.{◌≡◌, refl, sym, ◌∙◌}
use mathlib.Core.Bool.{◌&&◌, ◌||◌}
use lib.Dec.{eqb}
use Rattle.log_records.specs.Packed.{kind_of}
use Rattle.log_records.specs.Record.{is_plain}
use Rattle.log_order.specs.Accesses.{is_write}
use Rattle.text_judge_lines.specs.Inner.Search.{conflict_test}
use Rattle.text_judge_lines.proofs.search.conflict.Goals as goal
use Rattle.text_judge_lines.proofs.search.conflict.Goals.{Joined-writes-2}
use Rattle.text_judge_lines.proofs.search.conflict.Goals.{then-plain+then-writes, then-plain+else-writes, else-plain, then-writes-2, else-writes-2}

so_far : (c : Joined-writes-2) → c.if-writes-2.value
    ≡ ((is_plain (kind_of c.args.earlier.kind) && (is_write (kind_of c.args.earlier.kind) || is_write (kind_of c.args.later.kind)))
    && eqb c.args.earlier.object c.args.later.object)
so_far c =
    let kinds : c.if-plain.value ≡ (is_plain (kind_of c.args.earlier.kind) && (is_write (kind_of c.args.earlier.kind) || is_write (kind_of c.args.later.kind)))
    = elim c.if-plain.branch [
      | then-plain+then-writes w ↦ simp (w.value-is, w.writes.ensures, sym c.plain.ensures ∙ w.if-plain.true, sym w.writes.ensures ∙ w.if-writes.true)
      | then-plain+else-writes w ↦ simp (
        w.value-is,
        w.writes-else-writes.ensures,
        sym c.plain.ensures ∙ w.if-plain.true,
        sym w.writes.ensures ∙ w.if-writes.false,
      )
      | else-plain w ↦ simp (w.value-is, w.if-plain.false, sym c.plain.ensures ∙ w.if-plain.false)
    ] in
    elim c.if-writes-2.branch [
      | then-writes-2 w ↦ simp (w.value-is, sym kinds ∙ w.if-writes-2.true)
      | else-writes-2 w ↦ simp (w.value-is, w.if-writes-2.false, sym kinds ∙ w.if-writes-2.false)
    ]

pub returns-then-earlier-later : goal.returns-then-earlier-later
unfolding conflict_test
returns-then-earlier-later c = rw (sym (so_far (goal.at.returns-then-earlier-later c).Joined-writes-2), c.if-earlier-later.true) refl

pub returns-else-earlier-later : goal.returns-else-earlier-later
unfolding conflict_test
returns-else-earlier-later c = rw (sym (so_far (goal.at.returns-else-earlier-later c).Joined-writes-2), c.if-earlier-later.false) refl
