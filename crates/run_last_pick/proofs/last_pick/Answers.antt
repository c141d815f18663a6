-- `last_pick` meets its contract. Assumes nothing.
use native.Mathlib.Omega.{arith}
use mathlib.Core.Path.{sym, ap, ◌∙◌}
use borrow.Author.Rules.{rules}
use Rattle.run_last_pick.specs.declared.RecordBytes.{RecordBytes}
use Rattle.run_last_pick.specs.declared.Preview.{Preview}
use Rattle.run_last_pick.specs.declared.Preview.TheVariants as previewed
use Rattle.run_last_pick.proofs.LastPick.{early, full, raced, passed, moved, recorded}
use Rattle.run_last_pick.proofs.last_pick.Goals as goal

pub returns-then-outcome-before : goal.returns-then-outcome-before
returns-then-outcome-before c = let a = c.args in sym (early a.outcome a.moves a.records a.before a.pick a.log.now c.if-outcome-before.true)

pub last_record-requires : goal.last_record-requires
last_record-requires c = let g = c.requires in (g.raced c.if-outcome-before.false c.in-Race.is, g.within)

pub returns-then-outcome-moves : goal.returns-then-outcome-moves
returns-then-outcome-moves c =
    let a = c.args in
    sym (passed a.outcome a.moves a.records a.before a.pick a.log.now c.if-outcome-before.false
    c.in-End.is c.if-outcome-moves.true)

pub returns-then-outcome-records : goal.returns-then-outcome-records
returns-then-outcome-records c =
    let a = c.args in
    sym (moved a.outcome a.moves a.records a.before a.pick a.log.now c.if-outcome-before.false
    c.in-End.is c.if-outcome-moves.false c.if-outcome-records.true)

pub returns-in-NoRoom : goal.returns-in-NoRoom
returns-in-NoRoom c =
    let a = c.args in
    sym (full a.outcome a.moves a.records a.before a.pick a.log.now c.if-outcome-before.false _ c.in-NoRoom.is)

pub returns-in-Race : goal.returns-in-Race
returns-in-Race c =
    let a = c.args in
    ap (λ (x : RecordBytes). previewed.Race x) c.last_record.ensures
    ∙ sym (raced a.outcome a.moves a.records a.before a.pick a.log.now c.if-outcome-before.false c.in-Race.is)

pub returns-else-outcome-records : goal.returns-else-outcome-records
returns-else-outcome-records c =
    let a = c.args in
    ap (λ (x : RecordBytes). previewed.Recorded x) c.last_record-in-End.ensures
    ∙ sym (recorded a.outcome a.moves a.records a.before a.pick a.log.now c.if-outcome-before.false
    c.in-End.is c.if-outcome-moves.false c.if-outcome-records.false)
