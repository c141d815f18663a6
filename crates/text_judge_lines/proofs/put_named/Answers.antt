-- `text_judge_lines::put_named` meets its contract. Assumes nothing.
use native.Mathlib.Omega.{arith}
use Rattle.log_arrows.proofs.OfLog.{log_short}
use Rattle.text_judge_lines.proofs.LastConflicts.{inside}
use Rattle.text_judge_lines.proofs.Answers.{wrote_conflict}
use Rattle.text_judge_lines.proofs.put_named.Goals as goal

pub last_conflict-earlier-requires : goal.last_conflict-earlier-requires
last_conflict-earlier-requires c = c.requires.named

pub columns_at-first-requires : goal.columns_at-first-requires
columns_at-first-requires c =
    let l = c.last_conflict-earlier.ensures in
    omega (arith, l.index_is, l.last.before, inside _ _ c.requires.named.conflicting)

pub columns_at-second-requires : goal.columns_at-second-requires
columns_at-second-requires c = inside _ _ c.requires.named.conflicting

pub put_conflict-requires : goal.put_conflict-requires
put_conflict-requires c =
    let l = c.last_conflict-earlier.ensures in
    let h = inside _ _ c.requires.named.conflicting in
    let few = log_short _ c.requires.named.passed in
    record {
      few_earlier = omega (arith, l.index_is, l.last.before, h, few);
      few_later = omega (arith, h, few);
      earlier = c.columns_at-first.ensures.narrow;
      later = c.columns_at-second.ensures.narrow;
      room = omega (arith, c.requires.room);
    }

pub returns : goal.returns
returns c =
    let w = c.columns_at-first in
    let x = c.columns_at-second in
    let l = c.last_conflict-earlier in
    wrote_conflict c.args.log.now
    c.args.later l.result w.result x.result l.ensures
    w.ensures x.ensures c.put_conflict.ensures
