-- `agreement::play_and_judge` meets its contract: what `play` ensures of its answer and of the log area, and what the judge ensures of the area's first
-- bytes, which are the run's records. Assumes nothing.
use native.Mathlib.Omega.{arith}
use borrow.Author.Rules.{rules}
use Rattle.run_refusals.proofs.Passed.{inside}
use Rattle.play.proofs.Ran.{passes, few_records, within}
use Rattle.agreement.proofs.Entry.{agreed_on, refused_agreed}
use Rattle.agreement.proofs.play_and_judge.Goals as goal

-- the records are few
pub record_bytes-bytes-requires : goal.record_bytes-bytes-requires
record_bytes-bytes-requires c =
    let a = c.args in
    let p = c.play-played in
    few_records a.plan.now a.schedule.now a.log.now p.result p.ensures.answer c.in-Ok.is

-- the plan has its header
pub version-version-requires : goal.version-version-requires
version-version-requires c =
    let a = c.args in
    let p = c.play-played in
    let w = (inside a.plan.now (passes a.plan.now a.schedule.now a.log.now p.result p.ensures.answer c.in-Ok.is).plan_passes).long in
    omega arith

-- and the log area has room for them
pub judge_first-judgement-requires : goal.judge_first-judgement-requires
judge_first-judgement-requires c =
    let a = c.args in
    let p = c.play-played in
    let room = within a.plan.now a.schedule.now a.log.now p.result p.ensures.answer c.in-Ok.is p.new.log p.ensures.area in
    let b = c.record_bytes-bytes in
    room b.result (omega (arith, b.ensures))

-- a refused play
pub returns-in-Err-clause-agreed : goal.returns-in-Err-clause-agreed
returns-in-Err-clause-agreed c = refused_agreed _ _ c.play-played.result c.in-Err.refusal c.in-Err.is

-- a play that is not refused
pub returns-in-Ok-clause-agreed : goal.returns-in-Ok-clause-agreed
returns-in-Ok-clause-agreed c =
    let a = c.args in
    let p = c.play-played in
    let b = c.record_bytes-bytes in
    let v = c.version-version in
    agreed_on a.plan.now a.schedule.now a.log.now p.result p.ensures.answer c.in-Ok.is p.new.log p.ensures.area
    c.judge_first-judgement.result b.result b.ensures v.result v.ensures c.judge_first-judgement.ensures
