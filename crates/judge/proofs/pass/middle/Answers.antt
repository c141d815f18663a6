-- `judge::pass::middle` meets its contract. Assumes nothing.
use Rattle.judge.proofs.Answered.{answers_found, never_full}
use mathlib.Core.Logic.{inl}
use Rattle.judge.proofs.pass.middle.Goals as goal

pub returns : goal.returns
returns c =
    let p = c.requires in
    let f = c.by_rows-found.ensures in
    answers_found p.accepted f (never_full (inl p.short) f) _ c.judgement.ensures
