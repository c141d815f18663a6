-- `judge::pass::short` meets its contract. Assumes nothing.
use Rattle.judge.proofs.Answered.{answers_found, never_full}
use mathlib.Core.Logic.{inl}
use Rattle.judge.proofs.pass.short.Goals as goal

pub returns-then-count-le8 : goal.returns-then-count-le8
returns-then-count-le8 c =
    let p = c.requires in
    let f = c.by_rows-found.ensures in
    answers_found p.accepted f (never_full (inl c.if-count-le8.true) f) _ c.judgement.ensures

pub returns-then-count-le16 : goal.returns-then-count-le16
returns-then-count-le16 c =
    let p = c.requires in
    let f = c.by_rows-found-then-count-le16.ensures in
    answers_found p.accepted f (never_full (inl c.if-count-le16.true) f) _ c.judgement-then-count-le16.ensures

pub returns-then-count-le32 : goal.returns-then-count-le32
returns-then-count-le32 c =
    let p = c.requires in
    let f = c.by_rows-found-then-count-le32.ensures in
    answers_found p.accepted f (never_full (inl c.if-count-le32.true) f) _ c.judgement-then-count-le32.ensures

pub returns : goal.returns
returns c =
    let p = c.requires in
    let f = c.by_rows-found-2.ensures in
    answers_found p.accepted f (never_full (inl p.short) f) _ c.judgement-2.ensures
