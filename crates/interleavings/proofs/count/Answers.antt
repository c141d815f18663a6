-- `count` meets its contract. Assumes nothing.
use native.Mathlib.Omega.{arith}
use mathlib.Core.List.{[]}
use mathlib.Core.Path.{refl}
use Rattle.std.specs.Prelude.{Ok}
use Rattle.std.proofs.lemmas.Result.{err_from_is_err_and}
use borrow.Author.Rules.{rules}
use Rattle.interleavings.proofs.Answers.{accepted_plan, first_begins, count_refused_lem, count_over_bound, count_none}
use Rattle.interleavings.proofs.Counting.{stands_first, count_answer}
use Rattle.interleavings.proofs.count.Goals as goal

pub returns-then-n-gt64 : goal.returns-then-n-gt64
returns-then-n-gt64 c =
    let a = c.args in
    let x = c.in_ok-load.ensures in
    rw c.at.ensures (
    count_over_bound a.plan.now a.n (Ok tt) x.result_value refl c.if-n-gt64.true)

pub go_on-first-requires : goal.go_on-first-requires
go_on-first-requires c =
    let a = c.args in
    let x = c.in_ok-load.ensures in
    let b = c.if-n-gt64.false in
    first_begins a.plan.now a.n _ (Ok tt) x.result_value refl _ x.loaded b b

pub count_on-requires : goal.count_on-requires
count_on-requires c =
    let a = c.args in
    let x = c.in_ok-load.ensures in
    stands_first a.plan.now _ a.n _ _ _
    (accepted_plan a.plan.now a.n [] (Ok tt) x.result_value refl _ x.loaded)
    c.if-n-gt64.false (omega arith)
    c.go_on-first.ensures

pub returns-in_err-load : goal.returns-in_err-load
returns-in_err-load c =
    let p = err_from_is_err_and c.from_residual.result c.from_residual.ensures.1 in
    rw (p.1, p.2) (count_refused_lem c.args.plan.now c.args.n _ c.in_err-load.ensures.result_value _ refl)

pub returns : goal.returns
returns c =
    let a = c.args in
    let x = c.in_ok-load.ensures in
    count_answer a.plan.now a.n a.limit
    (count_none a.plan.now a.n (Ok tt) x.result_value refl c.if-n-gt64.false)
    c.count_on.result c.count_on.ensures
