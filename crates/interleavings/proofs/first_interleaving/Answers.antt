-- `first_interleaving` meets its contract. Assumes nothing.
use mathlib.Core.Path.{refl}
use Rattle.std.specs.Prelude.{Ok}
use Rattle.std.proofs.lemmas.Result.{err_from_is_err_and}
use borrow.Author.Rules.{rules}
use Rattle.listing_answers.proofs.Answers.{first_refused_lem, first_over_bound, first_short}
use Rattle.interleavings.proofs.Answers.{first_begins, first_written}
use Rattle.interleavings.proofs.first_interleaving.Goals as goal

pub returns-then-n-gt64 : goal.returns-then-n-gt64
returns-then-n-gt64 c =
    let a = c.args in
    let x = c.in_ok-load.ensures in
    rw c.at.ensures (
    first_over_bound a.plan.now a.n a.area.now (Ok tt) x.result_value refl c.if-n-gt64.true)

pub returns-then-area-n : goal.returns-then-area-n
returns-then-area-n c =
    let a = c.args in
    let x = c.in_ok-load.ensures in
    rw c.at-then-area-n.ensures (
    first_short a.plan.now a.n a.area.now (Ok tt) x.result_value refl c.if-n-gt64.false c.if-area-n.true)

pub go_on-requires : goal.go_on-requires
go_on-requires c =
    let a = c.args in
    let x = c.in_ok-load.ensures in
    first_begins a.plan.now a.n a.area.now (Ok tt) x.result_value refl _ x.loaded c.if-n-gt64.false c.if-area-n.false

pub returns-in_err-load : goal.returns-in_err-load
returns-in_err-load c =
    let p = err_from_is_err_and c.from_residual.result c.from_residual.ensures.1 in
    rw (p.1, p.2) (first_refused_lem c.args.plan.now c.args.n c.args.area.now _ c.in_err-load.ensures.result_value _ refl)

pub returns : goal.returns
returns c =
    let f = c.go_on in
    let a = c.args in
    let x = c.in_ok-load.ensures in
    first_written a.plan.now a.n a.area.now (Ok tt) x.result_value refl c.if-n-gt64.false c.if-area-n.false _
    f.result f.ensures
