-- `next_interleaving` meets its contract. Assumes nothing.
use mathlib.Core.Path.{refl}
use Rattle.std.specs.Prelude.{Ok}
use Rattle.std.proofs.lemmas.Result.{err_from_is_err_and}
use borrow.Author.Rules.{rules}
use borrow.Author.Tests.{not-true, not-false}
use Rattle.plan_packed.specs.Trees.{program_of}
use Rattle.listing.specs.Listed.{Listed}
use Rattle.listing_answers.proofs.Answers.{next_refused_lem, next_over_bound, next_not_listed, next_short}
use Rattle.interleavings.proofs.Answers.{given_plan_lem, given_picks, next_followed}
use Rattle.interleavings.proofs.next_interleaving.Goals as goal
use Rattle.interleavings.proofs.next_interleaving.Goals.{Else-not-listed}

listed_one : (c : Else-not-listed) → Listed (program_of c.args.plan.now) c.args.n c.args.schedule.now
listed_one c = c.listed.ensures.tells.0 (not-false _ c.if-not-listed.false-raw)

pub returns-then-n-gt64 : goal.returns-then-n-gt64
returns-then-n-gt64 c =
    let a = c.args in
    let x = c.in_ok-schedule_refusal.ensures in
    rw c.at.ensures (
    next_over_bound a.plan.now a.n a.schedule.now a.area.now (Ok tt) x.result_value refl c.if-n-gt64.true)

pub listed-requires : goal.listed-requires
listed-requires c =
    let a = c.args in
    let x = c.in_ok-schedule_refusal.ensures in
    record {
      accepted = given_plan_lem a.plan.now a.n a.schedule.now a.area.now (Ok tt) x.result_value refl _ x.loaded;
      of_eight = given_picks a.plan.now a.n a.schedule.now a.area.now (Ok tt) x.result_value refl;
      bound = c.if-n-gt64.false;
      room = c.if-n-gt64.false;
    }

pub returns-then-not-listed : goal.returns-then-not-listed
returns-then-not-listed c =
    let a = c.args in
    let x = c.in_ok-schedule_refusal.ensures in
    rw c.at-then-not-listed.ensures (
    next_not_listed a.plan.now a.n a.schedule.now a.area.now (Ok tt) x.result_value refl c.if-n-gt64.false
    (c.listed.ensures.tells.1 (not-true _ c.if-not-listed.true-raw)))

pub returns-then-area-n : goal.returns-then-area-n
returns-then-area-n c =
    let a = c.args in
    let x = c.in_ok-schedule_refusal.ensures in
    rw c.at-then-area-n.ensures (
    next_short a.plan.now a.n a.schedule.now a.area.now (Ok tt) x.result_value refl c.if-n-gt64.false
    (listed_one (goal.at.returns-then-area-n c).Else-not-listed) c.if-area-n.true)

pub following-requires : goal.following-requires
following-requires c =
    let a = c.args in
    let x = c.in_ok-schedule_refusal.ensures in
    record {
      accepted = given_plan_lem a.plan.now a.n a.schedule.now a.area.now (Ok tt) x.result_value refl _ x.loaded;
      bound = c.if-n-gt64.false;
      long = c.if-area-n.false;
      listed = listed_one (goal.at.following-requires c).Else-not-listed;
      noted = c.listed.ensures.noted (not-false _ c.if-not-listed.false-raw);
    }

pub returns-in_err-schedule_refusal : goal.returns-in_err-schedule_refusal
returns-in_err-schedule_refusal c =
    let p = err_from_is_err_and c.from_residual.result c.from_residual.ensures.1 in
    rw (p.1, p.2) (next_refused_lem c.args.plan.now c.args.n c.args.schedule.now c.args.area.now _ c.in_err-schedule_refusal.ensures.result_value _ refl)

pub returns : goal.returns
returns c =
    let f = c.following in
    let a = c.args in
    let x = c.in_ok-schedule_refusal.ensures in
    next_followed a.plan.now a.n a.schedule.now a.area.now (Ok tt) x.result_value refl c.if-n-gt64.false
    (listed_one (goal.at.returns c).Else-not-listed) c.if-area-n.false _ f.result f.ensures
