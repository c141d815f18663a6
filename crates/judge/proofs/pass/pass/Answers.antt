use Rattle.format.specs.Version.{version_of}
use Rattle.log_places.specs.Inner.Places.{numbers_of, given_of}
use Rattle.judge.specs.Inner.Found.{finds_nothing}
use Rattle.judge.proofs.Going.{going_start, none_named}
use Rattle.judge.proofs.Here.{Here, ready}
use Rattle.judge.proofs.Next.{next_by, found_by, full_by}
use native.Mathlib.Omega.{arith}
use mathlib.Core.Path.{refl, ap, ◌∙◌}
use Rattle.std.proofs.Common.{Ok}
use Rattle.judge.proofs.pass.pass.Goals as goal
use Rattle.judge.proofs.pass.pass.Goals.{After-step-arg-1}

here : (p : After-step-arg-1) → Here (version_of p.args.version) p.args.log.now p.args.places p.loop-index.index
    (numbers_of p.args.places p.loop-index.numbers)
    (given_of p.args.places p.loop-index.given) p.loop-index.table
here p = record { accepted_log = p.requires.accepted; below = omega arith; going = p.loop-index.invariant.2 }

pub loop-index-init : goal.loop-index-init
loop-index-init c = (
  refl,
  refl,
  going_start (version_of c.args.version) c.args.places _ _ c.requires.clear c.start.ensures c.args.log.now,
)

pub step-requires : goal.step-requires
step-requires c = ready (here c) _ c.loop-index.invariant.1 refl

pub returns-in_err-unordered : goal.returns-in_err-unordered
returns-in_err-unordered c =
    full_by (here (goal.at.returns-in_err-unordered c).After-step-arg-1) c.ordering-read.ensures c.ordering-write.ensures c.in_err-unordered.ensures
    refl c.from_residual.result c.from_residual.ensures.0

pub returns-then-unordered : goal.returns-then-unordered
returns-then-unordered c =
    found_by (here (goal.at.returns-then-unordered c).After-step-arg-1) c.ordering-read.ensures c.ordering-write.ensures c.in_ok-unordered.ensures
    (ap Ok c.if-unordered.true)

pub loop-index-preserved : goal.loop-index-preserved
loop-index-preserved c =
    let l = c.loop-index in (
      c.step.auto.table ∙ l.invariant.0,
      c.step.auto.numbers ∙ l.invariant.1,
      next_by (here (goal.at.loop-index-preserved c).After-step-arg-1) c.ordering-read.ensures c.ordering-write.ensures c.in_ok-unordered.ensures
          (ap Ok c.if-unordered.false),
    )

pub returns : goal.returns
returns c = finds_nothing (none_named c.loop-index.invariant.2 (omega arith))
