-- `header` meets its contract. Assumes nothing.
use native.Mathlib.Omega.{arith}
use mathlib.Core.Path.{sym, ◌∙◌}
use Rattle.plan_reader.proofs.Headings.{present, headed_without, headed_with, headed_wrong}
use Rattle.plan_reader.proofs.header.Goals as goal

pub volatiles-requires : goal.volatiles-requires
volatiles-requires c = (omega arith, c.requires.1)

pub returns-then-ahead-ne-VERSION : goal.returns-then-ahead-ne-VERSION
returns-then-ahead-ne-VERSION c = headed_without _ _ (λ e. c.if-ahead-ne-VERSION.true (c.ahead.ensures.0 ∙ e)) c.volatiles.ensures

pub returns-then-version-gt1 : goal.returns-then-version-gt1
returns-then-version-gt1 c =
    headed_wrong _ _ (sym c.ahead.ensures.0 ∙ c.if-ahead-ne-VERSION.false) c.ahead-version.ensures.0 c.if-version-gt1.true
    c.requires.0

pub volatiles-requires-2 : goal.volatiles-requires-2
volatiles-requires-2 c =
    (present c.args.tokens.now 1 c.ahead-version.result c.ahead-version.ensures.0 (omega (arith, c.if-version-gt1.false)), c.requires.1)

pub returns : goal.returns
returns c =
    headed_with _ _ _ (sym c.ahead.ensures.0 ∙ c.if-ahead-ne-VERSION.false)
    c.ahead-version.ensures.0 c.if-version-gt1.false c.volatiles-2.ensures
