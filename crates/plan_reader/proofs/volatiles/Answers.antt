-- `volatiles` meets its contract. Assumes nothing.
use native.Mathlib.Omega.{arith}
use mathlib.Core.Path.{sym, ◌∙◌}
use Rattle.plan_reader.proofs.Headings.{present, marked_none, marked_some}
use Rattle.plan_reader.proofs.volatiles.Goals as goal

pub returns-then-ahead-ne-VOLATILE : goal.returns-then-ahead-ne-VOLATILE
returns-then-ahead-ne-VOLATILE c = marked_none _ _ _ (λ e. c.if-ahead-ne-VOLATILE.true (c.ahead.ensures.0 ∙ e)) c.requires.0

pub fields-requires : goal.fields-requires
fields-requires c = (
  omega (
    arith,
    present c.args.tokens.now c.args.at c.ahead.result c.ahead.ensures.0 (omega (arith, c.if-ahead-ne-VOLATILE.false)),
  ),
  c.requires.1,
)

pub returns : goal.returns
returns c = marked_some _ _ _ _ (sym c.ahead.ensures.0 ∙ c.if-ahead-ne-VOLATILE.false) c.fields.ensures.0 c.fields.ensures.1
