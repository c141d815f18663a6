-- `put_next` meets its contract. Assumes nothing.
use native.Mathlib.Omega.{arith}
use Rattle.text.proofs.Added.{added_more}
use lib.ListN.{length-append}
use Rattle.plan_notation.specs.Tokens.{text_of}
use Rattle.plan_pen.specs.Inner.Pens.{gap_bytes}
use Rattle.plan_layout.proofs.Within.{within_exact, within_later}
use Rattle.plan_layout.proofs.put_next.Goals as goal

pub put_gap-next-requires : goal.put_gap-next-requires
put_gap-next-requires c = omega (arith, c.requires.token_bound.0, c.requires.token_bound.1)

pub put_token-requires : goal.put_token-requires
put_token-requires c =
    let w = c.put_gap-next.ensures in (
      c.requires.token_value.0,
      c.width-width.ensures,
      omega (arith, c.requires.token_bound.0, c.requires.token_bound.1, w.next, w.kept, c.width-width.ensures),
    )

pub returns-then-total-at-lt50 : goal.returns-then-total-at-lt50
returns-then-total-at-lt50 c =
    let w = added_more c.put_gap-next.ensures c.put_token.ensures in
    within_exact c.args.total (omega (arith, w.next, c.requires.token_bound.0, length-append (gap_bytes c.args.gap) (text_of c.args.token))) w

pub put_wide-requires : goal.put_wide-requires
put_wide-requires c = (
  c.requires.token_value.0,
  c.width-width.ensures,
  c.requires.token_value.1,
  omega (arith, c.requires.token_bound.1, c.requires.token_bound.0, c.if-total-at-lt50.false),
)

pub returns : goal.returns
returns c =
    within_later c.args.total (omega (arith, c.requires.token_bound.0, c.if-total-at-lt50.false)) c.put_wide.ensures
