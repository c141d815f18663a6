-- `put_token` meets its contract: the part of a row that is the token's text. Assumes nothing.
use native.Mathlib.Omega.{arith}
use Rattle.text.proofs.Added.{added_as}
use Rattle.plan_notation.specs.Tokens.{text_of}
use Rattle.plan_notation.proofs.Widths.{few_bytes}
use Rattle.plan_layout.proofs.Within.{row_text}
use Rattle.plan_layout.proofs.put_token.Goals as goal

pub slice_bounds-put_word-end : goal.slice_bounds-put_word-end
slice_bounds-put_word-end c =
    let t = c.requires in omega (arith, t.1, few_bytes _ t.0)

pub returns : goal.returns
returns c =
    let t = c.requires in
    added_as (row_text (text_of c.args.token) _ _ c.row-row.ensures t.1) c.put_word.ensures
