-- `push_row` meets its contract. Assumes nothing.
use native.Mathlib.Omega.{arith}
use Rattle.plan_token_writer.specs.Inner.Items.{row_number}
use Rattle.plan_token_writer.proofs.Operands.{few_items, items_length, in_parentheses, without}
use Rattle.plan_token_writer.proofs.Stack.{pushed_more, pushed_as}
use Rattle.plan_token_writer.proofs.push_row.Goals as goal

pub push_items-next-requires : goal.push_items-next-requires
push_items-next-requires c =
    let p = c.push-inside.ensures in
    (c.requires.0, omega (arith, c.requires.1, p.top, p.kept))

pub push-requires : goal.push-requires
push-requires c =
    let p = c.push-inside.ensures in
    let q = c.push_items-next.ensures in (
      omega (
        arith,
        c.requires.1,
        p.top,
        p.kept,
        q.top,
        q.kept,
        few_items _ c.requires.0,
        items_length c.args.word c.args.row 2 (row_number c.args.row 1),
      ),
      omega arith,
    )

pub returns-then-number-level : goal.returns-then-number-level
returns-then-number-level c =
    pushed_as (in_parentheses c.args.level c.args.word c.args.row
    (rw c.number.ensures.0 at
    c.if-number-level.true))
    (pushed_more (pushed_more c.push-inside.ensures
    c.push_items-next.ensures) c.push.ensures)

pub returns : goal.returns
returns c =
    pushed_as (without c.args.level c.args.word c.args.row
    (rw c.number.ensures.0 at c.if-number-level.false))
    c.push_items.ensures
