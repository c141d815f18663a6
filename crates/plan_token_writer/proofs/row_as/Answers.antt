-- `row_as` meets its contract, by the context and the tag. Assumes nothing.
use native.Mathlib.Omega.{arith}
use borrow.Author.Tests.{lt-ltb, le-ltb, eq-eqb, ne_eqb}
use Rattle.plan_token_writer.specs.Inner.Items.{row_as}
use Rattle.plan_token_writer.proofs.row_as.Goals as goal

pub returns-then-tag-lt21 : goal.returns-then-tag-lt21
unfolding row_as
returns-then-tag-lt21 c = (rw (lt-ltb _ 4 c.if-context-lt4.true, lt-ltb _ 21 c.if-tag-lt21.true), omega arith)

pub returns-else-tag-lt21 : goal.returns-else-tag-lt21
unfolding row_as
returns-else-tag-lt21 c = (rw (lt-ltb _ 4 c.if-context-lt4.true, le-ltb _ 21 c.if-tag-lt21.false), omega arith)

pub returns-then-context-lt8 : goal.returns-then-context-lt8
unfolding row_as
returns-then-context-lt8 c = (rw (le-ltb _ 4 c.if-context-lt4.false, lt-ltb _ 8 c.if-context-lt8.true) c.condition_row.ensures.0, c.condition_row.ensures.1)

pub returns-then-tag-ne-LIST : goal.returns-then-tag-ne-LIST
unfolding row_as
returns-then-tag-ne-LIST c = (rw (le-ltb _ 4 c.if-context-lt4.false, le-ltb _ 8 c.if-context-lt8.false, ne_eqb _ 16 c.if-tag-ne-LIST.true), omega arith)

pub returns-then-context-eq8 : goal.returns-then-context-eq8
unfolding row_as
returns-then-context-eq8 c = (
  rw (
    le-ltb _ 4 c.if-context-lt4.false,
    le-ltb _ 8 c.if-context-lt8.false,
    eq-eqb _ 16 c.if-tag-ne-LIST.false,
    eq-eqb _ 8 c.if-context-eq8.true,
  ),
  omega arith,
)

pub returns-else-context-eq8 : goal.returns-else-context-eq8
unfolding row_as
returns-else-context-eq8 c = (
  rw (
    le-ltb _ 4 c.if-context-lt4.false,
    le-ltb _ 8 c.if-context-lt8.false,
    eq-eqb _ 16 c.if-tag-ne-LIST.false,
    ne_eqb _ 8 c.if-context-eq8.false,
  ),
  omega arith,
)
