-- `step` meets its contract, by the kind of the item on top. Assumes nothing.
use Prim.Native.Nat.{◌-◌}
use native.Mathlib.Omega.{arith}
use mathlib.Core.List.{[]}
use Rattle.plan_token_writer.proofs.Stepping.{of_token, room, within, written_step, new_item, new_some, row_item}
use borrow.Author.Rules.{rules}
use Rattle.plan_token_writer.proofs.step.Goals as goal

pub offset_bounds-stack-top : goal.offset_bounds-stack-top
offset_bounds-stack-top c = let p = c.requires in search (rules, within _ p.ordered [] _ _ _ p.some p.contexts _ p.room, p.size)

pub bounds-stack-top : goal.bounds-stack-top
bounds-stack-top c = let p = c.requires in omega (
  arith,
  p.some,
  within _ p.ordered [] _ _ _ p.some p.contexts _
      p.room,
  p.size,
)

pub overflow_cast-item : goal.overflow_cast-item
overflow_cast-item c = omega (arith, c.slice_known-3-1.given (c.args.standing.top - 1))

pub put_byte-at-requires : goal.put_byte-at-requires
put_byte-at-requires c =
    let p = c.requires in
    omega (arith, room _ p.ordered [] _ _ _ p.some p.contexts _ _ (of_token _ p.ordered _ c.if-item-ge-TOKEN.true) p.room)

pub returns-then-item-ge-TOKEN : goal.returns-then-item-ge-TOKEN
returns-then-item-ge-TOKEN c =
    let p = c.requires in
    written_step _ p.ordered _ _ _ _ p.some p.contexts _ _ _ (of_token _ p.ordered _ c.if-item-ge-TOKEN.true) (omega arith)
    c.put_byte-at.ensures

pub put_new-at-requires : goal.put_new-at-requires
put_new-at-requires c =
    let p = c.requires in
    room _ p.ordered [] _ _ _ p.some p.contexts _ _
    (new_item _ p.ordered _ _ _ _ c.if-item-ge-TOKEN.false c.tag-tag.ensures
    c.is_new.ensures c.if-is_new.true c.mask_of.ensures) p.room

pub returns-then-is_new : goal.returns-then-is_new
returns-then-is_new c =
    let p = c.requires in
    written_step _ p.ordered _ _ _ _ p.some p.contexts _ _ _
    (new_item _ p.ordered _ _ _ _ c.if-item-ge-TOKEN.false
    c.tag-tag.ensures c.is_new.ensures
    c.if-is_new.true c.mask_of.ensures)
    (new_some _) c.put_new-at.ensures

pub push_row-top-requires : goal.push_row-top-requires
push_row-top-requires c =
    let p = c.requires in (
      c.row_as.ensures.1,
      omega (arith, within _ p.ordered [] _ _ _ p.some p.contexts _ p.room, p.size),
    )

pub returns : goal.returns
returns c =
    let p = c.requires in
    row_item _ p.ordered _ _ _ _ p.some p.contexts _ _ _ _ c.if-item-ge-TOKEN.false
    c.tag-tag.ensures c.is_new.ensures
    c.if-is_new.false c.row_as.ensures.0
    c.row_as.ensures.1 _ c.push_row-top.ensures
