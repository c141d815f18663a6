use Prim.Native.Nat.{ℕ, ◌+◌, ◌-◌}
use native.Mathlib.Omega.{arith}
use mathlib.Core.Path.{sym, ap, ◌∙◌}
use mathlib.Core.List.{[], ◌∷◌}
use Rattle.plan_token_writer.specs.Inner.Items.{item_of, row_number}
use Rattle.plan_token_writer.proofs.Operands.{few_items, items_back, items_none, items_whole, items_length}
use Rattle.plan_token_writer.proofs.Stack.{pushed_none, pushed_more, pushed_as}
use Rattle.plan_token_writer.proofs.push_items.Goals as goal

pub loop-left-init : goal.loop-left-init
loop-left-init c =
    let e = c.number-items.ensures.0 in
    (omega (arith, e), rw e (pushed_as (sym (items_none _ _ _)) (pushed_none _ _)))

pub number-number-requires : goal.number-number-requires
number-number-requires c = (c.requires.0, omega (arith, few_items _ c.requires.0, c.loop-left.invariant.0))

pub push-next-requires : goal.push-next-requires
push-next-requires c =
    let l = c.loop-left in
    let n = items_length c.args.word c.args.row (2 + l.left) (row_number c.args.row 1 - l.left) in
    (omega (arith, few_items _ c.requires.0, c.requires.1, l.invariant.0, l.invariant.1.top, l.invariant.1.kept, n), c.item.ensures.1)

pub loop-left-preserved : goal.loop-left-preserved
loop-left-preserved c =
    let l = c.loop-left.invariant in
    let x = c.item.ensures.0 ∙ ap (item_of _) c.number-number.ensures.0 in (
      omega (arith, l.0),
      pushed_as (items_back _ _ _ _ c.loop-left-test.true l.0)
          (pushed_more l.1 (pushed_as (ap (λ (y : ℕ). y ∷ []) x) c.push-next.ensures)),
    )

pub returns : goal.returns
returns c = let l = c.loop-left in pushed_as (items_whole _ _ l.left _ (omega arith)) l.invariant.1
