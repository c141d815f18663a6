-- `put_procedure` meets its contract. Assumes nothing.
use Prim.Native.Nat.{ℕ}
use native.Mathlib.Omega.{arith}
use mathlib.Core.Path.{ap, ◌∙◌}
use Rattle.plan_packed.specs.Inner.Steps.{tree_in}
use Rattle.plan_notation.specs.Shown.{loose, shown}
use Rattle.text.proofs.Added.{added_more, added_as}
use Rattle.plan_tokens.specs.Inner.Begun.{procedure_head, procedure_alone}
use Rattle.plan_tokens.proofs.Parts.{few, sized, in_order, tree_same, root_inside, parameters_small, alone_length, head_length}
use Rattle.plan_tokens.proofs.put_procedure.Goals as goal

pub parameters-parameters-requires : goal.parameters-parameters-requires
parameters-parameters-requires c =
    let g = c.requires.given.0 in
    (omega (arith, few _ _ g, c.requires.procedure_bound.0), omega (arith, sized _ _ g, c.requires.procedure_bound.0))

pub put_head-next-requires : goal.put_head-next-requires
put_head-next-requires c =
    let g = c.requires.given.0 in record { at_in_bounds = omega (arith, c.requires.procedure_bound.1, alone_length c.args.plan.now c.args.procedure); procedure_bound = (omega (arith, few _ _ g, c.requires.procedure_bound.0), omega (arith, c.parameters-parameters.ensures, parameters_small _ _ g _ c.requires.procedure_bound.0)) }

pub root-root-requires : goal.root-root-requires
root-root-requires c =
    let g = c.requires.given.0 in
    (omega (arith, few _ _ g, c.requires.procedure_bound.0), omega (arith, sized _ _ g, c.requires.procedure_bound.0))

pub write_expression-requires : goal.write_expression-requires
write_expression-requires c =
    let g = c.requires.given.0 in
    let p = c.put_head-next.ensures in
    let q = c.root-root.ensures in record {
      ordered = (in_order _ _ g, rw q (root_inside _ _ g _ c.requires.procedure_bound.0));
      stack_size = omega (arith, c.requires.given.1, p.kept);
      root_in_bounds = rw q (rw (tree_same _ _ g _)
          (omega (
            arith,
            c.requires.procedure_bound.1,
            alone_length c.args.plan.now c.args.procedure,
            p.next,
            p.kept,
            head_length c.args.procedure c.parameters-parameters.result,
          )));
    }

pub returns : goal.returns
unfolding procedure_alone
returns c =
    let e = ap (λ (x : ℕ). shown loose (tree_in c.args.words.now x)) c.root-root.ensures
    ∙ ap (shown loose) (tree_same _ _ c.requires.given.0 _) in
    added_more (added_as (ap (procedure_head _)
    c.parameters-parameters.ensures)
    c.put_head-next.ensures)
    (added_as e c.write_expression.ensures)
