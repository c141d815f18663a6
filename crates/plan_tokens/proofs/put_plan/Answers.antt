-- `put_plan` meets its contract. Assumes nothing.
use native.Mathlib.Omega.{arith}
use mathlib.Core.Path.{◌∙◌}
use Rattle.text.proofs.Added.{added_more, added_as}
use Rattle.plan_tokens.proofs.Parts.{some, sized, in_order, tree_same, root_inside, version_small, room_for_header, room_for_main, room_for_others}
use Rattle.plan_tokens.proofs.Parts.{main_wrote, whole_is}
use Rattle.plan_tokens.proofs.put_plan.Goals as goal

pub procedures-count-requires : goal.procedures-count-requires
procedures-count-requires c = let g = c.requires.given.0 in omega (arith, sized _ _ g)

pub root-root-requires : goal.root-root-requires
root-root-requires c = let g = c.requires.given.0 in (omega arith, omega (arith, sized _ _ g, some _ _ g))

pub put_header-main-requires : goal.put_header-main-requires
put_header-main-requires c =
    let g = c.requires.given.0 in
    (omega (arith, sized _ _ g), version_small _ _ g, room_for_header _ _ g _ c.requires.given.1)

pub write_expression-behind-requires : goal.write_expression-behind-requires
write_expression-behind-requires c =
    let g = c.requires.given.0 in
    let p = c.put_header-main.ensures in
    let q = c.root-root.ensures in record { ordered = (in_order _ _ g, rw q (root_inside _ _ g 0 (some _ _ g))); stack_size = omega (arith, c.requires.area_in_bounds, p.kept); root_in_bounds = rw q (rw (tree_same _ _ g 0) (rw p.kept (room_for_main _ _ g _ c.requires.given.1 _ p.next))) }

pub put_procedures-requires : goal.put_procedures-requires
put_procedures-requires c =
    let g = c.requires.given.0 in
    let p = c.put_header-main.ensures in
    let q = main_wrote _ _ g c.root-root.ensures c.write_expression-behind.ensures in record {
      given = (
        g,
        omega
            (arith, c.requires.area_in_bounds, p.kept, q.kept),
      );
      count_value = c.procedures-count.ensures;
      plan_in_bounds = rw (q.kept ∙ p.kept) (room_for_others _ _ g _ c.requires.given.1 _ _ p.next q.next);
    }

pub returns : goal.returns
returns c =
    let g = c.requires.given.0 in
    let q = main_wrote _ _ g c.root-root.ensures c.write_expression-behind.ensures in
    added_as (whole_is _ _ g) (added_more c.put_header-main.ensures (added_more q c.put_procedures.ensures))
