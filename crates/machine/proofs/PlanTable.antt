-- The terms of an accepted plan: children come after parents, what is past the last term is null, and every slot that a procedure uses is bound; so
-- the plan's table is its program's. Assumes nothing.
use Prim.Native.Nat.{ℕ, ◌<◌}
use mathlib.Core.Path.{◌≡◌, refl, sym, ap, ◌∙◌, subst as along}
use mathlib.Core.Bool.{false≢true}
use mathlib.Core.List.{List}
use lib.Dec.{T, ltb}
use Rattle.plan_packed.specs.Syntax.{Procedure}
use Rattle.plan_packed.specs.Format.{procedures, terms, parameters, root, Operand, absent, slot, binder, mask, field_name, procedure, expression, condition}
use Rattle.plan_packed.specs.Format.{list}
use Rattle.plan_packed.specs.Format.{layout, tag_at}
use Rattle.plan_packed.specs.Trees.{node_at, tree_at, procedure_at, program_of}
use Rattle.plan_packed.specs.Slots.{closed}
use Rattle.plan_packed.specs.Inner.Steps.{Descending}
use Rattle.plan_packed.proofs.Accepted.{Fits, Accepted}
use Rattle.plan_packed.proofs.Decoded.{procedures_inside}
use Rattle.plan_packed.proofs.SingleTerm.{IfChild}
use Rattle.plan_packed.proofs.NodeOrder.{descending}
use Rattle.plan_packed.proofs.TreeLaws.{tree}
use Rattle.rules.specs.Rules.{is_volatile}
use Rattle.machine.specs.Inner.Playing.{table_of}
use Rattle.machine.proofs.StateMeaning.{Tabulates}

-- ---- a term's children come after it

fits_after : (b : List ℕ) (t : ℕ) (kind : Operand) (v : ℕ) → Fits b t kind v → IfChild (λ v. t < v) kind v
fits_after b t absent v h c = absurd (false≢true c)
fits_after b t slot v h c = absurd (false≢true c)
fits_after b t binder v h c = absurd (false≢true c)
fits_after b t mask v h c = absurd (false≢true c)
fits_after b t field_name v h c = absurd (false≢true c)
fits_after b t procedure v h c = absurd (false≢true c)
fits_after b t expression v h c = h.above
fits_after b t condition v h c = h.above
fits_after b t list v h c = h.above

-- ---- the plan

module _ (b : List ℕ) (a : Accepted b) where
  pub ordered : Descending (node_at b) (terms b)
  ordered = descending b a.length_right (λ t h.
      let m = a.each_term t h in
      let r = layout (tag_at b t) in
      (fits_after b t r.first _ m.first_fits, fits_after b t r.second _ m.second_fits, fits_after b t r.third _ m.third_fits))

  body_tree : (m : ℕ) → (procedure_at b m).body ≡ tree (node_at b) (terms b) (root b m)
  unfolding procedure_at tree_at tree
  body_tree m = refl

  body_bound : (m : ℕ) → m < procedures b → T (closed (λ x. ltb x (procedure_at b m).parameters) (procedure_at b m).body)
  unfolding procedure_at
  body_bound m h = along T (sym (a.each_procedure m h).all_bound) tt

  pub tabulates : Tabulates (table_of b) (program_of b)
  unfolding table_of is_volatile program_of
  tabulates = record {
    ordered = ordered;
    version_of = refl;
    volatiles = λ f. refl;
    bodies = λ m d h. ap (λ (d : Procedure). d.body) (procedures_inside b m d h).1 ∙ body_tree m;
    all_bound = λ m d h.
        let k = procedures_inside b m d h in along (λ (d : Procedure). T (closed (λ x. ltb x d.parameters) d.body)) (sym k.1) (body_bound m k.0);
  }
