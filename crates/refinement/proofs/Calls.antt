-- A step of a call's list: at a term of the list its expression is wanted, and at the end the call is ready. Assumes nothing.
use Prim.Native.Nat.{ℕ, suc, ◌%◌, ◌≤◌, ◌<◌}
use native.Mathlib.Omega.{arith}
use mathlib.Core.Path.{◌≡◌, refl, sym, ap, ◌∙◌, subst}
use mathlib.Core.List.{List}
use lib.ListN.{length}
use Rattle.plan_packed.specs.Format.{procedures, terms, root, expression, tag_at}
use Rattle.plan_packed.specs.Trees.{node_at}
use Rattle.plan_packed.proofs.Accepted.{OfSort, Accepted}
use Rattle.machine.specs.Inner.Frames.{closure}
use Rattle.machine.specs.Inner.Frames as frames
use Rattle.machine.specs.Inner.Playing as playing
use Rattle.machine.specs.Inner.Refocusing.{downᵃ}
use Rattle.machine.proofs.PlanTable.{ordered}
use Rattle.machine.proofs.CallLists.{list_left}
use Rattle.machine.proofs.Sorted.{Well}
use Rattle.run_frames.specs.declared.frame.Frame.{Frame}
use Rattle.run_frames.specs.Inner.RedexKinds.{RedexKind as redex}
use Rattle.plan_packed.specs.Inner.Operands.{first_of, second_of}
use Rattle.run_term_words.specs.Inner.Words.{word_at}
use Rattle.run_frames.specs.Inner.Frames.{rest_of}
use Rattle.run_frames.specs.Inner.Going.{ready_of, go_at}
use Rattle.run_refocusing_step.specs.Inner.Down.{root_at, list_by, list_of, wanted_of}
use Rattle.run_refocusing.specs.Inner.Refocusing.{Stack}
use Rattle.refinement.proofs.Meant.{WordsAndRoots, slots, closed, IsRest, IsExpression}
use Rattle.refinement.proofs.Words.{Rest, rest_at}
use Rattle.refinement.proofs.Descent.{list_more, list_end_lem}
use Rattle.refinement.proofs.Fuel.{left}
use Rattle.refinement.proofs.Feeding.{call_unlogged}
use Rattle.refinement.proofs.Operands.{Placed, Next, stays, want, child, less_one}

-- ---- the root of a procedure

root_is : {b ws rs : List ℕ} → Accepted b → WordsAndRoots b ws rs → (m : ℕ) → m < procedures b → root_at rs m ≡ root b m
unfolding root_at
root_is a loaded m l = let q : m % 32 ≡ m = omega (arith, a.few_procedures) in rw q (loaded.roots m l)

root_table : (b : List ℕ) (m : ℕ) → (playing.table_of b).root m ≡ root b m
unfolding playing.table_of
root_table b m = refl

root_fits : {b ws rs : List ℕ} → Accepted b → WordsAndRoots b ws rs → (m : ℕ) → m < procedures b → IsExpression b (root_at rs m)
root_fits {b} a loaded m l =
    let e = root_is a loaded m l in
    let u = a.each_procedure m l in
    (subst (λ (t : ℕ). t < terms b) (sym e) u.root_below, subst (λ (t : ℕ). OfSort expression (tag_at b t)) (sym e) u.root_sorted)

module _ {b ws rs : List ℕ} {k : Stack} {base : ℕ} {S : List frames.Frame} (c : Placed b ws rs k base S) {n : ℕ} {X : frames.Found} where
  list_by_lem : (f : Frame) → Well S → f.member < procedures b → IsRest b f.count f.first
      → X ≡ downᵃ (node_at b) (terms b) S f.member f.count (slots f.arguments) (closed f.first f.environment)
      → left f.first ≤ suc n → Rest b f.first (word_at ws f.first) → Next b ws k base n X (wanted_of ws (list_of ws rs f) (length S))
  unfolding list_of list_by
  list_by_lem f w l s e m (Rest.more p q r z) =
      let i = first_of (word_at ws f.first) in
      let j = second_of (word_at ws f.first) in
      let u = list_left (node_at b) (terms b) (ordered b c.right) f.first i j q in
      rw p
      (want c (rest_of f j) i (record {
        first_fits = omega arith;
        second_fits = omega arith;
        member_fits = omega (arith, c.right.few_procedures);
        count_fits = omega (arith, s.2);
        sorted = (l, (z.below, z.sorted, omega (arith, s.2)));
      }) w (child r) (e ∙ list_more (ordered b c.right) S f.first (slots f.environment) f.member f.count (slots f.arguments) q)
      (less_one c.right m r) (less_one c.right m z))
  list_by_lem f w l s e m (Rest.end p q) =
      rw p
      (stays c (go_at (ready_of redex.Run (root_at rs f.member) 0 0 f.arguments)) (
        redex.Run,
        refl,
        (
          w,
          root_fits c.right c.loaded f.member l,
          (
            frames.Ready.call f.member f.count (slots f.arguments),
            e ∙ list_end_lem (ordered b c.right) S f.first (slots f.environment) f.member f.count (slots f.arguments) q,
            call_unlogged b f.member f.count (slots f.arguments) (closed (root_at rs f.member) f.arguments)
                (ap (λ (t : ℕ). closure t (slots f.arguments)) (root_table b f.member ∙ sym (root_is c.right c.loaded f.member l))),
          ),
        ),
      )
      (omega arith))

  pub list_step : (f : Frame) → Well S → f.member < procedures b → IsRest b f.count f.first
      → X ≡ downᵃ (node_at b) (terms b) S f.member f.count (slots f.arguments) (closed f.first f.environment)
      → left f.first ≤ suc n → Next b ws k base n X (wanted_of ws (list_of ws rs f) (length S))
  list_step f w l s e m = list_by_lem f w l s e m (rest_at b ws rs c.right c.loaded f.first s.0 s.1)
