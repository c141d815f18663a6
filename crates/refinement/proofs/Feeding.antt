-- What a frame does with the value of its operand: the code goes on where the machine does. Assumes nothing.
use Prim.Native.Nat.{ℕ, suc, ◌+◌, ◌%◌, ◌<◌}
use native.Mathlib.Omega.{arith}
use mathlib.Core.Path.{◌≡◌, refl, sym, ap, ◌∙◌, subst}
use mathlib.Core.Bool.{Bool, true, false, cond}
use mathlib.Core.List.{List, ◌∷◌}
use mathlib.Core.Option.{Option, none}
use lib.Dec.{eqb}
use Rattle.plan_packed.specs.Format.{terms}
use Rattle.plan_packed.specs.Trees.{binder_of, node_at}
use Rattle.rules.specs.Rules.{e_call, e_let, e_if}
use Rattle.rules.specs.Step.{equal_act}
use Rattle.machine.specs.Inner.Frames.{Slots, put_bound, Closure, closure, branches}
use Rattle.machine.specs.Inner.Frames as frames
use Rattle.machine.specs.Inner.Machine as machine
use Rattle.machine.specs.Inner.Playing as playing
use Rattle.machine.specs.Inner.Refocusing.{up_by, up, upᶜ, enter}
use Rattle.machine.proofs.Sorted.{Well, Wellᶜ}
use Rattle.run_frames.specs.declared.frame.Kind.{Kind}
use Rattle.run_frames.specs.declared.frame.Kind.TheVariants as kind
use Rattle.run_frames.specs.declared.frame.Frame.{Frame}
use Rattle.run_frames.specs.Inner.RedexKinds.{RedexKind as redex}
use Rattle.run_frames.specs.declared.refocusing.Refocusing.{Refocusing}
use Rattle.run_term_words.specs.Inner.Slots.{bind_of}
use Rattle.run_frames.specs.Inner.Frames.{second_frame}
use Rattle.run_frames.specs.Inner.Going.{ready_of, go_at, go_truth, same_of, feed_by, feed_of, feed_if_by, feed_if_of, feed_condition_by, feed_condition_of}
use Rattle.refinement.proofs.Meant.{slots, closed, frame_by, frame_of, SortedBy, Fine, Unlogged, Unloggedᶜ, Goes}
use Rattle.refinement.proofs.SlotLaws.{bound, let_bound}

module _ (b : List ℕ) where
  -- ---- moves that leave no record

  let_unlogged : (x : Option ℕ) (v : ℕ) (y : Closure) (z : Closure) → closure y.at (put_bound y.slots x v) ≡ z
      → Unlogged b (frames.Ready.let_in x v y) (frames.Result.run z)
  unfolding playing.no_room_before machine.act
  let_unlogged x v y z e = record {
    rule = e_let;
    needs_no_room = λ s. refl;
    acts = λ s p t. ap (λ (z : Closure). machine.does e_let none s (frames.Result.run z)) e;
  }

  if_unlogged : (t : Bool) (x : frames.Branches) → Unlogged b (frames.Ready.if t x) (frames.Result.run (closure (cond t x.first x.second) x.slots))
  unfolding playing.no_room_before machine.act
  if_unlogged t x = record { rule = e_if; needs_no_room = λ s. refl; acts = λ s p t. refl }

  pub call_unlogged : (m n : ℕ) (σ : Slots) (z : Closure) → closure ((playing.table_of b).root m) σ ≡ z
      → Unlogged b (frames.Ready.call m n σ) (frames.Result.run z)
  unfolding playing.no_room_before machine.act
  call_unlogged m n σ z e = record {
    rule = e_call;
    needs_no_room = λ s. refl;
    acts = λ s p t. ap (λ (z : Closure). machine.does e_call none s (frames.Result.run z)) e;
  }

  test_unlogged : (x : frames.Branches) → Unlogged b (frames.Ready.while_test false x) (frames.Result.value 0)
  unfolding playing.no_room_before machine.act
  test_unlogged x = record { rule = e_if; needs_no_room = λ s. refl; acts = λ s p t. refl }

  again_unlogged : (v : ℕ) (x : frames.Branches) → Unlogged b (frames.Ready.while_body v x) (frames.Result.while_again x)
  unfolding playing.no_room_before machine.act
  again_unlogged v x = record { rule = e_let; needs_no_room = λ s. refl; acts = λ s p t. refl }

  -- ---- the same of conditions

  equal_room : (s : machine.State) (t : Bool) → playing.no_room_before s (equal_act t).rule ≡ none
  unfolding playing.no_room_before equal_act
  equal_room s true = refl
  equal_room s false = refl

  same_one : (v w : ℕ) → eqb v w ≡ eqb (same_of v w) 1
  same_one v w = at (eqb v w)
    where
      at : (t : Bool) → t ≡ eqb (cond t 1 0) 1
      at true = refl
      at false = refl

  same_small : (v w : ℕ) → same_of v w < 2
  same_small v w = at (eqb v w)
    where
      at : (t : Bool) → cond t 1 0 < 2
      at true = omega arith
      at false = omega arith

  equal_unlogged : (S : List frames.Frame) (v w : ℕ) → Unloggedᶜ b S (frames.Readyᶜ.equal v w) (upᶜ (node_at b) (terms b) S (eqb (same_of v w) 1))
  unfolding machine.actᶜ playing.table_of
  equal_unlogged S v w = record { needs_no_room = λ s. equal_room s (eqb v w); acts = ap (upᶜ (node_at b) (terms b) S) (same_one v w) }

  and_unlogged : (S : List frames.Frame) (x : Closure) → Unloggedᶜ b S (frames.Readyᶜ.and false x) (upᶜ (node_at b) (terms b) S false)
  unfolding machine.actᶜ playing.table_of playing.no_room_before
  and_unlogged S x = record { needs_no_room = λ s. refl; acts = refl }

  not_unlogged : (S : List frames.Frame) → Unloggedᶜ b S frames.Readyᶜ.not_false (upᶜ (node_at b) (terms b) S true)
  unfolding machine.actᶜ playing.table_of playing.no_room_before
  not_unlogged S = record { needs_no_room = λ s. refl; acts = refl }

  -- ---- a value

  module _ (S : List frames.Frame) (X : frames.Found) where
    second_fine : (k : Kind) (f : Frame) (v : ℕ) → f.member < 32 → SortedBy b k (second_frame k f v) → Fine b (second_frame k f v)
    second_fine k f v l s = record { first_fits = omega arith; second_fits = omega arith; member_fits = l; count_fits = omega arith; sorted = s }

    feed_by_lem : (k : Kind) (f : Frame) (v : ℕ) → f.member < 32 → f.count < 16 → SortedBy b k f → v < 32 → Well (frame_by k f ∷ S)
        → X ≡ up (node_at b) (terms b) (frame_by k f ∷ S) v → Goes b (feed_by k f v) S X
    unfolding up up_by enter
    feed_by_lem kind.Read f v hm hn s l w e = (redex.Read, refl, (w, l, s, hm, e))
    feed_by_lem kind.Write1 f v hm hn s l w e = (second_fine kind.Write2 f v hm (s.0, l), w, s.1, e)
    feed_by_lem kind.Write2 f v hm hn s l w e = (redex.Write, refl, (w, s.1, s.0, hm, l, e))
    feed_by_lem kind.Call f v hm hn s l w e =
        let q : f.count % 16 + 1 ≡ suc f.count = omega arith in
        let r : f.count < 8 = omega (arith, s.1.2) in
        (w, refl, s.0, rw q s.1, rw (q, bound f.arguments f.count v r l) e)
    feed_by_lem kind.Let f v hm hn s l w e = (
      redex.Run,
      refl,
      (
        w,
        s.1,
        (
          frames.Ready.let_in (binder_of f.count) v (closed f.first f.environment),
          e,
          let_unlogged (binder_of f.count) v (closed f.first f.environment) (closed f.first (bind_of f.environment f.count v))
              (ap (λ (ρ : Slots). closure f.first ρ) (sym (let_bound f.environment f.count v s.0 l))),
        ),
      ),
    )
    feed_by_lem kind.Synch f v hm hn s l w e = (redex.Synch, refl, (w, l, s, e))
    feed_by_lem kind.Hold f v hm hn s l w e = (redex.Hold, refl, (w, s, l, e))
    feed_by_lem kind.Join f v hm hn s l w e = (redex.Join, refl, (w, l, e))
    feed_by_lem kind.Equal1 f v hm hn s l w e = (second_fine kind.Equal2 f v hm l, w, s, e)
    feed_by_lem kind.Equal2 f v hm hn s l w e =
        (redex.Truth, refl, (w, same_small f.arguments v, (frames.Readyᶜ.equal f.arguments v, e, equal_unlogged S f.arguments v)))
    feed_by_lem kind.If f v hm hn s l w e = absurd w
    feed_by_lem kind.And f v hm hn s l w e = absurd w
    feed_by_lem kind.Not f v hm hn s l w e = absurd w
    feed_by_lem kind.Test f v hm hn s l w e = absurd w
    feed_by_lem kind.Body f v hm hn s l w e = (
      redex.Again,
      refl,
      (
        w,
        s.0,
        s.1,
        (
          frames.Ready.while_body v (branches f.first f.second (slots f.environment)),
          e,
          again_unlogged v (branches f.first f.second (slots f.environment)),
        ),
      ),
    )
    feed_by_lem kind.Signal f v hm hn s l w e = (redex.Signal, refl, (w, l, e))

    -- an expression's value
    pub feed_goes : (f : Frame) (v : ℕ) → Fine b f → v < 32 → Well (frame_of f ∷ S) → X ≡ up (node_at b) (terms b) (frame_of f ∷ S) v → Goes b (feed_of f v) S X
    unfolding feed_of
    feed_goes f v n l w e = feed_by_lem f.kind f v n.member_fits n.count_fits n.sorted l w e

    -- ---- a condition's value

    choose_goes : (t : Bool) (g g' : Refocusing) → (t ≡ true → Goes b g S X) → (t ≡ false → Goes b g' S X) → Goes b (cond t g g') S X
    choose_goes true g g' p q = p refl
    choose_goes false g g' p q = q refl

    kind_if : (k : Kind) (f : Frame) (x : ℕ) → f.kind ≡ k → Goes b (feed_if_by k f x) S X → Goes b (feed_if_of f x) S X
    unfolding feed_if_of
    kind_if k f x e p = subst (λ (k : Kind). Goes b (feed_if_by k f x) S X) (sym e) p

    feed_condition_by_lem : (k : Kind) (f : Frame) (x : ℕ) → f.kind ≡ k → SortedBy b k f → x < 2 → Wellᶜ (frame_by k f ∷ S)
        → X ≡ upᶜ (node_at b) (terms b) (frame_by k f ∷ S) (eqb x 1) → Goes b (feed_condition_by k f x) S X
    unfolding upᶜ
    feed_condition_by_lem kind.Read f x q s l w e = absurd w
    feed_condition_by_lem kind.Write1 f x q s l w e = absurd w
    feed_condition_by_lem kind.Write2 f x q s l w e = absurd w
    feed_condition_by_lem kind.Call f x q s l w e = absurd w
    feed_condition_by_lem kind.Let f x q s l w e = absurd w
    feed_condition_by_lem kind.Synch f x q s l w e = absurd w
    feed_condition_by_lem kind.Hold f x q s l w e = absurd w
    feed_condition_by_lem kind.Join f x q s l w e = absurd w
    feed_condition_by_lem kind.Equal1 f x q s l w e = absurd w
    feed_condition_by_lem kind.Equal2 f x q s l w e = absurd w
    feed_condition_by_lem kind.If f x q s l w e =
        let y = branches f.first f.second (slots f.environment) in
        kind_if kind.If f x q
        (choose_goes (eqb x 1) (go_at (ready_of redex.Run f.first 0 0 f.environment)) (go_at (ready_of redex.Run f.second 0 0 f.environment))
        (λ t. (redex.Run, refl, (w, s.0, (frames.Ready.if true y, e ∙ ap (upᶜ (node_at b) (terms b) (frames.Frame.if y ∷ S)) t, if_unlogged true y))))
        (λ t. (redex.Run, refl, (w, s.1, (frames.Ready.if false y, e ∙ ap (upᶜ (node_at b) (terms b) (frames.Frame.if y ∷ S)) t, if_unlogged false y)))))
    feed_condition_by_lem kind.And f x q s l w e =
        let y = closed f.first f.environment in
        choose_goes (eqb x 1) (go_at (ready_of redex.RunCondition f.first 0 0 f.environment)) (go_at (ready_of redex.Truth 0 0 0 0))
        (λ t. (redex.RunCondition, refl, (w, s, e ∙ ap (upᶜ (node_at b) (terms b) (frames.Frame.and y ∷ S)) t)))
        (λ t. (
          redex.Truth,
          refl,
          (
            w,
            omega arith,
            (
              frames.Readyᶜ.and false y,
              e ∙ ap (upᶜ (node_at b) (terms b) (frames.Frame.and y ∷ S)) t,
              and_unlogged S
                  y,
            ),
          ),
        ))
    feed_condition_by_lem kind.Not f x q s l w e =
        choose_goes (eqb x 1) (go_truth 0) (go_at (ready_of redex.Truth 1 0 0 0))
        (λ t. (w, omega arith, e ∙ ap (upᶜ (node_at b) (terms b) (frames.Frame.not ∷ S)) t))
        (λ t. (redex.Truth, refl, (w, omega arith, (frames.Readyᶜ.not_false, e ∙ ap (upᶜ (node_at b) (terms b) (frames.Frame.not ∷ S)) t, not_unlogged S))))
    feed_condition_by_lem kind.Test f x q s l w e =
        let y = branches f.first f.second (slots f.environment) in
        kind_if kind.Test f x q
        (choose_goes (eqb x 1) (go_at (ready_of redex.Body f.first f.second 0 f.environment)) (go_at (ready_of redex.Val 0 0 0 0))
        (λ t. (redex.Body, refl, (w, s.0, s.1, e ∙ ap (upᶜ (node_at b) (terms b) (frames.Frame.while_test y ∷ S)) t)))
        (λ t. (
          redex.Val,
          refl,
          (w, refl, (frames.Ready.while_test false y, e ∙ ap (upᶜ (node_at b) (terms b) (frames.Frame.while_test y ∷ S)) t, test_unlogged y)),
        )))
    feed_condition_by_lem kind.Body f x q s l w e = absurd w
    feed_condition_by_lem kind.Signal f x q s l w e = absurd w

    pub feed_condition_goes : (f : Frame) (x : ℕ) → Fine b f → x < 2 → Wellᶜ (frame_of f ∷ S) → X ≡ upᶜ (node_at b) (terms b) (frame_of f ∷ S) (eqb x 1)
        → Goes b (feed_condition_of f x) S X
    unfolding feed_condition_of
    feed_condition_goes f x n l w e = feed_condition_by_lem f.kind f x refl n.sorted l w e
