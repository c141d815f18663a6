-- Where every variable's slot is in its term's scope, the procedures' trees use no unbound slot. Assumes nothing.
use mathlib.Core.Path.{◌≡◌, refl, ap, sym, ◌∙◌}
use mathlib.Core.Bool.{Bool, true, false, ◌&&◌, ◌||◌, not, false≢true}
use mathlib.Core.List.{List}
use mathlib.Core.Option.{Option, some, none}
use Prim.Native.Nat.{ℕ, zero, suc, ◌+◌, ◌-◌, ◌/◌, ◌%◌, ◌^◌, ◌≤◌, ◌<◌}
use native.Mathlib.Nat.{div-eq_of_lt}
use native.Mathlib.Decide.{dec_lt}
use native.Mathlib.Omega.{arith}
use lib.Dec.{eqb, ltb}
use lib.ListN.{get_or}
use borrow.Author.Tests.{eqb-true}
use lib.Pow.{pow_mono, field, mod-mod-pow}
use Rattle.plan_packed.specs.Format.{parameters, root, layout, table}
use Rattle.plan_packed.specs.Refusals.{times_named, not_named_once, uses_unbound_slot}
use Rattle.plan_packed.specs.Slots.{bound, closed, closedᶜ, closedᵃ}
use Rattle.plan_packed.specs.Trees.{binder_of, nodes, node_of, expression_of, condition_of, arguments_of}
use Rattle.plan_packed.specs.Inner.Operands.{tag_of, slot_bits}
use Rattle.plan_packed.specs.Inner.Rows.{number_at}
use Rattle.plan_packed.specs.Inner.Steps.{Right, Loaded, Ordered, in_word, bit_of, slots, with_slot, tree_in, condition_in, list_in, all_times}
use Rattle.plan_packed.proofs.NodeOrder.{ordered, tree_is}
use Rattle.plan_packed.proofs.Shown.{root_below}
use Rattle.plan_packed.proofs.SingleTerm.{row_of}
use Rattle.plan_packed.proofs.SlotMasks.{bound_is, parameters_are}
use Rattle.plan_packed.proofs.Tags.{by_tag}
use Rattle.plan_packed.proofs.Walk.{expr_is, cond_is, list_is}
use Rattle.plan_scopes.specs.Inner.Scopes.{Handed, inner_scope, handed_by_row, Each, TermsScoped}
use Rattle.plan_scopes.proofs.Handing.{each_both}
use Rattle.plan_scopes.proofs.Terms.{handed_at, later}

-- ---- slots of a mask

-- these slots are bound
abbrev Binds : (ℕ → Bool) → ℕ → Type 0
Binds ρ m = (x : ℕ) → bit_of m x ≡ true → ρ x ≡ true

-- a bit of a byte of a number is a bit of the number
byte_bit : (m x : ℕ) → bit_of (m % 256) x ≡ true → bit_of m x ≡ true
byte_bit m x = go (dec_lt x 8)
  where
    go : Dec (x < 8) → bit_of (m % 256) x ≡ true → bit_of m x ≡ true
    go (yes h) e =
        let j = 7 - x in
        let k : (j + 1) + x ≡ 8 = omega arith in
        let q : m % 256 / 2 ^ x % 2 ≡ m / 2 ^ x % 2 =
        ap (λ (n : ℕ). m % 2 ^ n / 2 ^ x % 2) (sym k) ∙ ap (λ (y : ℕ). y % 2) (field m (j + 1) x) ∙ mod-mod-pow (m / 2 ^ x) j 1 in
        ap (λ (n : ℕ). eqb n 1) (sym q) ∙ e
    go (no h) e =
        let q : m % 256 / 2 ^ x ≡ 0 = div-eq_of_lt (let p = pow_mono {i = 8} {j = x} (omega (arith, h)) in omega arith) in
        absurd (false≢true (rw q at e))

-- what is bound in a let's second operand
bound_more : (o : Option ℕ) (ρ σ : ℕ → Bool) → ((x : ℕ) → σ x ≡ true → ρ x ≡ true) → (x : ℕ) → bound o σ x ≡ true → bound o ρ x ≡ true
unfolding bound
bound_more none ρ σ f x e = f x e
bound_more (some y) ρ σ f x e = go (eqb y x) e
  where
    go : (z : Bool) → (z || σ x) ≡ true → (z || ρ x) ≡ true
    go true q = refl
    go false q = f x q

binds_inner : (ρ : ℕ → Bool) (m x : ℕ) → Binds ρ m → Binds (bound (binder_of x) ρ) (with_slot m x % 256)
unfolding slots
binds_inner ρ m x f y e =
    bound_more (binder_of x) ρ (slots m) f y (sym (ap (λ (g : ℕ → Bool). g y) (bound_is m x)) ∙ byte_bit (with_slot m x) y e)

is_true_lem : (x : Bool) → not x ≡ false → x ≡ true
is_true_lem true h = refl
is_true_lem false h = sym h

both : {x y : Bool} → x ≡ true → y ≡ true → (x && y) ≡ true
both p q = rw (p, q)

-- ---- the trees

-- whatever binds the slots of its scope closes the trees of term t
abbrev Closes : List ℕ → List ℕ → ℕ → Type 0
Closes ws s t = (ρ : ℕ → Bool) → Binds ρ (get_or s t 0)
    → (closed ρ (tree_in ws t) ≡ true) × (closedᶜ ρ (condition_in ws t) ≡ true) × (closedᵃ ρ (list_in ws t) ≡ true)

-- a child of term t comes after it, and has what it is handed
abbrev Given : List ℕ → ℕ → Handed → Type 0
Given s t c = (t < c.index) × (get_or s c.index 0 ≡ c.scope)

-- term t is no variable, or its slot is in its scope
abbrev pub Seen : List ℕ → List ℕ → ℕ → Type 0
Seen ws s t = tag_of (get_or ws t 0) ≡ 1 → bit_of (get_or s t 0) (slot_bits (get_or ws t 0)) ≡ true

module _ (ws : List ℕ) (s : List ℕ) (o : Ordered ws) where
  module _ (t : ℕ) (ih : (c : ℕ) → t < c → Closes ws s c) (seen : Seen ws s t) where
    abbrev w : ℕ
    w = get_or ws t 0

    abbrev m : ℕ
    m = get_or s t 0

    -- the trees of a child that has this scope
    module _ (ρ : ℕ → Bool) (n : ℕ) (f : Binds ρ n) where
      of : (c : ℕ) → (t < c) × (get_or s c 0 ≡ n) → (closed ρ (tree_in ws c) ≡ true) × (closedᶜ ρ (condition_in ws c) ≡ true) × (closedᵃ ρ (list_in ws c) ≡ true)
      of c g = ih c g.0 ρ (rw g.1 f)

    abbrev ByTag : ℕ → Type 0
    ByTag k = (k ≡ 1 → bit_of m (slot_bits w) ≡ true) → Each (Given s t) (handed_by_row m w k) → (ρ : ℕ → Bool) → Binds ρ m
        → (closed ρ (expression_of (tree_in ws) (condition_in ws) (list_in ws) (row_of k w)) ≡ true)
        × (closedᶜ ρ (condition_of (tree_in ws) (condition_in ws) (row_of k w)) ≡ true)
        × (closedᵃ ρ (arguments_of (tree_in ws) (list_in ws) (row_of k w)) ≡ true)

    each_tag : (k : ℕ) → ByTag k
    unfolding handed_by_row inner_scope number_at node_of in_word layout table nodes expression_of condition_of arguments_of closed
    each_tag =
        by_tag ByTag
        (λ v g ρ f. (refl, refl, refl))
        (λ v g ρ f. (f _ (v refl), refl, refl))
        (λ v g ρ f. (refl, refl, refl))
        (λ v g ρ f. ((of ρ m f _ g.0).0, refl, refl))
        (λ v g ρ f. (both (of ρ m f _ g.0).0 (of ρ m f _ g.1.0).0, refl, refl))
        (λ v g ρ f. (both (of ρ m f _ g.0).0 (of (bound (binder_of (slot_bits w)) ρ) _ (binds_inner ρ m (slot_bits w) f) _ g.1.0).0, refl, refl))
        (λ v g ρ f. (both (both (of ρ m f _ g.0).1 (of ρ m f _ g.1.0).0) (of ρ m f _ g.1.1.0).0, refl, refl))
        (λ v g ρ f. (both (of ρ m f _ g.0).1 (of ρ m f _ g.1.0).0, refl, refl))
        (λ v g ρ f. ((of ρ m f _ g.0).2, refl, refl))
        (λ v g ρ f. ((of ρ m f _ g.0).0, refl, refl))
        (λ v g ρ f. ((of ρ m f _ g.0).0, refl, refl))
        (λ v g ρ f. (both (of ρ m f _ g.0).0 (of ρ m f _ g.1.0).0, refl, refl))
        (λ v g ρ f. (refl, refl, refl))
        (λ v g ρ f. (refl, (of ρ m f _ g.0).1, refl))
        (λ v g ρ f. (refl, both (of ρ m f _ g.0).1 (of ρ m f _ g.1.0).1, refl))
        (λ v g ρ f. (refl, both (of ρ m f _ g.0).0 (of ρ m f _ g.1.0).0, refl))
        (λ v g ρ f. (refl, refl, both (of ρ m f _ g.0).0 (of ρ m f _ g.1.0).2))
        (λ v g ρ f. (refl, refl, refl))
        (λ v g ρ f. ((of ρ m f _ g.0).0, refl, refl))
        (λ v g ρ f. ((of ρ m f _ g.0).0, refl, refl))
        (λ v g ρ f. ((of ρ m f _ g.0).0, refl, refl))
        (λ j v g ρ f. (refl, refl, refl))

    step : Each (Given s t) (handed_by_row m w (tag_of w)) → Closes ws s t
    step g ρ f =
        let a = each_tag (tag_of w) seen g ρ f in (
          ap (closed ρ) (expr_is ws o t (tag_of w) refl) ∙ a.0,
          ap (closedᶜ ρ) (cond_is ws o t (tag_of w) refl) ∙ a.1,
          ap (closedᵃ ρ) (list_is ws o t (tag_of w) refl) ∙ a.2,
        )

  -- past the terms there are nulls
  past : (t : ℕ) → get_or ws t 0 ≡ 0 → Closes ws s t
  unfolding node_of in_word layout table nodes expression_of condition_of arguments_of closed
  past t e ρ f =
      let k : tag_of (get_or ws t 0) ≡ 0 = rw e in
      (ap (closed ρ) (expr_is ws o t 0 k), ap (closedᶜ ρ) (cond_is ws o t 0 k), ap (closedᵃ ρ) (list_is ws o t 0 k))

-- ---- the procedures

module _ (b : List ℕ) (procedures n : ℕ) (r : Right b procedures n) (ws : List ℕ) (l : Loaded b n ws) (s : List ℕ) (z : TermsScoped b n s)
    (once : (t : ℕ) → t < n → not_named_once b t ≡ false) (seen : (t : ℕ) → t < n → Seen ws s t) where
  o : Ordered ws
  o = ordered b procedures n r ws l

  named : (t : ℕ) → t < n → all_times b n t ≡ 1
  unfolding not_named_once times_named all_times
  named t h = rw r.headed.sized.terms_are (eqb-true (times_named b t) 1 (is_true_lem _ (once t h)))

  given : (t : ℕ) → t < n → Each (Given s t) (handed_by_row (get_or s t 0) (get_or ws t 0) (tag_of (get_or ws t 0)))
  given t h =
      rw (l.each t h)
      (each_both (handed_at b t (get_or s t 0)) (λ c f q. (q.0, f (named c.index q.1))) (z.children t h)
      (later b t (r.terms_right t h) procedures n r.headed (get_or s t 0)))

  at : (t : ℕ) → Dec (t < n) → ((c : ℕ) → t < c → Closes ws s c) → Closes ws s t
  at t (yes h) ih = step ws s o t ih (seen t h) (given t h)
  at t (no h) ih = past ws s o t (l.rest t (omega (arith, h)))

  all : (f t : ℕ) → n ≤ f + t → Closes ws s t
  all zero t h = past ws s o t (l.rest t (omega arith))
  all (suc f) t h = at t (dec_lt t n) (λ c q. all f c (omega arith))

  pub all_closed : (p : ℕ) → p < procedures → uses_unbound_slot b p ≡ false
  unfolding uses_unbound_slot slots
  all_closed p h =
      let t = root b p in
      let q = root_below b procedures n p r.headed h in
      let m : get_or s t 0 ≡ 2 ^ parameters b p - 1 = z.roots p (rw (← r.headed.sized.procedures_are) h) (named t q) in
      let f : Binds (λ x. ltb x (parameters b p)) (get_or s t 0) =
      rw m (λ x e. sym (ap (λ (g : ℕ → Bool). g x) (parameters_are (parameters b p))) ∙ e) in
      ap not (ap (closed _) (sym (tree_is b procedures n r ws l t)) ∙ (all n t (omega arith) _ f).0)
