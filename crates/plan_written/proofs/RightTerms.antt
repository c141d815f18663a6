-- The terms of an expression that a plan can have: they pass checks 4 and 5 by themselves, and a term that heads them stands for the expression.
-- Assumes nothing.
use Prim.Native.Nat.{ℕ, suc, ◌+◌, ◌-◌, ◌^◌, ◌≤◌, ◌<◌}
use native.Mathlib.Nat.{mod-lt}
use native.Mathlib.Omega.{arith}
use mathlib.Core.Path.{◌≡◌, refl, sym, ap, ◌∙◌}
use mathlib.Core.Bool.{Bool, true, false, cond, ◌&&◌, ◌||◌, not}
use mathlib.Core.List.{List, [], ◌∷◌}
use mathlib.Core.Option.{Option, some, none}
use lib.Dec.{eqb, ltb}
use lib.ListN.{length, get_or}
use borrow.Author.Tests.{le-ltb, lt-leb, ne_eqb}
use Rattle.plan_packed.specs.Syntax.{Signal, Expression, Condition, Arguments}
use Rattle.plan_packed.specs.Format.{terms, mask_bit, fields_from, absent, field_name, expression, condition, list, table, layout, term_at, tag_at}
use Rattle.plan_packed.specs.Trees.{Node, nodes, node_at, binder_of, expression_of, condition_of, arguments_of, expression_at, condition_at, arguments_at}
use Rattle.plan_packed.specs.Refusals.{misplaced}
use Rattle.plan_packed.proofs.WellFormed.{count}
use Rattle.plan_packed.proofs.Children.{node_of_tag}
use Rattle.plan_packed.proofs.Decoded.{node_is}
use Rattle.plan_written.specs.Terms.{value, mask_of, slot_of, terms_of, terms_ofᶜ, terms_ofᵃ, value_at}
use Rattle.plan_written.proofs.Masks.{mask_from_lem}
use Rattle.plan_written.proofs.Heads.{Heads, length_of}
use Rattle.plan_written.proofs.RightTrees.{head_tag, RightTree, RightPart}
use Rattle.plan_written.proofs.Right.{Ascending, RightFields, RightSlot, RightField, Right, Rightᶜ, Rightᵃ}

-- ---- operands

slot_fits : (x : ℕ) → x < 8 → ltb 7 x ≡ false
slot_fits x h = le-ltb 7 x (omega arith)

binder_small : (x : Option ℕ) → RightSlot x → slot_of x < 16
unfolding slot_of
binder_small none r = omega arith
binder_small (some x) r = omega arith

binder_fits : (x : Option ℕ) → RightSlot x → (ltb 7 (slot_of x) && not (eqb (slot_of x) 15)) ≡ false
unfolding slot_of
binder_fits none r = refl
binder_fits (some x) r = rw (le-ltb 7 x (omega arith))

-- the mask of a new has 32 bits, and not that of field 0
fields_small : (fs : List ℕ) → RightFields fs → mask_of fs < 2 ^ 32
fields_small fs r = let e = ap mask_of (sym r.of_mask) ∙ mask_from_lem (mask_of fs) 0 32 (omega arith) in rw e (mod-lt (mask_of fs) (omega arith))

no_monitor : (fs : List ℕ) (m f n : ℕ) → fields_from m f (suc n) ≡ fs → Ascending f fs → eqb (mask_bit m f) 1 ≡ false
unfolding fields_from
no_monitor fs m f n e up = go (eqb (mask_bit m f) 1) fs e up
  where
    go : (x : Bool) (gs : List ℕ) → cond x (f ∷ fields_from m (suc f) n) (fields_from m (suc f) n) ≡ gs → Ascending f gs → x ≡ false
    go false gs q a = refl
    go true [] q a = absurd (let z : ◌≡◌ {A = ℕ} 0 1 = cc in omega arith)
    go true (g ∷ gs) q a = absurd (let z : f ≡ g = cc in let s = a.0 in omega arith)

fields_fit : (fs : List ℕ) → RightFields fs → (eqb (mask_bit (mask_of fs) 0) 1 || ltb 8 (length (fields_from (mask_of fs) 0 32))) ≡ false
fields_fit fs r = rw (no_monitor fs (mask_of fs) 0 31 r.of_mask r.ascending, r.of_mask, le-ltb 8 (length fs) r.few)

-- ---- sorts

pub expression_sorted : (e : Expression) → misplaced expression (head_tag (terms_of e)) ≡ false
unfolding terms_of
expression_sorted (Expression.literal o) = refl
expression_sorted (Expression.variable x) = refl
expression_sorted (Expression.new fs) = refl
expression_sorted (Expression.read e f) = refl
expression_sorted (Expression.write e f e') = refl
expression_sorted (Expression.let_in x e e') = refl
expression_sorted (Expression.if c e e') = refl
expression_sorted (Expression.while c e) = refl
expression_sorted (Expression.call m es) = refl
expression_sorted (Expression.fork e) = refl
expression_sorted (Expression.join e) = refl
expression_sorted (Expression.synch e e') = refl
expression_sorted (Expression.hold o e) = refl
expression_sorted (Expression.signal Signal.wait e) = refl
expression_sorted (Expression.signal Signal.notify e) = refl
expression_sorted (Expression.signal Signal.notify_all e) = refl
expression_sorted (Expression.waiting o) = refl

condition_sorted : (c : Condition) → misplaced condition (head_tag (terms_ofᶜ c)) ≡ false
unfolding terms_of
condition_sorted Condition.truth = refl
condition_sorted (Condition.not c) = refl
condition_sorted (Condition.and c c') = refl
condition_sorted (Condition.equal e e') = refl

list_sorted : (es : Arguments) → misplaced list (head_tag (terms_ofᵃ es)) ≡ false
unfolding terms_of
list_sorted Arguments.end = refl
list_sorted (Arguments.argument e es) = refl

-- a call's list has as many terms as it has arguments
list_counts : (es : Arguments) → length_of (terms_ofᵃ es) ≡ count es
unfolding terms_of length_of
list_counts Arguments.end = refl
list_counts (Arguments.argument e es) = ap suc (list_counts es)

-- ---- the trees are right

module _ (counts : List ℕ) where
  abbrev C : ℕ → ℕ
  C m = get_or counts m 0

  abbrev N : ℕ
  N = length counts

  -- a place without an operand
  none_there : RightPart N C absent (value 0)
  none_there = (refl, omega arith, λ n t. refl)

  field_there : (f : ℕ) → RightField f → RightPart N C field_name (value f)
  field_there f r = (refl, r.1, λ n t. ne_eqb f 0 (let h = r.0 in omega arith))

  mutual
    unfolding terms_of layout table length_of value_at

    pub right_terms : (e : Expression) → Right counts e → RightTree N C (terms_of e)
    right_terms (Expression.literal o) r = (omega arith, none_there, none_there, none_there, λ z. absurd (omega arith))
    right_terms (Expression.variable x) r = (omega arith, (refl, omega arith, λ n t. slot_fits x r), none_there, none_there, λ z. absurd (omega arith))
    right_terms (Expression.new fs) r = (omega arith, (refl, fields_small fs r, λ n t. fields_fit fs r), none_there, none_there, λ z. absurd (omega arith))
    right_terms (Expression.read e f) r =
        (omega arith, (refl, expression_sorted e, right_terms e r.0), field_there f r.1, none_there, λ z. absurd (omega arith))
    right_terms (Expression.write e f e') r = (
      omega arith,
      (refl, expression_sorted e, right_terms e r.0),
      field_there f r.1,
      (refl, expression_sorted e', right_terms e' r.2),
      λ z.
          absurd (omega arith),
    )
    right_terms (Expression.let_in x e e') r = (
      omega arith,
      (refl, binder_small x r.0, λ n t. binder_fits x r.0),
      (refl, expression_sorted e, right_terms e r.1),
      (refl, expression_sorted e', right_terms e' r.2),
      λ z. absurd (omega arith),
    )
    right_terms (Expression.if c e e') r = (
      omega arith,
      (refl, condition_sorted c, right_termsᶜ c r.0),
      (refl, expression_sorted e, right_terms e r.1),
      (refl, expression_sorted e', right_terms e' r.2),
      λ z. absurd (omega arith),
    )
    right_terms (Expression.while c e) r = (
      omega arith,
      (refl, condition_sorted c, right_termsᶜ c r.0),
      (refl, expression_sorted e, right_terms e r.1),
      none_there,
      λ z. absurd
          (omega arith),
    )
    right_terms (Expression.call m es) r = (
      omega arith,
      (refl, r.0.small, λ n t. lt-leb N m r.0.present),
      (refl, list_sorted es, right_termsᵃ es r.1),
      none_there,
      λ z. list_counts es
          ∙ r.0.each_parameter,
    )
    right_terms (Expression.fork e) r = (omega arith, (refl, expression_sorted e, right_terms e r), none_there, none_there, λ z. absurd (omega arith))
    right_terms (Expression.join e) r = (omega arith, (refl, expression_sorted e, right_terms e r), none_there, none_there, λ z. absurd (omega arith))
    right_terms (Expression.synch e e') r = (
      omega arith,
      (refl, expression_sorted e, right_terms e r.0),
      (refl, expression_sorted e', right_terms e' r.1),
      none_there,
      λ z. absurd
          (omega arith),
    )
    right_terms (Expression.hold o e) r = absurd r
    right_terms (Expression.signal Signal.wait e) r =
        (omega arith, (refl, expression_sorted e, right_terms e r), none_there, none_there, λ z. absurd (omega arith))
    right_terms (Expression.signal Signal.notify e) r =
        (omega arith, (refl, expression_sorted e, right_terms e r), none_there, none_there, λ z. absurd (omega arith))
    right_terms (Expression.signal Signal.notify_all e) r =
        (omega arith, (refl, expression_sorted e, right_terms e r), none_there, none_there, λ z. absurd (omega arith))
    right_terms (Expression.waiting o) r = absurd r

    right_termsᶜ : (c : Condition) → Rightᶜ counts c → RightTree N C (terms_ofᶜ c)
    right_termsᶜ Condition.truth r = (omega arith, none_there, none_there, none_there, λ z. absurd (omega arith))
    right_termsᶜ (Condition.not c) r = (omega arith, (refl, condition_sorted c, right_termsᶜ c r), none_there, none_there, λ z. absurd (omega arith))
    right_termsᶜ (Condition.and c c') r = (
      omega arith,
      (refl, condition_sorted c, right_termsᶜ c r.0),
      (refl, condition_sorted c', right_termsᶜ c' r.1),
      none_there,
      λ z. absurd
          (omega arith),
    )
    right_termsᶜ (Condition.equal e e') r = (
      omega arith,
      (refl, expression_sorted e, right_terms e r.0),
      (refl, expression_sorted e', right_terms e' r.1),
      none_there,
      λ z. absurd
          (omega arith),
    )

    right_termsᵃ : (es : Arguments) → Rightᵃ counts es → RightTree N C (terms_ofᵃ es)
    right_termsᵃ Arguments.end r = (omega arith, none_there, none_there, none_there, λ z. absurd (omega arith))
    right_termsᵃ (Arguments.argument e es) r =
        (omega arith, (refl, expression_sorted e, right_terms e r.0), (refl, list_sorted es, right_termsᵃ es r.1), none_there, λ z. absurd (omega arith))

-- ---- and what a term that heads them stands for

-- the slot of a let, from its number again
pub slot_again : (x : Option ℕ) → RightSlot x → binder_of (slot_of x) ≡ x
unfolding binder_of slot_of
slot_again none r = refl
slot_again (some x) r = rw (ne_eqb x 15 (λ z. omega arith))

module _ (b : List ℕ) (n : ℕ) where
  -- the trees below a term, where there are at most n terms from it on
  abbrev E : ℕ → Expression
  E i = expression_at (node_at b) (n - 1) i

  abbrev K : ℕ → Condition
  K i = condition_at (node_at b) (n - 1) i

  abbrev L : ℕ → Arguments
  L i = arguments_at (node_at b) (n - 1) i

  module _ (t k : ℕ) (inside : t < terms b) (near : terms b ≤ t + n) (tag : tag_at b t ≡ k) where
    -- by the tag's row
    abbrev row : Node
    row = node_of_tag k (term_at b t).value₁ (term_at b t).value₂ (term_at b t).value₃

    some_left : n ≡ suc (n - 1)
    some_left = omega arith

    by_row : expression_at (node_at b) n t ≡ expression_of E K L row
    unfolding expression_at
    by_row = ap (λ (m : ℕ). expression_at (node_at b) m t) some_left ∙ ap (expression_of E K L) (node_is b t k tag)

    by_rowᶜ : condition_at (node_at b) n t ≡ condition_of E K row
    unfolding condition_at
    by_rowᶜ = ap (λ (m : ℕ). condition_at (node_at b) m t) some_left ∙ ap (condition_of E K) (node_is b t k tag)

    by_rowᵃ : arguments_at (node_at b) n t ≡ arguments_of E L row
    unfolding arguments_at
    by_rowᵃ = ap (λ (m : ℕ). arguments_at (node_at b) m t) some_left ∙ ap (arguments_of E L) (node_is b t k tag)

-- a child has fewer terms from it on
closer : (b : List ℕ) (t n : ℕ) → terms b ≤ t + n → (v : ℕ) → t < v → terms b ≤ v + (n - 1)
closer b t n f v h = omega arith

module _ (b : List ℕ) (counts : List ℕ) where
  mutual
    unfolding terms_of layout table nodes expression_of condition_of arguments_of

    pub tree_back : (e : Expression) (t n : ℕ) → Right counts e → Heads b t (terms_of e) → terms b ≤ t + n → expression_at (node_at b) n t ≡ e
    tree_back (Expression.literal o) t n r h f = by_row b n t 0 h.0 f h.1 ∙ ap Expression.literal (sym r)
    tree_back (Expression.variable x) t n r h f = by_row b n t 1 h.0 f h.1 ∙ ap Expression.variable h.2.1
    tree_back (Expression.new fs) t n r h f =
        by_row b n t 2 h.0 f h.1 ∙ ap (λ (m : ℕ). Expression.new (fields_from m 0 32)) h.2.1 ∙ ap Expression.new r.of_mask
    tree_back (Expression.read e x) t n r h f =
        by_row b n t 3 h.0 f h.1
        ∙ rw (tree_back e _ (n - 1) r.0 h.2.2 (closer b t n f _ h.2.1), h.3.1)
    tree_back (Expression.write e x e') t n r h f =
        by_row b n t 4 h.0 f h.1
        ∙ rw (
          tree_back e _ (n - 1) r.0 h.2.2 (closer b t n f _ h.2.1),
          h.3.1,
          tree_back e' _ (n - 1) r.2 h.4.2
              (closer b t n f _ h.4.1),
        )
    tree_back (Expression.let_in x e e') t n r h f =
        by_row b n t 5 h.0 f h.1
        ∙ rw (
          h.2.1,
          slot_again x r.0,
          tree_back e _ (n - 1) r.1 h.3.2 (closer b t n f _ h.3.1),
          tree_back e' _ (n - 1) r.2 h.4.2
              (closer b t n f _ h.4.1),
        )
    tree_back (Expression.if c e e') t n r h f =
        by_row b n t 6 h.0 f h.1
        ∙ rw (
          tree_backᶜ c _ (n - 1) r.0 h.2.2 (closer b t n f _ h.2.1),
          tree_back e _ (n - 1) r.1 h.3.2 (closer b t n f _ h.3.1),
          tree_back e' _ (n - 1) r.2 h.4.2 (closer b t n f _ h.4.1),
        )
    tree_back (Expression.while c e) t n r h f =
        by_row b n t 7 h.0 f h.1
        ∙ rw (tree_backᶜ c _ (n - 1) r.0 h.2.2 (closer b t n f _ h.2.1), tree_back e _ (n - 1) r.1 h.3.2 (closer b t n f _ h.3.1))
    tree_back (Expression.call m es) t n r h f =
        by_row b n t 8 h.0 f h.1
        ∙ rw (h.2.1, tree_backᵃ es _ (n - 1) r.1 h.3.2 (closer b t n f _ h.3.1))
    tree_back (Expression.fork e) t n r h f =
        by_row b n t 9 h.0 f h.1
        ∙ rw (tree_back e _ (n - 1) r h.2.2 (closer b t n f _ h.2.1))
    tree_back (Expression.join e) t n r h f =
        by_row b n t 10 h.0 f h.1
        ∙ rw (tree_back e _ (n - 1) r h.2.2 (closer b t n f _ h.2.1))
    tree_back (Expression.synch e e') t n r h f =
        by_row b n t 11 h.0 f h.1
        ∙ rw (tree_back e _ (n - 1) r.0 h.2.2 (closer b t n f _ h.2.1), tree_back e' _ (n - 1) r.1 h.3.2 (closer b t n f _ h.3.1))
    tree_back (Expression.hold o e) t n r h f = absurd r
    tree_back (Expression.signal Signal.wait e) t n r h f =
        by_row b n t 18 h.0 f h.1
        ∙ rw (tree_back e _ (n - 1) r h.2.2 (closer b t n f _ h.2.1))
    tree_back (Expression.signal Signal.notify e) t n r h f =
        by_row b n t 19 h.0 f h.1
        ∙ rw (tree_back e _ (n - 1) r h.2.2 (closer b t n f _ h.2.1))
    tree_back (Expression.signal Signal.notify_all e) t n r h f =
        by_row b n t 20 h.0 f h.1
        ∙ rw (tree_back e _ (n - 1) r h.2.2 (closer b t n f _ h.2.1))
    tree_back (Expression.waiting o) t n r h f = absurd r

    tree_backᶜ : (c : Condition) (t n : ℕ) → Rightᶜ counts c → Heads b t (terms_ofᶜ c) → terms b ≤ t + n → condition_at (node_at b) n t ≡ c
    tree_backᶜ Condition.truth t n r h f = by_rowᶜ b n t 12 h.0 f h.1
    tree_backᶜ (Condition.not c) t n r h f =
        by_rowᶜ b n t 13 h.0 f h.1
        ∙ rw (tree_backᶜ c _ (n - 1) r h.2.2 (closer b t n f _ h.2.1))
    tree_backᶜ (Condition.and c c') t n r h f =
        by_rowᶜ b n t 14 h.0 f h.1
        ∙ rw (tree_backᶜ c _ (n - 1) r.0 h.2.2 (closer b t n f _ h.2.1), tree_backᶜ c' _ (n - 1) r.1 h.3.2 (closer b t n f _ h.3.1))
    tree_backᶜ (Condition.equal e e') t n r h f =
        by_rowᶜ b n t 15 h.0 f h.1
        ∙ rw (tree_back e _ (n - 1) r.0 h.2.2 (closer b t n f _ h.2.1), tree_back e' _ (n - 1) r.1 h.3.2 (closer b t n f _ h.3.1))

    tree_backᵃ : (es : Arguments) (t n : ℕ) → Rightᵃ counts es → Heads b t (terms_ofᵃ es) → terms b ≤ t + n → arguments_at (node_at b) n t ≡ es
    tree_backᵃ Arguments.end t n r h f = by_rowᵃ b n t 17 h.0 f h.1
    tree_backᵃ (Arguments.argument e es) t n r h f =
        by_rowᵃ b n t 16 h.0 f h.1
        ∙ rw (tree_back e _ (n - 1) r.0 h.2.2 (closer b t n f _ h.2.1), tree_backᵃ es _ (n - 1) r.1 h.3.2 (closer b t n f _ h.3.1))
