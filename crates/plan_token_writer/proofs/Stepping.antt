-- The three kinds of steps: a token, a `new`, any other term. Assumes nothing.
use Prim.Native.Nat.{ℕ, ◌+◌, ◌-◌, ◌/◌, ◌%◌, ◌≤◌, ◌<◌}
use native.Mathlib.Omega.{arith}
use mathlib.Core.Path.{◌≡◌, refl, sym, ap, subst, ◌∙◌}
use mathlib.Core.Bool.{Bool, true, false, ◌&&◌, true≢false}
use mathlib.Core.List.{List, [], ◌∷◌, ◌++◌, append-nil}
use lib.Dec.{eqb, ltb}
use lib.ListN.{length, length-append, get_or}
use borrow.Author.Tests.{le-leb, lt-leb, lt-ltb, eqb-true, eq-eqb}
use Rattle.plan_packed.specs.Format.{table, layout}
use Rattle.plan_packed.specs.Inner.Operands.{tag_of, mask_bits}
use Rattle.plan_packed.specs.Trees.{nodes, node_of, expression_of}
use Rattle.plan_packed.specs.Inner.Steps.{Ordered, in_word, tree_in}
use Rattle.plan_packed.proofs.Walk.{expr_is}
use Rattle.text.specs.Inner.Wrote.{Wrote}
use Rattle.text.proofs.Added.{added_none}
use Rattle.plan_notation.specs.Shown.{shown}
use Rattle.plan_token_writer.specs.Inner.Items.{shown_as, item_tokens, tokens_in, row_as, row_items, new_tokens, is_new, stack_of, InContext, weight, Pushed, Stepped}
use Rattle.plan_token_writer.proofs.Fields.{new_length}
use Rattle.plan_token_writer.proofs.Later.{row_later}
use Rattle.plan_token_writer.proofs.RowTokens.{row_tokens}
use Rattle.plan_token_writer.proofs.ItemTokens.{tokens_append}
use Rattle.plan_token_writer.proofs.SomeTokens.{each_some}
use Rattle.plan_token_writer.proofs.Steps.{stack_length, top_item, written_less, expanded_less, row_some, contexts_more}

module _ (words : List ℕ) (o : Ordered words) where
  -- the tokens of an item by what it is
  pub of_token : (i : ℕ) → 16384 ≤ i → item_tokens words i ≡ i % 256 ∷ []
  unfolding item_tokens
  of_token i h = rw (le-leb 16384 i h)

  of_term : (i : ℕ) → i < 16384 → item_tokens words i ≡ shown_as words (i / 1024) (i % 1024)
  unfolding item_tokens
  of_term i h = rw (lt-leb 16384 i h)

  both : (a b : Bool) → (a && b) ≡ true → (a ≡ true) × (b ≡ true)
  both true b e = (refl, e)
  both false b e = absurd (true≢false (sym e))

  -- a `new`
  new_shown : (c t : ℕ) → is_new c (tag_of (get_or words t 0)) ≡ true → shown_as words c t ≡ new_tokens (mask_bits (get_or words t 0))
  unfolding is_new shown_as new_tokens node_of in_word layout table nodes expression_of shown
  new_shown c t e =
      let q = both (ltb c 4) (eqb (tag_of (get_or words t 0)) 2) e in rw q.0 (ap (shown c) (expr_is words o t 2 (eqb-true _ _ q.1)))

  pub of_new : (i : ℕ) → i < 16384 → is_new (i / 1024) (tag_of (get_or words (i % 1024) 0)) ≡ true
      → item_tokens words i ≡ new_tokens (mask_bits (get_or words (i % 1024) 0))
  of_new i h e = of_term i h ∙ new_shown (i / 1024) (i % 1024) e

  -- no `new`
  no_new : (c k : ℕ) → is_new c k ≡ false → c < 4 → k ≡ 2 → ⊥
  unfolding is_new
  no_new c k e h q = true≢false (sym (rw (lt-ltb c 4 h, eq-eqb k 2 q) refl) ∙ e)

  module _ (area : List ℕ) (at : ℕ) (stack : List ℕ) (top : ℕ) (h : 0 < top) (contexts : InContext (stack_of stack top)) where
    abbrev item : ℕ
    item = get_or stack (top - 1) 0

    abbrev under : List ℕ
    under = stack_of stack (top - 1)

    contexts_top : InContext (item ∷ under)
    contexts_top = subst InContext (top_item stack top h) contexts

    tokens_top : tokens_in words (stack_of stack top) ≡ item_tokens words item ++ tokens_in words under
    unfolding tokens_in
    tokens_top = ap (tokens_in words) (top_item stack top h)

    -- there is room for the item on top
    pub room : (n : ℕ) (ts : List ℕ) → item_tokens words item ≡ ts → at + length (tokens_in words (stack_of stack top)) ≤ n → at + length ts ≤ n
    room n ts e r = omega (arith, ap length tokens_top, length-append (item_tokens words item) (tokens_in words under), ap length e)

    -- no more items are on the stack than tokens are left
    pub within : (n : ℕ) → at + length (tokens_in words (stack_of stack top)) ≤ n → top ≤ n
    within n r = omega (arith, each_some words (stack_of stack top), stack_length stack top)

    -- it is written
    pub written_step : (area' ts : List ℕ) (r : ℕ) → item_tokens words item ≡ ts → 0 < length ts → Wrote area at ts area' r
        → Stepped words area at stack top area' stack (record { top = top - 1; at = r })
    written_step area' ts r e n v =
        record {
          tokens = ts;
          wrote = v;
          left = ap (λ (l : List ℕ). l ++ tokens_in words under) (sym e) ∙ sym tokens_top;
          contexts = contexts_top.1;
          kept = refl;
          less = subst (λ (is : List ℕ). weight words under < weight words is) (sym (top_item stack top h)) (written_less words item under (rw e n));
        }

    module _ (k : item < 16384) where
      abbrev term : ℕ
      term = item % 1024

      abbrev items : List ℕ
      items = row_items (item / 1024 % 4) (get_or words term 0) (row_as (item / 1024) (tag_of (get_or words term 0)))

      -- it gives way to them
      pub expanded_step : (stack' : List ℕ) (r : ℕ) → is_new (item / 1024) (tag_of (get_or words term 0)) ≡ false
          → row_as (item / 1024) (tag_of (get_or words term 0)) < 28
          → Pushed stack (top - 1) items stack' r → Stepped words area at stack top area stack' (record { top = r; at = at })
      expanded_step stack' r e n p =
          let ts = row_tokens words o term (item / 1024) (contexts_top.0 k) (no_new _ _ e) ∙ sym (of_term item k) in
          let later = row_later words o term (item / 1024 % 4) (item / 1024) in
          record {
            tokens = [];
            wrote = added_none area at;
            left = ap (tokens_in words) p.items ∙ tokens_append words items under ∙ ap (λ (l : List ℕ). l ++ tokens_in words under) ts ∙ sym tokens_top;
            contexts = subst InContext (sym p.items) (contexts_more term items under later contexts_top.1);
            kept = p.kept;
            less = subst (λ (is : List ℕ). weight words (stack_of stack' r) < weight words is) (sym (top_item stack top h))
                (subst (λ (is : List ℕ). weight words is < weight words (item ∷ under)) (sym p.items)
                (expanded_less words item items under k (row_some _ _ _ n) later ts));
          }

  -- ---- the whole

  pub start_context : (root : ℕ) → root < 1024 → InContext (root ∷ [])
  start_context root h = (λ k. omega arith, tt)

  pub start_tokens : (root : ℕ) → root < 1024 → tokens_in words (root ∷ []) ≡ shown 0 (tree_in words root)
  unfolding tokens_in shown_as
  start_tokens root h =
      append-nil (item_tokens words root) ∙ of_term root (omega arith) ∙ ap (λ (c : ℕ). shown_as words c (root % 1024)) (high root h)
      ∙ ap (λ (t : ℕ). shown 0 (tree_in words t)) (low root h)
    where
      high : (x : ℕ) → x < 1024 → x / 1024 ≡ 0
      high x h = omega arith

      low : (x : ℕ) → x < 1024 → x % 1024 ≡ x
      low x h = omega arith

-- ---- for the code

-- a word and its parts as the code has them
pub new_item : (words : List ℕ) → Ordered words → (i k m : ℕ) (b : Bool) → i < 16384 → k ≡ tag_of (get_or words (i % 1024) 0) → b ≡ is_new (i / 1024) k → b ≡ true
    → m ≡ mask_bits (get_or words (i % 1024) 0) → item_tokens words i ≡ new_tokens m
new_item words o i k m b h e f g q = of_new words o i h (ap (is_new (i / 1024)) (sym e) ∙ sym f ∙ g) ∙ ap new_tokens (sym q)

pub new_some : (m : ℕ) → 0 < length (new_tokens m)
new_some m = omega (arith, new_length m)

pub row_item : (words : List ℕ) → Ordered words → (area : List ℕ) (at : ℕ) (stack : List ℕ) (top : ℕ) → 0 < top → InContext (stack_of stack top)
    → (k r x : ℕ) (b : Bool)
    → get_or stack (top - 1) 0 < 16384 → k ≡ tag_of (get_or words (get_or stack (top - 1) 0 % 1024) 0) → b ≡ is_new (get_or stack (top - 1) 0 / 1024) k → b ≡ false
    → x ≡ row_as (get_or stack (top - 1) 0 / 1024) k → x < 28 → (stack' : List ℕ)
    → Pushed stack (top - 1) (row_items (get_or stack (top - 1) 0 / 1024 % 4) (get_or words (get_or stack (top - 1) 0 % 1024) 0) x) stack' r
    → Stepped words area at stack top area stack' (record { top = r; at = at })
row_item words o area at stack top h contexts k r x b l e f g q n stack' p =
    let w = get_or words (get_or stack (top - 1) 0 % 1024) 0 in
    let c = get_or stack (top - 1) 0 / 1024 in
    let y : x ≡ row_as c (tag_of w) = q ∙ ap (row_as c) e in
    expanded_step words o area at stack top h contexts l stack' r (ap (is_new c) (sym e) ∙ sym f ∙ g) (rw (sym y) n)
    (subst (λ (z : ℕ). Pushed stack (top - 1) (row_items (c % 4) w z) stack' r) y p)
