-- The trees of a plan that passes checks 1 to 6: the term of an expression heads its terms, as do those of a condition and of a list. Assumes nothing.
use Prim.Native.Nat.{ℕ, zero, suc, ◌+◌, ◌-◌, ◌^◌, ◌≤◌, ◌<◌}
use native.Mathlib.Decide.{dec_lt}
use native.Mathlib.Omega.{arith}
use mathlib.Core.Path.{◌≡◌, refl, sym, ◌∙◌}
use mathlib.Core.List.{List}
use mathlib.Core.Logic.{inl, inr}
use lib.ListN.{get_or}
use Rattle.format.proofs.BitLaws.{bits_below}
use Rattle.plan_packed.specs.Syntax.{Expression, Condition, Arguments}
use Rattle.plan_packed.specs.Format.{procedures, terms, root, expression, condition, list, table, layout, laid_out, term_at, tag_at}
use Rattle.plan_packed.specs.Trees.{nodes, node_at, binder_of, expression_of, condition_of, arguments_of, expression_at, condition_at, arguments_at, tree_at}
use Rattle.plan_packed.proofs.Accepted.{OfSort, Child, Fits, Readable}
use Rattle.plan_packed.proofs.Decoded.{Cases, done, ◌gives◌then◌, pick, Row, at_tag}
use Rattle.plan_written.specs.Terms.{TermTree, terms_of, terms_ofᶜ, terms_ofᵃ}
use Rattle.plan_written.proofs.Masks.{mask_back, slot_back}
use Rattle.plan_written.proofs.Heads.{Heads}

-- the mask of a new has 32 bits
pub mask_small : (b : List ℕ) (t : ℕ) → tag_at b t ≡ 2 → (term_at b t).value₁ < 2 ^ 32
unfolding term_at laid_out layout table
mask_small b t e = rw e (bits_below b _ 32)

module _ (b : List ℕ) (a : Readable b) where
  -- every term with at most n terms from it on heads the terms of its tree
  record AllHead (n : ℕ) : Type 0 where
    expression_heads : (t : ℕ) → t < terms b → terms b ≤ t + n → OfSort expression (tag_at b t) → Heads b t (terms_of (expression_at (node_at b) n t))
    condition_heads : (t : ℕ) → t < terms b → terms b ≤ t + n → OfSort condition (tag_at b t) → Heads b t (terms_ofᶜ (condition_at (node_at b) n t))
    list_heads : (t : ℕ) → t < terms b → terms b ≤ t + n → OfSort list (tag_at b t) → Heads b t (terms_ofᵃ (arguments_at (node_at b) n t))

  module _ (n : ℕ) (ih : AllHead n) (t : ℕ) (inside : t < terms b) (near : terms b ≤ t + suc n) where
    abbrev E : ℕ → Expression
    E i = expression_at (node_at b) n i

    abbrev C : ℕ → Condition
    C i = condition_at (node_at b) n i

    abbrev L : ℕ → Arguments
    L i = arguments_at (node_at b) n i

    heads : (i : ℕ) → Child b t expression i → Heads b i (terms_of (E i))
    heads i c = ih.expression_heads i c.below (let s = c.above in omega arith) c.sorted

    headsᶜ : (i : ℕ) → Child b t condition i → Heads b i (terms_ofᶜ (C i))
    headsᶜ i c = ih.condition_heads i c.below (let s = c.above in omega arith) c.sorted

    headsᵃ : (i : ℕ) → Child b t list i → Heads b i (terms_ofᵃ (L i))
    headsᵃ i c = ih.list_heads i c.below (let s = c.above in omega arith) c.sorted

    expressions : Cases (Row b t (λ m. Heads b t (terms_of (expression_of E C L m)))) 0 12
    unfolding nodes layout table expression_of terms_of
    expressions =
        0 gives (λ e p q r. (inside, e, (refl, p), (refl, q), (refl, r)))
        then 1 gives (λ e p q r. (inside, e, (refl, refl), (refl, q), (refl, r)))
        then 2 gives (λ e p q r. (inside, e, (refl, sym (mask_back _ (mask_small b t e))), (refl, q), (refl, r)))
        then 3 gives (λ e p q r. (inside, e, (refl, p.above, heads _ p), (refl, refl), (refl, r)))
        then 4 gives (λ e p q r. (inside, e, (refl, p.above, heads _ p), (refl, refl), (refl, r.above, heads _ r)))
        then 5 gives (λ e p q r. (inside, e, (refl, sym (slot_back _)), (refl, q.above, heads _ q), (refl, r.above, heads _ r)))
        then 6 gives (λ e p q r. (inside, e, (refl, p.above, headsᶜ _ p), (refl, q.above, heads _ q), (refl, r.above, heads _ r)))
        then 7 gives (λ e p q r. (inside, e, (refl, p.above, headsᶜ _ p), (refl, q.above, heads _ q), (refl, r)))
        then 8 gives (λ e p q r. (inside, e, (refl, refl), (refl, q.above, headsᵃ _ q), (refl, r)))
        then 9 gives (λ e p q r. (inside, e, (refl, p.above, heads _ p), (refl, q), (refl, r)))
        then 10 gives (λ e p q r. (inside, e, (refl, p.above, heads _ p), (refl, q), (refl, r)))
        then 11 gives (λ e p q r. (inside, e, (refl, p.above, heads _ p), (refl, q.above, heads _ q), (refl, r)))
        then done

    signals : Cases (Row b t (λ m. Heads b t (terms_of (expression_of E C L m)))) 18 3
    unfolding nodes layout table expression_of terms_of
    signals =
        18 gives (λ e p q r. (inside, e, (refl, p.above, heads _ p), (refl, q), (refl, r)))
        then 19 gives (λ e p q r. (inside, e, (refl, p.above, heads _ p), (refl, q), (refl, r)))
        then 20 gives (λ e p q r. (inside, e, (refl, p.above, heads _ p), (refl, q), (refl, r)))
        then done

    conditions : Cases (Row b t (λ m. Heads b t (terms_ofᶜ (condition_of E C m)))) 12 4
    unfolding nodes layout table condition_of terms_of
    conditions =
        12 gives (λ e p q r. (inside, e, (refl, p), (refl, q), (refl, r)))
        then 13 gives (λ e p q r. (inside, e, (refl, p.above, headsᶜ _ p), (refl, q), (refl, r)))
        then 14 gives (λ e p q r. (inside, e, (refl, p.above, headsᶜ _ p), (refl, q.above, headsᶜ _ q), (refl, r)))
        then 15 gives (λ e p q r. (inside, e, (refl, p.above, heads _ p), (refl, q.above, heads _ q), (refl, r)))
        then done

    lists : Cases (Row b t (λ m. Heads b t (terms_ofᵃ (arguments_of E L m)))) 16 2
    unfolding nodes layout table arguments_of terms_of
    lists =
        16 gives (λ e p q r. (inside, e, (refl, p.above, heads _ p), (refl, q.above, headsᵃ _ q), (refl, r)))
        then 17 gives (λ e p q r. (inside, e, (refl, p), (refl, q), (refl, r)))
        then done

    expression_here : OfSort expression (tag_at b t) → Heads b t (terms_of (expression_at (node_at b) (suc n) t))
    unfolding expression_at
    expression_here (inl s) =
        at_tag b t (λ m. Heads b t (terms_of (expression_of E C L m))) (a.each_term t inside) (pick expressions (tag_at b t) (omega arith) (omega arith))
    expression_here (inr s) =
        at_tag b t (λ m. Heads b t (terms_of (expression_of E C L m))) (a.each_term t inside) (pick signals (tag_at b t) s.0 (let h = s.1 in omega arith))

    condition_here : OfSort condition (tag_at b t) → Heads b t (terms_ofᶜ (condition_at (node_at b) (suc n) t))
    unfolding condition_at
    condition_here s = at_tag b t (λ m. Heads b t (terms_ofᶜ (condition_of E C m))) (a.each_term t inside)
        (pick conditions (tag_at b t) s.0 (let h = s.1 in omega arith))

    list_here : OfSort list (tag_at b t) → Heads b t (terms_ofᵃ (arguments_at (node_at b) (suc n) t))
    unfolding arguments_at
    list_here s = at_tag b t (λ m. Heads b t (terms_ofᵃ (arguments_of E L m))) (a.each_term t inside)
        (pick lists (tag_at b t) s.0 (let h = s.1 in omega arith))

  all_head : (n : ℕ) → AllHead n
  all_head zero = record {
    expression_heads = λ t h q s. absurd (omega arith);
    condition_heads = λ t h q s. absurd (omega arith);
    list_heads =
        λ t h q s. absurd (omega arith);
  }
  all_head (suc n) =
      let ih = all_head n in
      record { expression_heads = expression_here n ih; condition_heads = condition_here n ih; list_heads = list_here n ih }

  -- a root heads the terms of its procedure's tree
  pub root_heads : (p : ℕ) → p < procedures b → Heads b (root b p) (terms_of (tree_at b (root b p)))
  unfolding tree_at
  root_heads p h =
      let r = a.each_root p h in
      (all_head (terms b - root b p)).expression_heads (root b p) r.0 (enough (terms b) (root b p)) r.1
    where
      enough : (n t : ℕ) → n ≤ t + (n - t)
      enough n t = omega arith

  -- and every term some tree
  abbrev SomeTree : ℕ → Type 0
  SomeTree t = (e : TermTree) × Heads b t e

  pub any_heads : (t : ℕ) → t < terms b → SomeTree t
  any_heads t h =
      let all = all_head (terms b) in
      go (λ s. (terms_of (expression_at (node_at b) (terms b) t), all.expression_heads t h (omega arith) s))
      (λ s. (terms_ofᶜ (condition_at (node_at b) (terms b) t), all.condition_heads t h (omega arith) s))
      (λ s. (terms_ofᵃ (arguments_at (node_at b) (terms b) t), all.list_heads t h (omega arith) s))
      (dec_lt (tag_at b t) 12) (dec_lt (tag_at b t) 16) (dec_lt (tag_at b t) 18)
    where
      go : (OfSort expression (tag_at b t) → SomeTree t) → (OfSort condition (tag_at b t) → SomeTree t) → (OfSort list (tag_at b t) → SomeTree t)
          → Dec (tag_at b t < 12) → Dec (tag_at b t < 16) → Dec (tag_at b t < 18) → SomeTree t
      go e c l (yes d) f g = e (inl (omega arith))
      go e c l (no d) (yes f) g = c (omega (arith, d), omega arith)
      go e c l (no d) (no f) (yes g) = l (omega (arith, f), omega arith)
      go e c l (no d) (no f) (no g) = e (inr (omega (arith, g), (a.each_term t h).tag_small))
