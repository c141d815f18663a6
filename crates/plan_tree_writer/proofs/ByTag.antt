-- The terms at a term of the array by its tag: their words, and their children, which come later. Assumes nothing.
use Prim.Native.Nat.{ℕ, ◌+◌, ◌*◌, ◌<◌}
use native.Mathlib.Decide.{ℕ_discrete}
use native.Mathlib.Omega.{arith}
use mathlib.Core.Path.{◌≡◌, refl, sym, ap, ◌∙◌}
use mathlib.Core.Logic.{⊎_elim}
use mathlib.Core.List.{List, [], ◌∷◌}
use lib.ListN.{get_or}
use types.Run.{OneOf}
use borrow.Author.Tests.{eq-eqb, ne_eqb}
use Rattle.format.proofs.Ranges.{NoneOf}
use Rattle.plan_packed.specs.Syntax.{Expression, Condition}
use Rattle.plan_packed.specs.Format.{table, layout}
use Rattle.plan_packed.specs.Inner.Operands as word
use Rattle.plan_packed.specs.Inner.Operands.{tag_of}
use Rattle.plan_packed.specs.Trees.{nodes, node_of, expression_of, condition_of, arguments_of}
use Rattle.plan_packed.specs.Inner.Steps.{Ordered, in_word, tree_in, condition_in, list_in}
use Rattle.plan_packed.proofs.Children.{list_ends}
use Rattle.plan_packed.proofs.SingleTerm.{row_of}
use Rattle.plan_packed.proofs.Tags.{except}
use Rattle.plan_packed.proofs.Walk.{expr_is, cond_is, list_is, row_below}
use Rattle.plan_written.specs.Terms.{TermTree, term, value, child, nothing, terms_of, terms_ofᶜ, terms_ofᵃ, word_of}
use Rattle.plan_written.proofs.Masks.{mask_back, slot_back}
use Rattle.plan_packing.specs.Inner.Words.{leaf_word, one_word, two_word}
use Rattle.plan_packing.proofs.PackedWords.{leaf_variable, leaf_new, leaf_null, one_read, one_other, two_write, two_let, two_other}
use Rattle.plan_tree_writer.specs.Inner.Left.{singles, pairs, pair_first, pair_second, expressions_in, conditions_in, lists_in}
use Rattle.plan_tree_writer.proofs.Shapes.{Leaf, One, Two, Three, is_leaf, is_first, is_second, is_first_second, is_first_third, is_second_third, is_all}
use Rattle.plan_tree_writer.proofs.Shapes.{leaf_as, one_as, two_as}

-- ---- terms whose operands are children alone

-- one
abbrev Single : ℕ → Type 0
Single k = (x : ℕ) → word_of k x 0 0 ≡ k * 34359738368 + x * 33554432

-- two
abbrev Double : ℕ → Type 0
Double k = (x y : ℕ) → word_of k x y 0 ≡ k * 34359738368 + x * 33554432 + y * 32768

fork_single : Single 9
unfolding word_of
fork_single x = omega arith

join_single : Single 10
unfolding word_of
join_single x = omega arith

not_single : Single 13
unfolding word_of
not_single x = omega arith

wait_single : Single 18
unfolding word_of
wait_single x = omega arith

notify_single : Single 19
unfolding word_of
notify_single x = omega arith

notify_all_single : Single 20
unfolding word_of
notify_all_single x = omega arith

while_double : Double 7
unfolding word_of
while_double x y = omega arith

synch_double : Double 11
unfolding word_of
synch_double x y = omega arith

and_double : Double 14
unfolding word_of
and_double x y = omega arith

equal_double : Double 15
unfolding word_of
equal_double x y = omega arith

list_double : Double 16
unfolding word_of
list_double x y = omega arith

-- ---- terms without operands

null_word_lem : word_of 0 0 0 0 ≡ 0
unfolding word_of
null_word_lem = refl

truth_word : word_of 12 0 0 0 ≡ 412316860416
unfolding word_of
truth_word = refl

end_word : word_of 17 0 0 0 ≡ 584115552256
unfolding word_of
end_word = refl

-- the tags of expressions with operands
abbrev inner : List ℕ
inner = 20 ∷ 19 ∷ 18 ∷ 11 ∷ 10 ∷ 9 ∷ 8 ∷ 7 ∷ 6 ∷ 5 ∷ 4 ∷ 3 ∷ 2 ∷ 1 ∷ []

no_inner : (k : ℕ) → NoneOf k (8 ∷ 7 ∷ 6 ∷ []) → NoneOf k pairs → NoneOf k singles → (k ≡ 1 → ⊥) → (k ≡ 2 → ⊥) → NoneOf k inner
no_inner k a b c d e = (
  (
    (
      (((((((((((tt, d), e), c.0.0.0.0.0.1), b.0.0.1), b.0.1), a.0.0.1), a.0.1), a.1), c.0.0.0.0.1), c.0.0.0.1), b.1),
      c.0.0.1,
    ),
    c.0.1,
  ),
  c.1,
)

-- ---- shapes with children that come later, in the array

pub record OneAt (T T₁ : ℕ → TermTree) (t x : ℕ) (v : ℕ → ℕ) : Type 0 where
  pub one_shape : One (T t) v (T₁ x)
  pub one_later : t < x
  pub one_inside : x < 1024

pub record TwoAt (T T₁ T₂ : ℕ → TermTree) (t x y : ℕ) (v : ℕ → ℕ → ℕ) : Type 0 where
  pub two_shape : Two (T t) v (T₁ x) (T₂ y)
  pub first_later : t < x
  pub first_inside : x < 1024
  pub second_later : t < y
  pub second_inside : y < 1024

pub record ThreeAt (T T₁ T₂ T₃ : ℕ → TermTree) (t x y z : ℕ) (v : ℕ → ℕ → ℕ → ℕ) : Type 0 where
  pub three_shape : Three (T t) v (T₁ x) (T₂ y) (T₃ z)
  pub laters : (t < x) × (t < y) × (t < z)
  pub insides : (x < 1024) × (y < 1024) × (z < 1024)

module _ (ws : List ℕ) (o : Ordered ws) (t : ℕ) where
  abbrev w : ℕ
  w = get_or ws t 0

  abbrev E : ℕ → TermTree
  E = expressions_in ws

  abbrev C : ℕ → TermTree
  C = conditions_in ws

  abbrev L : ℕ → TermTree
  L = lists_in ws

  -- ---- by the children's places

  single : (T T₁ : ℕ → TermTree) (k : ℕ) → tag_of w ≡ k → (k ≡ 3 → ⊥) → Single k → T t ≡ term k (child (T₁ (word.first_of w))) nothing nothing
      → t < word.first_of w
      → OneAt T T₁ t (word.first_of w) (one_word w)
  single T T₁ k e d q f h =
      record {
        one_shape = rw f (one_as (one_word w) (λ x. q x ∙ sym (one_other w x (λ z. d (sym e ∙ z)) ∙ ap (λ (i : ℕ). i * 34359738368 + x * 33554432) e))
            (is_first k (T₁ (word.first_of w)) 0 0));
        one_later = h;
        one_inside = omega arith;
      }

  double : (T T₁ T₂ : ℕ → TermTree) (k : ℕ) → tag_of w ≡ k → (k ≡ 4 → ⊥) → (k ≡ 5 → ⊥) → Double k
      → T t ≡ term k (child (T₁ (word.first_of w))) (child (T₂ (word.second_of w))) nothing
      → (t < word.first_of w) × (t < word.second_of w) → TwoAt T T₁ T₂ t (word.first_of w) (word.second_of w) (two_word w)
  double T T₁ T₂ k e d g q f h =
      record {
        two_shape = rw f
            (two_as (two_word w) (λ x y. q x y
            ∙ sym (two_other w x y (λ z. d (sym e ∙ z)) (λ z. g (sym e ∙ z)) ∙ ap (λ (i : ℕ). i * 34359738368 + x * 33554432 + y * 32768) e))
            (is_first_second k (T₁ (word.first_of w)) (T₂ (word.second_of w)) 0));
        first_later = h.0;
        first_inside = omega arith;
        second_later = h.1;
        second_inside = omega arith;
      }

  -- ---- expressions with one child

  fork_at : tag_of w ≡ 9 → OneAt E E t (word.first_of w) (one_word w)
  unfolding node_of in_word layout table nodes expression_of terms_of
  fork_at e = single E E 9 e (λ z. omega arith) fork_single (ap terms_of (expr_is ws o t 9 e)) (row_below ws o t 9 e)

  join_at : tag_of w ≡ 10 → OneAt E E t (word.first_of w) (one_word w)
  unfolding node_of in_word layout table nodes expression_of terms_of
  join_at e = single E E 10 e (λ z. omega arith) join_single (ap terms_of (expr_is ws o t 10 e)) (row_below ws o t 10 e)

  wait_at : tag_of w ≡ 18 → OneAt E E t (word.first_of w) (one_word w)
  unfolding node_of in_word layout table nodes expression_of terms_of
  wait_at e = single E E 18 e (λ z. omega arith) wait_single (ap terms_of (expr_is ws o t 18 e)) (row_below ws o t 18 e)

  notify_at : tag_of w ≡ 19 → OneAt E E t (word.first_of w) (one_word w)
  unfolding node_of in_word layout table nodes expression_of terms_of
  notify_at e = single E E 19 e (λ z. omega arith) notify_single (ap terms_of (expr_is ws o t 19 e)) (row_below ws o t 19 e)

  notify_all_at : tag_of w ≡ 20 → OneAt E E t (word.first_of w) (one_word w)
  unfolding node_of in_word layout table nodes expression_of terms_of
  notify_all_at e = single E E 20 e (λ z. omega arith) notify_all_single (ap terms_of (expr_is ws o t 20 e)) (row_below ws o t 20 e)

  read_is : tag_of w ≡ 3 → E t ≡ term 3 (child (E (word.first_of w))) (value (word.field_bits w)) nothing
  unfolding node_of in_word layout table nodes expression_of terms_of
  read_is e = ap terms_of (expr_is ws o t 3 e)

  read_below : tag_of w ≡ 3 → t < word.first_of w
  unfolding node_of in_word layout table nodes
  read_below e = row_below ws o t 3 e

  read_at : tag_of w ≡ 3 → OneAt E E t (word.first_of w) (one_word w)
  read_at e =
      record {
        one_shape = rw (read_is e) (one_as (one_word w) (λ x. sym (one_read w x e)) (is_first 3 (E (word.first_of w)) (word.field_bits w) 0));
        one_later = read_below e;
        one_inside = omega arith;
      }

  pub one_at : OneOf singles (tag_of w) → OneAt E E t (word.first_of w) (one_word w)
  one_at k = ⊎_elim notify_all_at (⊎_elim notify_at (⊎_elim wait_at (⊎_elim join_at (⊎_elim fork_at read_at)))) k

  -- ---- with two

  write_is : tag_of w ≡ 4 → E t ≡ term 4 (child (E (word.first_of w))) (value (word.field_bits w)) (child (E (word.write_second w)))
  unfolding node_of in_word layout table nodes expression_of terms_of
  write_is e = ap terms_of (expr_is ws o t 4 e)

  write_below : tag_of w ≡ 4 → (t < word.first_of w) × (t < word.write_second w)
  unfolding node_of in_word layout table nodes
  write_below e = row_below ws o t 4 e

  let_is : tag_of w ≡ 5 → E t ≡ term 5 (value (word.slot_bits w)) (child (E (word.let_first w))) (child (E (word.let_second w)))
  unfolding node_of in_word layout table nodes expression_of terms_of
  let_is e = ap terms_of (expr_is ws o t 5 e) ∙ ap (λ (m : ℕ). term 5 (value m) (child (E (word.let_first w))) (child (E (word.let_second w))))
      (slot_back (word.slot_bits w))

  let_below : tag_of w ≡ 5 → (t < word.let_first w) × (t < word.let_second w)
  unfolding node_of in_word layout table nodes
  let_below e = row_below ws o t 5 e

  abbrev PairAt : Type 0
  PairAt = TwoAt E E E t (pair_first w) (pair_second w) (two_word w)

  write_at : tag_of w ≡ 4 → PairAt
  write_at e =
      rw (ne_eqb (tag_of w) 5 (λ d. omega arith), eq-eqb (tag_of w) 4 e)
      record {
        two_shape = rw (write_is e)
            (two_as (two_word w) (λ x y. sym (two_write w x y e)) (is_first_third 4 (E (word.first_of w)) (word.field_bits w) (E (word.write_second w))));
        first_later = (write_below e).0;
        first_inside = omega arith;
        second_later = (write_below e).1;
        second_inside = omega arith;
      }

  let_at : tag_of w ≡ 5 → PairAt
  let_at e =
      rw (ne_eqb (tag_of w) 4 (λ d. omega arith), eq-eqb (tag_of w) 5 e)
      record {
        two_shape = rw (let_is e)
            (two_as (two_word w) (λ x y. sym (two_let w x y e)) (is_second_third 5 (word.slot_bits w) (E (word.let_first w)) (E (word.let_second w))));
        first_later = (let_below e).0;
        first_inside = omega arith;
        second_later = (let_below e).1;
        second_inside = omega arith;
      }

  synch_both : tag_of w ≡ 11 → TwoAt E E E t (word.first_of w) (word.second_of w) (two_word w)
  unfolding node_of in_word layout table nodes expression_of terms_of
  synch_both e = double E E E 11 e (λ z. omega arith) (λ z. omega arith) synch_double (ap terms_of (expr_is ws o t 11 e)) (row_below ws o t 11 e)

  synch_at : tag_of w ≡ 11 → PairAt
  synch_at e = rw (ne_eqb (tag_of w) 4 (λ d. omega arith), ne_eqb (tag_of w) 5 (λ d. omega arith)) (synch_both e)

  pub two_at : OneOf pairs (tag_of w) → PairAt
  two_at k = ⊎_elim synch_at (⊎_elim let_at write_at) k

  -- ---- an if, a while, a call

  if_is : tag_of w ≡ 6 → E t ≡ term 6 (child (C (word.first_of w))) (child (E (word.second_of w))) (child (E (word.third_of w)))
  unfolding node_of in_word layout table nodes expression_of terms_of
  if_is e = ap terms_of (expr_is ws o t 6 e)

  if_below : tag_of w ≡ 6 → (t < word.first_of w) × (t < word.second_of w) × (t < word.third_of w)
  unfolding node_of in_word layout table nodes
  if_below e = row_below ws o t 6 e

  pub if_at : tag_of w ≡ 6 → ThreeAt E C E E t (word.first_of w) (word.second_of w) (word.third_of w) (word_of 6)
  if_at e =
      record {
        three_shape = rw (if_is e) (is_all 6 (C (word.first_of w)) (E (word.second_of w)) (E (word.third_of w)));
        laters = if_below e;
        insides = (omega arith, omega arith, omega arith);
      }

  pub while_at : tag_of w ≡ 7 → TwoAt E C E t (word.first_of w) (word.second_of w) (two_word w)
  unfolding node_of in_word layout table nodes expression_of terms_of
  while_at e = double E C E 7 e (λ z. omega arith) (λ z. omega arith) while_double (ap terms_of (expr_is ws o t 7 e)) (row_below ws o t 7 e)

  call_is : tag_of w ≡ 8 → E t ≡ term 8 (value (word.procedure_bits w)) (child (L (word.list_bits w))) nothing
  unfolding node_of in_word layout table nodes expression_of terms_of
  call_is e = ap terms_of (expr_is ws o t 8 e)

  call_below : tag_of w ≡ 8 → t < word.list_bits w
  unfolding node_of in_word layout table nodes
  call_below e = row_below ws o t 8 e

  pub call_at : tag_of w ≡ 8 → OneAt E L t (word.list_bits w) (λ x. word_of 8 (word.procedure_bits w) x 0)
  call_at e =
      record {
        one_shape = rw (call_is e) (is_second 8 (word.procedure_bits w) (L (word.list_bits w)) 0);
        one_later = call_below e;
        one_inside = omega arith;
      }

  -- ---- conditions

  pub not_at : tag_of w ≡ 13 → OneAt C C t (word.first_of w) (one_word w)
  unfolding node_of in_word layout table nodes condition_of terms_of
  not_at e = single C C 13 e (λ z. omega arith) not_single (ap terms_ofᶜ (cond_is ws o t 13 e)) (row_below ws o t 13 e)

  pub and_at : tag_of w ≡ 14 → TwoAt C C C t (word.first_of w) (word.second_of w) (two_word w)
  unfolding node_of in_word layout table nodes condition_of terms_of
  and_at e = double C C C 14 e (λ z. omega arith) (λ z. omega arith) and_double (ap terms_ofᶜ (cond_is ws o t 14 e)) (row_below ws o t 14 e)

  pub equal_at : tag_of w ≡ 15 → TwoAt C E E t (word.first_of w) (word.second_of w) (two_word w)
  unfolding node_of in_word layout table nodes condition_of terms_of
  equal_at e = double C E E 15 e (λ z. omega arith) (λ z. omega arith) equal_double (ap terms_ofᶜ (cond_is ws o t 15 e)) (row_below ws o t 15 e)

  -- ---- lists

  pub list_at : tag_of w ≡ 16 → TwoAt L E L t (word.first_of w) (word.second_of w) (two_word w)
  unfolding node_of in_word layout table nodes arguments_of terms_of
  list_at e = double L E L 16 e (λ z. omega arith) (λ z. omega arith) list_double (ap terms_ofᵃ (list_is ws o t 16 e)) (row_below ws o t 16 e)

  -- ---- no child

  variable_is : tag_of w ≡ 1 → E t ≡ term 1 (value (word.slot_bits w)) nothing nothing
  unfolding node_of in_word layout table nodes expression_of terms_of
  variable_is e = ap terms_of (expr_is ws o t 1 e)

  new_is : tag_of w ≡ 2 → E t ≡ term 2 (value (word.mask_bits w)) nothing nothing
  unfolding node_of in_word layout table nodes expression_of terms_of
  new_is e = ap terms_of (expr_is ws o t 2 e) ∙ ap (λ (m : ℕ). term 2 (value m) nothing nothing) (mask_back (word.mask_bits w) (omega arith))

  null_tree : (k : ℕ) → NoneOf k inner → expression_of (tree_in ws) (condition_in ws) (list_in ws) (row_of k w) ≡ Expression.literal 0
  unfolding node_of in_word layout table nodes expression_of
  null_tree =
      except (λ k. expression_of (tree_in ws) (condition_in ws) (list_in ws) (row_of k w) ≡ Expression.literal 0) inner
      refl tt tt tt tt tt tt tt tt tt tt tt refl refl refl refl refl refl tt tt tt (λ j. refl)

  null_is : NoneOf (tag_of w) inner → E t ≡ term 0 nothing nothing nothing
  unfolding terms_of
  null_is n = ap terms_of (expr_is ws o t (tag_of w) refl ∙ null_tree (tag_of w) n)

  truth_tree : (k : ℕ) → NoneOf k (15 ∷ 14 ∷ 13 ∷ []) → condition_of (tree_in ws) (condition_in ws) (row_of k w) ≡ Condition.truth
  unfolding node_of in_word layout table nodes condition_of
  truth_tree =
      except (λ k. condition_of (tree_in ws) (condition_in ws) (row_of k w) ≡ Condition.truth) (15 ∷ 14 ∷ 13 ∷ [])
      refl refl refl refl refl refl refl refl refl refl refl refl refl tt tt tt refl refl refl refl refl (λ j. refl)

  truth_is : NoneOf (tag_of w) (15 ∷ 14 ∷ 13 ∷ []) → C t ≡ term 12 nothing nothing nothing
  unfolding terms_of
  truth_is n = ap terms_ofᶜ (cond_is ws o t (tag_of w) refl ∙ truth_tree (tag_of w) n)

  end_is : (tag_of w ≡ 16 → ⊥) → L t ≡ term 17 nothing nothing nothing
  unfolding terms_of node_of in_word
  end_is h = ap terms_ofᵃ (list_is ws o t (tag_of w) refl ∙ list_ends (tree_in ws) (list_in ws) _ _ _ (tag_of w) h)

  pub leaf_at : NoneOf (tag_of w) (8 ∷ 7 ∷ 6 ∷ []) → NoneOf (tag_of w) pairs → NoneOf (tag_of w) singles → Leaf (E t) (leaf_word w)
  leaf_at a b c = go (ℕ_discrete (tag_of w) 1) (ℕ_discrete (tag_of w) 2)
    where
      go : Dec (tag_of w ≡ 1) → Dec (tag_of w ≡ 2) → Leaf (E t) (leaf_word w)
      go (yes e) f = rw (variable_is e) (leaf_as (leaf_word w) (sym (leaf_variable w e)) (is_leaf 1 (word.slot_bits w) 0 0))
      go (no d) (yes e) = rw (new_is e) (leaf_as (leaf_word w) (sym (leaf_new w e)) (is_leaf 2 (word.mask_bits w) 0 0))
      go (no d) (no e) = rw (null_is (no_inner (tag_of w) a b c d e)) (leaf_as (leaf_word w) (null_word_lem ∙ sym (leaf_null w d e)) (is_leaf 0 0 0 0))

  -- by a tag below all that have children
  pub low_leaf : tag_of w < 3 → Leaf (E t) (leaf_word w)
  low_leaf h =
      leaf_at (((tt, λ e. omega arith), λ e. omega arith), λ e. omega arith) (((tt, λ e. omega arith), λ e. omega arith), λ e. omega arith)
      ((((((tt, λ e. omega arith), λ e. omega arith), λ e. omega arith), λ e. omega arith), λ e. omega arith), λ e. omega arith)

  pub truth_at : NoneOf (tag_of w) (15 ∷ 14 ∷ 13 ∷ []) → Leaf (C t) 412316860416
  truth_at n = rw (truth_is n) (leaf_as 412316860416 truth_word (is_leaf 12 0 0 0))

  pub end_at : (tag_of w ≡ 16 → ⊥) → Leaf (L t) 584115552256
  end_at h = rw (end_is h) (leaf_as 584115552256 end_word (is_leaf 17 0 0 0))
