-- The rule of the rows at each tag: what checks 4 to 6 find by a row is what the table says. Assumes nothing.
use mathlib.Core.Path.{◌≡◌, refl, ap, sym, ◌∙◌}
use native.Mathlib.Decide.{dec_lt}
use borrow.Author.Tests.{eq-eqb, ne_eqb}
use mathlib.Core.Bool.{Bool, true, false, ◌||◌, or-false, or_assoc}
use mathlib.Core.List.{List, [], ◌∷◌}
use Prim.Native.Nat.{ℕ, ◌<◌}
use native.Mathlib.Omega.{arith}
use Rattle.format.proofs.Ranges.{by_range}
use Rattle.plan_packed.specs.Format.{table, layout, laid_out, term_at, tag_count}
use lib.Dec.{eqb, lit<}
use lib.ListN.{get_or, length}
use Rattle.plan_packed.specs.Inner.Operands.{tag_of, first_of, field_bits, write_second, spare_set}
use Rattle.plan_packed.specs.Trees.{nodes, node_of}
use Rattle.plan_packed.specs.Refusals.{some_operand, breaks_table}
use Rattle.plan_packed.specs.Inner.Steps.{Right, Loaded, in_word, term_in, tag_in, node_in, tag_sort, Child, child_of, children_of, lower_all, count_all, outside}
use Rattle.plan_packed.specs.Inner.Rows.{number_at, child_at, wrong_by_row, Tagged, children_by_row}
use Rattle.plan_packed.proofs.Reading.{tag_in_lem}
use Rattle.plan_packed.proofs.SingleTerm.{tested, row_of, passes}
use Rattle.plan_packed.proofs.NameLaws.{named}

-- as many rows as tags
pub a_row_each : length table ≡ tag_count
unfolding table
a_row_each = refl

-- the sort of a tag
pub sort_is : (k : ℕ) → k < tag_count → number_at k 0 ≡ tag_sort k
unfolding number_at tag_sort
sort_is =
    by_range (λ k. number_at k 0 ≡ tag_sort k) 0 tag_count ((k : ℕ) → k < tag_count → number_at k 0 ≡ tag_sort k) (λ all k h. all k (omega arith) (omega arith))
    refl refl refl refl refl refl refl refl refl refl refl refl refl refl refl refl refl refl refl refl refl

-- what the operand that is no term is
pub kind_small : (k : ℕ) → k < tag_count → number_at k 2 < 6
unfolding number_at
kind_small =
    by_range (λ k. number_at k 2 < 6) 0 tag_count ((k : ℕ) → k < tag_count → number_at k 2 < 6) (λ all k h. all k (omega arith) (omega arith))
    (lit< tt) (lit< tt) (lit< tt) (lit< tt) (lit< tt) (lit< tt) (lit< tt) (lit< tt) (lit< tt) (lit< tt) (lit< tt) (lit< tt) (lit< tt) (lit< tt) (lit< tt)
    (lit< tt)
    (lit< tt) (lit< tt) (lit< tt) (lit< tt) (lit< tt)

-- the children of a term
module _ (w : ℕ) where
  abbrev Named : ℕ → Type 0
  Named k = children_by_row w k ≡ children_of (row_of k w)

  pub children_are : (k : ℕ) → k < tag_count → Named k
  unfolding children_by_row children_of node_of in_word layout table nodes
  children_are =
      by_range Named 0 tag_count ((k : ℕ) → k < tag_count → Named k) (λ all k h. all k (omega arith) (omega arith))
      refl refl refl refl refl refl refl refl refl refl refl refl refl refl refl refl refl refl refl refl refl

-- a field stands after the first term, and is tested before it
field_first : (a b c : Bool) → (a || (b || c)) ≡ ((b || a) || c)
field_first true true c = refl
field_first true false c = refl
field_first false true c = refl
field_first false false c = refl

field_between : (a b c d : Bool) → ((a || (b || (c || false))) || d) ≡ (((b || a) || c) || d)
field_between a b c d = ap (λ (x : Bool). x || d) (ap (λ (x : Bool). a || (b || x)) (or-false c) ∙ field_first a b c)

-- a term's test
module _ (procedures n t w : ℕ) where
  abbrev Tested : ℕ → Type 0
  Tested k = wrong_by_row procedures n t w k ≡ breaks_table procedures n t (in_word w k (layout k))

  tests_are : (k : ℕ) → k < tag_count → Tested k
  unfolding wrong_by_row breaks_table some_operand in_word layout table
  tests_are =
      by_range Tested 0 tag_count ((k : ℕ) → k < tag_count → Tested k) (λ all k h. all k (omega arith) (omega arith))
      refl
      (simp or-false)
      (simp or-false)
      (ap (λ (x : Bool). x || spare_set 15 w) (field_first (eqb (field_bits w) 0) (outside n t (first_of w)) false))
      (field_between (eqb (field_bits w) 0) (outside n t (first_of w)) (outside n t (write_second w)) (spare_set 25 w))
      (simp (or-false, or_assoc))
      (simp (or-false, or_assoc))
      (simp (or-false, or_assoc))
      (simp (or-false, or_assoc))
      (simp or-false)
      (simp or-false)
      (simp (or-false, or_assoc))
      refl
      (simp or-false)
      (simp (or-false, or_assoc))
      (simp (or-false, or_assoc))
      (simp (or-false, or_assoc))
      refl
      (simp or-false)
      (simp or-false)
      (simp or-false)

  pub by_row : (r : Bool) → tag_of w < tag_count → r ≡ wrong_by_row procedures n t w (tag_of w) → r ≡ breaks_table procedures n t (term_in w)
  by_row r h e = tested procedures n t w (tag_of w) r refl (e ∙ tests_are (tag_of w) h)

-- ---- the children of a term of the array, as many as the row has

module _ (w k : ℕ) where
  pub no_child : number_at k 4 ≡ 0 → children_by_row w k ≡ []
  unfolding children_by_row
  no_child a = rw (eq-eqb (number_at k 4) 0 a)

  module _ (a : number_at k 4 ≡ 0 → ⊥) where
    pub one_child : number_at k 6 ≡ 0 → children_by_row w k ≡ (child_of (number_at k 4) (child_at (number_at k 5) w) ∷ [])
    unfolding children_by_row
    one_child b = rw (ne_eqb (number_at k 4) 0 a, eq-eqb (number_at k 6) 0 b)

    module _ (b : number_at k 6 ≡ 0 → ⊥) where
      pub two_children : number_at k 8 ≡ 0
          → children_by_row w k ≡ (child_of (number_at k 4) (child_at (number_at k 5) w) ∷ child_of (number_at k 6) (child_at (number_at k 7) w) ∷ [])
      unfolding children_by_row
      two_children d = rw (ne_eqb (number_at k 4) 0 a, ne_eqb (number_at k 6) 0 b, eq-eqb (number_at k 8) 0 d)

      pub three_children : (number_at k 8 ≡ 0 → ⊥)
          → children_by_row w k ≡ (child_of (number_at k 4) (child_at (number_at k 5) w) ∷ child_of (number_at k 6) (child_at (number_at k 7) w)
          ∷ child_of (number_at k 8) (child_at (number_at k 9) w) ∷ [])
      unfolding children_by_row
      three_children d = rw (ne_eqb (number_at k 4) 0 a, ne_eqb (number_at k 6) 0 b, ne_eqb (number_at k 8) 0 d)

-- one child named, then the others
pub lower_more : (ws : List ℕ) (k : Child) (ks : List Child) (best r s : ℕ) → r ≡ lower_all ws (k ∷ []) best → s ≡ lower_all ws ks r
    → s ≡ lower_all ws (k ∷ ks) best
unfolding lower_all
lower_more ws k ks best r s p q = q ∙ ap (lower_all ws ks) p

pub count_more : (k : Child) (ks : List Child) (c d e : List ℕ) → d ≡ count_all (k ∷ []) c → e ≡ count_all ks d → e ≡ count_all (k ∷ ks) c
unfolding count_all
count_more k ks c d e p q = q ∙ ap (count_all ks) p

-- these children are the term's
pub named_by_row : (ws : List ℕ) (t k best r : ℕ) (c c' : List ℕ) (ks : List Child) → k ≡ tag_of (get_or ws t 0) → k < tag_count
    → children_by_row (get_or ws t 0) k ≡ ks
    → r ≡ lower_all ws ks best → c' ≡ count_all ks c
    → (r ≡ lower_all ws (children_of (node_in ws t)) best) × (c' ≡ count_all (children_of (node_in ws t)) c)
named_by_row ws t k best r c c' ks e h q p s =
    let same : ks ≡ children_of (row_of k (get_or ws t 0)) = sym q ∙ children_are (get_or ws t 0) k h in
    named ws t k best r c c' (sym e) (p ∙ ap (λ (x : List Child). lower_all ws x best) same) (s ∙ ap (λ (x : List Child). count_all x c) same)

-- ---- the tags of an array that check 4 has passed

pub tagged : (b : List ℕ) (procedures n : ℕ) (ws : List ℕ) → Right b procedures n → Loaded b n ws → Tagged ws
unfolding tag_in term_at laid_out
tagged b procedures n ws r l t = go (dec_lt t n)
  where
    go : Dec (t < n) → tag_in ws t < tag_count
    go (yes h) = rw (l.each t h, ← tag_in_lem b t) (omega (arith, (passes b t (r.terms_right t h)).tag_small))
    go (no h) = rw (l.rest t (omega (arith, h))) (lit< tt)
