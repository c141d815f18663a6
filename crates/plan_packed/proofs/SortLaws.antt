-- Check 5: the lowest of the misplaced, found by one pass. Assumes nothing.
use mathlib.Core.Path.{◌≡◌, refl, ap, sym, ◌∙◌}
use mathlib.Core.Logic.{◌⊎◌, inl, inr, ⊎_elim}
use mathlib.Core.Bool.{Bool, true, false, ◌&&◌, ◌||◌, and-false, or-true, or-false, or_assoc}
use mathlib.Core.List.{List, [], ◌∷◌}
use Prim.Native.Nat.{ℕ, zero, suc, ◌/◌, ◌≤◌, ◌<◌}
use native.Mathlib.Decide.{dec_lt, ℕ_discrete}
use native.Mathlib.Omega.{arith}
use lib.Dec.{ltb, leb, eqb}
use borrow.Author.Tests.{lt-ltb, le-ltb, le-leb, lt-leb, eq-eqb, ne_eqb}
use Rattle.format.specs.Inner.Lowest.{Lowest}
use Rattle.format.proofs.LowestLaws.{lowest_ext}
use Rattle.plan_packed.specs.Format
use Rattle.plan_packed.specs.Format.{terms, root, expression, table, layout, laid_out, term_at, tag_at}
use Rattle.plan_packed.specs.Inner.Operands.{tag_of}
use Rattle.plan_packed.specs.Trees.{nodes, node_of, node_at}
use Rattle.plan_packed.specs.Refusals.{any_below, some_operand, wrong_term, misplaced, wrongly_sorted, wrong_call}
use Rattle.plan_packed.specs.Inner.Steps.{Sized, Loaded, tag_in, node_in, Child, child_of, children_of, an_expression, a_condition, a_list, tag_sort, wrong_sort}
use Rattle.plan_packed.specs.Inner.Steps.{lower_if}
use Rattle.plan_packed.specs.Inner.Steps.{lower_all, misplaced_root, misfits, faults}
use Rattle.plan_packed.proofs.Reading.{tag_in_lem}
use Rattle.plan_packed.proofs.Tags.{by_tag}
use Rattle.plan_packed.proofs.Children.{Within, nodes_are, term_of, node_of_tag, children_within}

-- ---- sorts as numbers

-- a tag is below 12, or below 16, or below 18, or past these
pub data TagSort (k : ℕ) : Type 0 where
  low : k < 12 → tag_sort k ≡ an_expression → TagSort k
  middle : 12 ≤ k → k < 16 → tag_sort k ≡ a_condition → TagSort k
  upper : 16 ≤ k → k < 18 → tag_sort k ≡ a_list → TagSort k
  last : 18 ≤ k → tag_sort k ≡ an_expression → TagSort k

pub tag_sort_lem : (k : ℕ) → TagSort k
unfolding tag_sort
tag_sort_lem k = go (dec_lt k 12) (dec_lt k 16) (dec_lt k 18)
  where
    go : Dec (k < 12) → Dec (k < 16) → Dec (k < 18) → TagSort k
    go (yes p) q r = low p (rw (lt-ltb k 12 p))
    go (no p) (yes q) r = middle (omega (arith, p)) q (rw (le-ltb k 12 (omega (arith, p)), lt-ltb k 16 q))
    go (no p) (no q) (yes r) = upper (omega (arith, q)) r (rw (le-ltb k 12 (omega (arith, p)), le-ltb k 16 (omega (arith, q)), lt-ltb k 18 r))
    go (no p) (no q) (no r) =
        last (omega (arith, r)) (rw (le-ltb k 12 (omega (arith, p)), le-ltb k 16 (omega (arith, q)), le-ltb k 18 (omega (arith, r))))

-- a sort is wrong where the term is misplaced
pub sort₁ : (k : ℕ) → wrong_sort 1 k ≡ (leb 12 k && ltb k 18)
unfolding wrong_sort
sort₁ k = go (tag_sort_lem k)
  where
    go : TagSort k → wrong_sort 1 k ≡ (leb 12 k && ltb k 18)
    go (low a e) = rw (e, lt-leb 12 k a)
    go (middle a b e) = rw (e, le-leb 12 k a, lt-ltb k 18 (omega arith))
    go (upper a b e) = rw (e, le-leb 12 k (omega arith), lt-ltb k 18 b)
    go (last a e) = rw (e, le-leb 12 k (omega arith), le-ltb k 18 a)

sort₂ : (k : ℕ) → wrong_sort 2 k ≡ (ltb k 12 || leb 16 k)
unfolding wrong_sort
sort₂ k = go (tag_sort_lem k)
  where
    go : TagSort k → wrong_sort 2 k ≡ (ltb k 12 || leb 16 k)
    go (low a e) = rw (e, lt-ltb k 12 a)
    go (middle a b e) = rw (e, le-ltb k 12 a, lt-leb 16 k b)
    go (upper a b e) = rw (e, le-ltb k 12 (omega arith), le-leb 16 k a)
    go (last a e) = rw (e, le-ltb k 12 (omega arith), le-leb 16 k (omega arith))

sort₃ : (k : ℕ) → wrong_sort 3 k ≡ (ltb k 16 || leb 18 k)
unfolding wrong_sort
sort₃ k = go (tag_sort_lem k)
  where
    go : TagSort k → wrong_sort 3 k ≡ (ltb k 16 || leb 18 k)
    go (low a e) = rw (e, lt-ltb k 16 (omega arith))
    go (middle a b e) = rw (e, lt-ltb k 16 b)
    go (upper a b e) = rw (e, le-ltb k 16 a, lt-leb 18 k b)
    go (last a e) = rw (e, le-ltb k 16 (omega arith), le-leb 18 k a)

-- ---- one more fault

module _ (f g w : ℕ → Bool) (n v best : ℕ) (e : (k : ℕ) → g k ≡ (f k || (eqb v k && w k))) (l : Lowest f n best) where
  off : w v ≡ false → (k : ℕ) → f k ≡ g k
  off h k = go (ℕ_discrete v k)
    where
      go : Dec (v ≡ k) → f k ≡ g k
      go (yes q) = let z : w k ≡ false = ap w (sym q) ∙ h in sym (e k ∙ rw (eq-eqb v k q, z) (or-false (f k)))
      go (no q) = sym (e k ∙ rw (ne_eqb v k q) (or-false (f k)))

  other : (k : ℕ) → (v ≡ k → ⊥) → f k ≡ false → g k ≡ false
  other k q h = e k ∙ rw (ne_eqb v k q, h)

  lower_step : (w v ≡ true → v < n) → Lowest g n (lower_if (w v) v best)
  lower_step below = go (w v) refl
    where
      down : w v ≡ true → Dec (v < best) → Lowest g n (lower_if true v best)
      down h (yes q) =
          rw (lt-ltb v best q)
          record {
            within = let z = below h in omega arith;
            here = λ p. e v ∙ rw (eq-eqb v v refl, h) (or-true (f v));
            before = λ k p. other k (λ z. omega arith) (l.before k (omega arith));
          }
      down h (no q) =
          rw (le-ltb v best (omega (arith, q)))
          record {
            within = l.within;
            here = λ p. e best ∙ rw (l.here p);
            before = λ k p. other k (λ z. q (omega arith)) (l.before k p);
          }

      go : (x : Bool) → w v ≡ x → Lowest g n (lower_if x v best)
      go true h = down h (dec_lt v best)
      go false h = lowest_ext f g n best (λ k p. off h k) l

-- ---- the names of a list of children

-- term t is one of these, and of another sort
unfoldable pub strays : List ℕ → List Child → ℕ → Bool
strays b [] t = false
strays b (k ∷ ks) t = (eqb k.index t && wrong_sort k.sort (tag_at b t)) || strays b ks t

pub tags_are : (b : List ℕ) (n : ℕ) (ws : List ℕ) → Loaded b n ws → (t : ℕ) → t < n → tag_in ws t ≡ tag_at b t
unfolding tag_in
tags_are b n ws l t h = ap tag_of (l.each t h) ∙ sym (tag_in_lem b t)

lower_all_lem : (b : List ℕ) (n : ℕ) (ws : List ℕ) → Loaded b n ws → (ks : List Child) (f : ℕ → Bool) (best : ℕ) → Within n ks → Lowest f n best
    → Lowest (λ t. f t || strays b ks t) n (lower_all ws ks best)
unfolding lower_all strays
lower_all_lem b n ws d [] f best z l = lowest_ext f (λ t. f t || false) n best (λ t h. sym (or-false (f t))) l
lower_all_lem b n ws d (k ∷ ks) f best z l =
    let v = k.index in
    let w : ℕ → Bool = λ t. wrong_sort k.sort (tag_at b t) in
    let g : ℕ → Bool = λ t. f t || (eqb v t && w t) in
    let one : Lowest g n (lower_if (w v) v best) = lower_step f g w n v best (λ t. refl) l (λ q. z.0) in
    let e : wrong_sort k.sort (tag_in ws v) ≡ w v = ap (wrong_sort k.sort) (tags_are b n ws d v z.0) in
    let rest = lower_all_lem b n ws d ks g (lower_if (wrong_sort k.sort (tag_in ws v)) v best) z.1 (rw e one) in
    lowest_ext (λ t. g t || strays b ks t) (λ t. f t || strays b (k ∷ ks) t) n _ (λ t h. or_assoc (f t) (eqb v t && w t) (strays b ks t)) rest

-- ---- roots

pub no_root : (b : List ℕ) (n : ℕ) → Lowest (misplaced_root b 0) n n
unfolding misplaced_root any_below
no_root b n = record { within = omega arith; here = λ h. absurd (omega arith); before = λ k h. refl }

pub one_root : (b : List ℕ) (p n : ℕ) (ws : List ℕ) (best v r : ℕ) → Loaded b n ws → v ≡ root b p → root b p < n → r ≡ lower_all ws (child_of 1 v ∷ []) best
    → Lowest (misplaced_root b p) n best
    → Lowest (misplaced_root b (suc p)) n r
unfolding misplaced_root any_below strays
one_root b p n ws best v r d e h q l =
    rw q
    (lowest_ext (λ t. misplaced_root b p t || strays b (child_of 1 v ∷ []) t) (misplaced_root b (suc p)) n _
    (λ t k. rw (e, sort₁ (tag_at b t), or-false (eqb (root b p) t && (leb 12 (tag_at b t) && ltb (tag_at b t) 18))))
    (lower_all_lem b n ws d (child_of 1 v ∷ []) (misplaced_root b p) best (rw e h, tt) l))

-- the misplaced operands are the misplaced children
strays_are : (b : List ℕ) (t x y z s k : ℕ)
    → some_operand (λ kind v. eqb v t && misplaced kind (tag_at b t)) (term_of k x y z s) ≡ strays b (children_of (node_of_tag k x y z)) t
unfolding some_operand strays children_of nodes layout table
strays_are b t x y z s k =
    by_tag (λ k. some_operand (λ kind v. eqb v t && misplaced kind (tag_at b t)) (term_of k x y z s) ≡ strays b (children_of (node_of_tag k x y z)) t)
    (simp (and-false, or-false, or_assoc, sort₁, sort₂, sort₃))
    (simp (and-false, or-false, or_assoc, sort₁, sort₂, sort₃))
    (simp (and-false, or-false, or_assoc, sort₁, sort₂, sort₃))
    (simp (and-false, or-false, or_assoc, sort₁, sort₂, sort₃))
    (simp (and-false, or-false, or_assoc, sort₁, sort₂, sort₃))
    (simp (and-false, or-false, or_assoc, sort₁, sort₂, sort₃))
    (simp (and-false, or-false, or_assoc, sort₁, sort₂, sort₃))
    (simp (and-false, or-false, or_assoc, sort₁, sort₂, sort₃))
    (simp (and-false, or-false, or_assoc, sort₁, sort₂, sort₃))
    (simp (and-false, or-false, or_assoc, sort₁, sort₂, sort₃))
    (simp (and-false, or-false, or_assoc, sort₁, sort₂, sort₃))
    (simp (and-false, or-false, or_assoc, sort₁, sort₂, sort₃))
    (simp (and-false, or-false, or_assoc, sort₁, sort₂, sort₃))
    (simp (and-false, or-false, or_assoc, sort₁, sort₂, sort₃))
    (simp (and-false, or-false, or_assoc, sort₁, sort₂, sort₃))
    (simp (and-false, or-false, or_assoc, sort₁, sort₂, sort₃))
    (simp (and-false, or-false, or_assoc, sort₁, sort₂, sort₃))
    (simp (and-false, or-false, or_assoc, sort₁, sort₂, sort₃))
    (simp (and-false, or-false, or_assoc, sort₁, sort₂, sort₃))
    (simp (and-false, or-false, or_assoc, sort₁, sort₂, sort₃))
    (simp (and-false, or-false, or_assoc, sort₁, sort₂, sort₃))
    (λ j. simp (and-false, or-false)) k

pub term_strays : (b : List ℕ) (u t : ℕ) → some_operand (λ kind v. eqb v t && misplaced kind (tag_at b t)) (term_at b u) ≡ strays b (children_of (node_at b u)) t
unfolding term_at laid_out node_at node_of
term_strays b u t = strays_are b t _ _ _ _ (tag_at b u)

or_end : (r s c x y : Bool) → ((r || (s || x)) || (c || y)) ≡ ((((r || s) || c) || x) || y)
or_end true s c x y = refl
or_end false true c x y = refl
or_end false false true true y = refl
or_end false false true false y = refl
or_end false false false true y = refl
or_end false false false false y = refl

pub no_faults : (b : List ℕ) (procedures n r : ℕ) → procedures ≡ Format.procedures b → Lowest (misplaced_root b procedures) n r → Lowest (faults b 0) n r
unfolding misplaced_root faults misfits any_below
no_faults b procedures n r e l = lowest_ext (misplaced_root b procedures) (faults b 0) n r (λ k h. rw e (sym (or-false _ ∙ or-false _))) l

-- the children of one more term, and the term as a call
pub one_term : (b : List ℕ) (procedures u n : ℕ) (ws : List ℕ) (best least r : ℕ) → Loaded b n ws → Sized b procedures n → wrong_term b u ≡ false → u < n
    → least ≡ lower_all ws (children_of (node_in ws u)) best → r ≡ lower_if (wrong_call b u) u least → Lowest (faults b u) n best → Lowest (faults b (suc u)) n r
unfolding faults misfits any_below
one_term b procedures u n ws best least r d z h q e e' l =
    let ks = children_of (node_at b u) in
    let k : node_in ws u ≡ node_at b u = nodes_are b n ws d u q in
    let f : ℕ → Bool = λ t. faults b u t || strays b ks t in
    let first : Lowest f n least = rw (e, k) (lower_all_lem b n ws d ks (faults b u) best (children_within b procedures n u z h) l) in
    rw e'
    (lower_step f (faults b (suc u)) (wrong_call b) n u least
    (λ t. rw (term_strays b u t)
    (or_end (any_below (Format.procedures b) (λ p. eqb (root b p) t && misplaced expression (tag_at b t)))
    (any_below u (λ i. some_operand (λ kind v. eqb v t && misplaced kind (tag_at b t)) (term_at b i))) (any_below u (λ i. eqb i t && wrong_call b t))
    (strays b ks t) (eqb u t && wrong_call b t)))
    first (λ c. q))

-- ---- calls

-- a call among the first n terms
call_at : (b : List ℕ) (n t : ℕ) → t < n → any_below n (λ i. eqb i t && wrong_call b t) ≡ wrong_call b t
unfolding any_below
call_at b zero t h = absurd (omega arith)
call_at b (suc n) t h = go (ℕ_discrete n t) (call_at b n t)
  where
    before : (m : ℕ) → m ≤ t → any_below m (λ i. eqb i t && wrong_call b t) ≡ false
    before zero q = refl
    before (suc m) q = rw (before m (omega arith), ne_eqb m t (λ e. omega (arith, e)))

    go : Dec (n ≡ t) → (t < n → any_below n (λ i. eqb i t && wrong_call b t) ≡ wrong_call b t)
        → (any_below n (λ i. eqb i t && wrong_call b t) || (eqb n t && wrong_call b t)) ≡ wrong_call b t
    go (yes e) i = rw (before n (omega arith), eq-eqb n t e)
    go (no e) i = rw (i (omega (arith, e)), ne_eqb n t e) (or-false (wrong_call b t))

pub all_faults : (b : List ℕ) (n r : ℕ) → n ≡ terms b → Lowest (faults b n) n r → Lowest (wrongly_sorted b) n r
unfolding wrongly_sorted faults misfits
all_faults b n r e l =
    lowest_ext (faults b n) (wrongly_sorted b) n r
    (λ t h. rw (call_at b n t h, e)) l

pub no_call : (b : List ℕ) (t : ℕ) → (tag_at b t ≡ 8 → ⊥) → wrong_call b t ≡ false
unfolding wrong_call
no_call b t h = rw (ne_eqb (tag_at b t) 8 h)
