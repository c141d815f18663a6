-- Scopes handed to a list of terms. Assumes nothing.
use mathlib.Core.Path.{◌≡◌, refl, ap, sym, ◌∙◌}
use mathlib.Core.Bool.{Bool, true, false, cond, ◌&&◌, ◌||◌, not}
use mathlib.Core.List.{List, [], ◌∷◌}
use Prim.Native.Nat.{ℕ, ◌+◌, ◌≤◌, ◌<◌}
use native.Mathlib.Omega.{arith}
use lib.Dec.{eqb, leb}
use lib.ListN.{length, get_or, set, length-set}
use lib.Seq.{get_or-set_same, get_or-set_other}
use borrow.Author.Tests.{eq-eqb, ne_eqb, leb-false}
use Rattle.format.proofs.RefusalLaws.{neither}
use Rattle.plan_packed.specs.Refusals.{one_if}
use Rattle.plan_packed.specs.Inner.Rows.{number_at, child_at, children_from, children_by_row, wrong_from, wrong_terms}
use Rattle.plan_packed.specs.Inner.Steps.{Child, child_of, outside}
use Rattle.plan_packed.proofs.NameLaws.{times_of}
use Rattle.plan_scopes.specs.Inner.Scopes.{Handed, handed, inner_scope, handed_from, handed_by_row, hand_all, Each}

-- ---- each of a list

pub each_map : {P Q : Handed → Type 0} (hs : List Handed) → ((h : Handed) → P h → Q h) → Each P hs → Each Q hs
each_map [] f a = tt
each_map (h ∷ hs) f a = (f h a.0, each_map hs f a.1)

pub each_both : {P Q R : Handed → Type 0} (hs : List Handed) → ((h : Handed) → P h → Q h → R h) → Each P hs → Each Q hs → Each R hs
each_both [] f a b = tt
each_both (h ∷ hs) f a b = (f h a.0 b.0, each_both hs f a.1 b.1)

-- ---- how often these name term t

unfoldable pub times_handed : List Handed → ℕ → ℕ
times_handed [] t = 0
times_handed (h ∷ hs) t = one_if (eqb h.index t) + times_handed hs t

-- each of them does
pub present : (hs : List Handed) → Each (λ h. 1 ≤ times_handed hs h.index) hs
unfolding times_handed
present [] = tt
present (h ∷ hs) = (rw (eq-eqb h.index h.index refl) (omega arith), each_map hs (λ k q. omega arith) (present hs))

-- as often as the children of the row
module _ (w t : ℕ) where
  from_times : (m sort place : ℕ) (hs : List Handed) (ks : List Child) → times_handed hs t ≡ times_of ks t
      → times_handed (handed_from w m sort place hs) t ≡ times_of (children_from w sort place ks) t
  unfolding times_handed times_of
  from_times m sort place hs ks e = go (eqb sort 0)
    where
      go : (x : Bool) → times_handed (cond x [] (handed m (child_at place w) ∷ hs)) t ≡ times_of (cond x [] (child_of sort (child_at place w) ∷ ks)) t
      go true = refl
      go false = ap (λ (n : ℕ). one_if (eqb (child_at place w) t) + n) e

  pub same_times : (m k : ℕ) → times_handed (handed_by_row m w k) t ≡ times_of (children_by_row w k) t
  unfolding handed_by_row children_by_row times_handed times_of
  same_times m k =
      from_times m (number_at k 4) (number_at k 5) _ _
      (from_times (inner_scope m w k) (number_at k 6) (number_at k 7) _ _ (from_times m (number_at k 8) (number_at k 9) [] [] refl))

-- ---- what the array has then

pub hand_size : (hs : List Handed) (s : List ℕ) → length (hand_all hs s) ≡ length s
unfolding hand_all
hand_size [] s = refl
hand_size (h ∷ hs) s = hand_size hs (set s h.index h.scope) ∙ length-set s h.index h.scope

-- one handed on, then the others
pub hand_more : (h : Handed) (hs : List Handed) (a b c : List ℕ) → b ≡ hand_all (h ∷ []) a → c ≡ hand_all hs b → c ≡ hand_all (h ∷ hs) a
unfolding hand_all
hand_more h hs a b c p q = q ∙ ap (hand_all hs) p

-- of a term that none of them is
pub unhanded : (hs : List Handed) (s : List ℕ) (t : ℕ) → times_handed hs t ≡ 0 → get_or (hand_all hs s) t 0 ≡ get_or s t 0
unfolding hand_all times_handed
unhanded [] s t e = refl
unhanded (h ∷ hs) s t e = unhanded hs (set s h.index h.scope) t (omega arith) ∙ get_or-set_other s h.index t h.scope 0 (λ x. other (sym x))
  where
    other : h.index ≡ t → ⊥
    other q = omega (arith, rw (eq-eqb h.index t q) at e)

-- of one that is there once
pub handed_once : (hs : List Handed) (s : List ℕ) → Each (λ h. h.index < length s) hs
    → Each (λ h. times_handed hs h.index ≡ 1 → get_or (hand_all hs s) h.index 0 ≡ h.scope) hs
unfolding hand_all times_handed
handed_once [] s w = tt
handed_once (h ∷ hs) s w =
    let n = set s h.index h.scope in
    let z = length-set s h.index h.scope in (
      λ e. unhanded hs n h.index (omega (arith, rw (eq-eqb h.index h.index refl) at e)) ∙ get_or-set_same s h.index h.scope 0 w.0,
      each_both hs (λ k q p e. q (omega arith)) (handed_once hs n (each_map hs (λ k q. omega (arith, z)) w.1)) (present hs),
    )

-- ---- the children of a term that passes check 4 come after it

module _ (n t w : ℕ) where
  abbrev pub Between : Handed → Type 0
  Between h = (t < h.index) × (h.index < n)

  from_between : (m sort place : ℕ) (rest : Bool) (hs : List Handed) → wrong_from n t w sort place rest ≡ false → (rest ≡ false → Each Between hs)
      → Each Between (handed_from w m sort place hs)
  from_between m sort place rest hs e f = go (eqb sort 0) e
    where
      go : (x : Bool) → (not x && (outside n t (child_at place w) || rest)) ≡ false → Each Between (cond x [] (handed m (child_at place w) ∷ hs))
      go true q = tt
      go false q =
          let a = neither (outside n t (child_at place w)) rest q in
          let c = neither (leb (child_at place w) t) (leb n (child_at place w)) a.0 in
          ((leb-false (child_at place w) t c.0, leb-false n (child_at place w) c.1), f a.1)

  pub all_between : (m k : ℕ) → wrong_terms n t w k ≡ false → Each Between (handed_by_row m w k)
  unfolding handed_by_row wrong_terms
  all_between m k e =
      from_between m (number_at k 4) (number_at k 5) _ _ e
      (λ f. from_between (inner_scope m w k) (number_at k 6) (number_at k 7) _ _ f (λ g. from_between m (number_at k 8) (number_at k 9) false [] g (λ x. tt)))

-- ---- as many as the row has

module _ (m w k : ℕ) where
  pub hands_nothing : number_at k 4 ≡ 0 → handed_by_row m w k ≡ []
  unfolding handed_by_row
  hands_nothing a = rw (eq-eqb (number_at k 4) 0 a)

  module _ (a : number_at k 4 ≡ 0 → ⊥) where
    pub hands_one : number_at k 6 ≡ 0 → handed_by_row m w k ≡ (handed m (child_at (number_at k 5) w) ∷ [])
    unfolding handed_by_row
    hands_one b = rw (ne_eqb (number_at k 4) 0 a, eq-eqb (number_at k 6) 0 b)

    module _ (b : number_at k 6 ≡ 0 → ⊥) where
      pub hands_two : number_at k 8 ≡ 0
          → handed_by_row m w k ≡ (handed m (child_at (number_at k 5) w) ∷ handed (inner_scope m w k) (child_at (number_at k 7) w) ∷ [])
      unfolding handed_by_row
      hands_two d = rw (ne_eqb (number_at k 4) 0 a, ne_eqb (number_at k 6) 0 b, eq-eqb (number_at k 8) 0 d)

      pub hands_three : (number_at k 8 ≡ 0 → ⊥)
          → handed_by_row m w k ≡ (handed m (child_at (number_at k 5) w) ∷ handed (inner_scope m w k) (child_at (number_at k 7) w)
          ∷ handed m (child_at (number_at k 9) w) ∷ [])
      unfolding handed_by_row
      hands_three d = rw (ne_eqb (number_at k 4) 0 a, ne_eqb (number_at k 6) 0 b, ne_eqb (number_at k 8) 0 d)
