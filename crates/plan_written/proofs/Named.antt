-- In trees that are in place every term but the root is named exactly once: check 6. Assumes nothing.
use Prim.Native.Nat.{ℕ, zero, suc, ◌+◌, ◌≤◌, ◌<◌}
use native.Mathlib.Decide.{dec_lt, ℕ_discrete}
use native.Mathlib.Omega.{arith}
use mathlib.Core.Path.{◌≡◌, refl, sym, ap, ◌∙◌}
use mathlib.Core.Bool.{Bool, true, false, ◌&&◌, and-false}
use mathlib.Core.List.{List}
use lib.Dec.{eqb, ltb, leb}
use borrow.Author.Tests.{lt-ltb, le-ltb, le-leb, lt-leb, eq-eqb, ne_eqb}
use Rattle.plan_packed.specs.Format.{procedures, terms, Operand, layout, Term, term_at}
use Rattle.plan_packed.specs.Refusals.{sum_below, one_if, is_child, times_in}
use Rattle.plan_packed.proofs.Children.{term_of}
use Rattle.plan_written.specs.Terms.{TermTree, term, Part, value, child, size, size_of, value_at}
use Rattle.plan_written.proofs.RightTrees.{RightTree, RightPart}
use Rattle.plan_written.proofs.Placed.{Placed, PlacedPart}
use Rattle.plan_written.proofs.Sums.{sum_more}

-- 1 for a number from a on and below c
pub between : ℕ → ℕ → ℕ → ℕ
between a c v = one_if (leb a v && ltb v c)

pub between_none : (a v : ℕ) → between a a v ≡ 0
unfolding between
between_none a v = go (dec_lt v a)
  where
    go : Dec (v < a) → one_if (leb a v && ltb v a) ≡ 0
    go (yes h) = rw (lt-leb a v h)
    go (no h) = rw (le-leb a v (omega (arith, h)), le-ltb v a (omega (arith, h)))

pub between_in : (a c v : ℕ) → a ≤ v → v < c → between a c v ≡ 1
unfolding between
between_in a c v h k = rw (le-leb a v h, lt-ltb v c k)

pub between_out : (a c v : ℕ) → c ≤ v → between a c v ≡ 0
unfolding between
between_out a c v h = rw (le-ltb v c h, and-false (leb a v))

before : (a c v : ℕ) → v < a → between a c v ≡ 0
unfolding between
before a c v h = rw (lt-leb a v h)

pub between_join : (a b c v : ℕ) → a ≤ b → b ≤ c → between a b v + between b c v ≡ between a c v
between_join a b c v h k = go (dec_lt v a) (dec_lt v b) (dec_lt v c)
  where
    go : Dec (v < a) → Dec (v < b) → Dec (v < c) → between a b v + between b c v ≡ between a c v
    go (yes x) y z = omega (arith, before a b v x, before b c v (omega arith), before a c v x)
    go (no x) (yes y) z = omega (arith, between_in a b v (omega (arith, x)) y, before b c v y, between_in a c v (omega (arith, x)) (omega arith))
    go (no x) (no y) (yes z) = omega (arith, between_out a b v (omega (arith, y)), between_in b c v (omega (arith, y)) z, between_in a c v (omega (arith, x)) z)
    go (no x) (no y) (no z) = omega (arith, between_out a b v (omega (arith, y)), between_out b c v (omega (arith, z)), between_out a c v (omega (arith, z)))

pub between_one : (a v : ℕ) → one_if (eqb a v) ≡ between a (suc a) v
between_one a v = go (ℕ_discrete a v) (dec_lt v a)
  where
    go : Dec (a ≡ v) → Dec (v < a) → one_if (eqb a v) ≡ between a (suc a) v
    go (yes e) d = rw (eq-eqb a v e) (sym (between_in a (suc a) v (omega arith) (omega arith)))
    go (no e) (yes d) = rw (ne_eqb a v e) (sym (before a (suc a) v d))
    go (no e) (no d) = rw (ne_eqb a v e) (sym (between_out a (suc a) v (omega (arith, e, d))))

-- a tree has a term
pub size_pos : (e : TermTree) → 1 ≤ size e
unfolding size
size_pos (term k p q r) = omega arith

-- ---- the names that a tree in place gives

module _ (count : ℕ) (counts : ℕ → ℕ) (b : List ℕ) (v : ℕ) where
  -- how often term u names term v
  abbrev names : ℕ → ℕ
  names u = times_in (term_at b u) v

  names_are : (n k x y z : ℕ) → term_at b n ≡ term_of k x y z 0
      → names n ≡ one_if (is_child (layout k).first && eqb x v) + one_if (is_child (layout k).second && eqb y v) + one_if (is_child (layout k).third && eqb z v)
  unfolding times_in
  names_are n k x y z e = ap (λ (m : Term). times_in m v) e

  mutual
    unfolding size value_at

    pub tree_names : (e : TermTree) (n : ℕ) → RightTree count counts e → Placed b n e
        → sum_below (n + size e) names ≡ sum_below n names + between (suc n) (n + size e) v
    tree_names (term k p q r) n h g =
        let n₂ = suc n + size_of p in
        let n₃ = n₂ + size_of q in
        let n₄ = n₃ + size_of r in
        let e : n + suc (size_of p + size_of q + size_of r) ≡ n₄ = omega arith in
        let a = part_names p (suc n) (layout k).first h.1 g.1 in
        let c = part_names q n₂ (layout k).second h.2 g.2 in
        let d = part_names r n₃ (layout k).third h.3 g.3 in
        let i = between_join (suc n) n₂ n₃ v (omega arith) (omega arith) in
        let j = between_join (suc n) n₃ n₄ v (omega arith) (omega arith) in
        rw e (omega (arith, sum_more n names, names_are n k _ _ _ g.0))

    part_names : (p : Part) (m : ℕ) (kind : Operand) → RightPart count counts kind p → PlacedPart b m p
        → one_if (is_child kind && eqb (value_at m p) v) + sum_below (m + size_of p) names ≡ sum_below m names + between m (m + size_of p) v
    part_names (value x) m kind h g = let z : m + 0 ≡ m = omega arith in rw (h.0, z) (omega (arith, between_none m v))
    part_names (child e) m kind h g =
        rw h.0 (omega (arith, tree_names e m h.2 g, between_one m v, between_join m (suc m) (m + size e) v (omega arith) (omega (arith, size_pos e))))
