-- The numbers of places: no two places have one number, and there are as many numbers as places that have one. Assumes nothing.
use Prim.Native.Nat.{ℕ, zero, suc, ◌+◌, ◌<◌, ◌≤◌}
use native.Mathlib.Omega.{arith}
use native.Mathlib.Decide.{ℕ_discrete, dec_lt}
use mathlib.Core.Path.{◌≡◌, refl, sym, ap, subst, ◌∙◌}
use mathlib.Core.Bool.{Bool, true, false, cond}
use mathlib.Core.List.{List, [], ◌∷◌}
use lib.Dec.{eqb, ltb}
use lib.ListN.{length, get_or, set, replicate, length-set, length-replicate}
use lib.Seq.{get_or-set_same, get_or-set_other}
use borrow.Author.Tests.{ne_eqb}
use Rattle.format.proofs.Filled.{zeros}
use Rattle.std.proofs.Common.{Ok}
use Rattle.log_places.specs.Inner.Places.{numbers_from, numbers_of, given_of, Numbered, known, next}
use Rattle.log_places.proofs.OwnNumbers.{from_long, from_at, from_past}

-- how many places have no number
abbrev unnumbered : List ℕ → ℕ
unnumbered [] = 0
unnumbered (n ∷ N) = cond (eqb n 0) (suc (unnumbered N)) (unnumbered N)

unnumbered_all : (n : ℕ) → unnumbered (replicate n 0) ≡ n
unnumbered_all zero = refl
unnumbered_all (suc n) = ap suc (unnumbered_all n)

one_fewer : (N : List ℕ) (p k : ℕ) → p < length N → get_or N p 0 ≡ 0 → 0 < k → suc (unnumbered (set N p k)) ≡ unnumbered N
one_fewer [] p k h e l = absurd (omega arith)
one_fewer (n ∷ N) zero k h e l = rw (e, ne_eqb k 0 (λ q. omega arith))
one_fewer (n ∷ N) (suc p) k h e l = go (eqb n 0) (one_fewer N p k (omega arith) e l)
  where
    go : (d : Bool) → suc (unnumbered (set N p k)) ≡ unnumbered N
        → suc (cond d (suc (unnumbered (set N p k))) (unnumbered (set N p k))) ≡ cond d (suc (unnumbered N)) (unnumbered N)
    go true q = ap suc q
    go false q = q

-- so many numbers are given, each to one place
pub record Places (N : List ℕ) (given : ℕ) : Type 0 where
  pub long : length N ≡ 1024
  pub most : (p : ℕ) → get_or N p 0 ≤ given
  pub once : (p q : ℕ) → p < 1024 → q < 1024 → get_or N p 0 ≡ get_or N q 0 → 0 < get_or N q 0 → p ≡ q
  pub left : unnumbered N + given ≡ 1024

places_start : Places (replicate 1024 0) 0
places_start =
    record {
      long = length-replicate {A = ℕ} 1024 0;
      most = λ p. omega (arith, zeros 1024 p);
      once = λ p q a b e h. absurd (omega (arith, zeros 1024 q));
      left = omega (arith, unnumbered_all 1024);
    }

unnumbered_none : (first n : ℕ) → 0 < first → unnumbered (numbers_from first n) ≡ 0
unfolding numbers_from
unnumbered_none first zero h = refl
unnumbered_none first (suc n) h = rw (ne_eqb first 0 (λ q. omega arith)) (unnumbered_none (suc first) n (omega arith))

-- each place has its own
places_own : Places (numbers_from 1 1024) 1024
places_own =
    record {
      long = from_long 1 1024;
      most = λ p. go p (dec_lt p 1024);
      once = λ p q a b e h. omega (arith, from_at 1 1024 p a, from_at 1 1024 q b);
      left = omega (arith, unnumbered_none 1 1024 (omega arith));
    }
  where
    go : (p : ℕ) → Dec (p < 1024) → get_or (numbers_from 1 1024) p 0 ≤ 1024
    go p (yes h) = omega (arith, from_at 1 1024 p h)
    go p (no h) = omega (arith, from_past 1 1024 p (omega arith))

-- the start, by how many there can be
pub places_first : (most : ℕ) → Places (numbers_of most (replicate 1024 0)) (given_of most 0)
places_first most = go (ltb 255 most)
  where
    go : (d : Bool) → Places (cond d (numbers_from 1 1024) (replicate 1024 0)) (cond d 1024 0)
    go true = places_own
    go false = places_start

-- a place without a number gets the next
module _ (N : List ℕ) (given p : ℕ) (P : Places N given) (below : p < 1024) (new : get_or N p 0 ≡ 0) where
  abbrev after : List ℕ
  after = set N p (given + 1)

  abbrev within : p < length N
  within = omega (arith, P.long)

  fewer : suc (unnumbered after) ≡ unnumbered N
  fewer = one_fewer N p (given + 1) within new (omega arith)

  pub numbered_own : get_or after p 0 ≡ given + 1
  numbered_own = get_or-set_same N p (given + 1) 0 within

  pub numbered_other : (q : ℕ) → (q ≡ p → ⊥) → get_or after q 0 ≡ get_or N q 0
  numbered_other q n = get_or-set_other N p q (given + 1) 0 n

  most_after : (q : ℕ) → get_or after q 0 ≤ given + 1
  most_after q = go (ℕ_discrete q p)
    where
      go : Dec (q ≡ p) → get_or after q 0 ≤ given + 1
      go (yes e) = let here : get_or after q 0 ≡ given + 1 = ap (λ (x : ℕ). get_or after x 0) e ∙ numbered_own in omega arith
      go (no n) = omega (arith, numbered_other q n, P.most q)

  once_after : (a b : ℕ) → a < 1024 → b < 1024 → get_or after a 0 ≡ get_or after b 0 → 0 < get_or after b 0 → a ≡ b
  once_after a b x y e h = go (ℕ_discrete a p) (ℕ_discrete b p)
    where
      go : Dec (a ≡ p) → Dec (b ≡ p) → a ≡ b
      go (yes q) (yes s) = q ∙ sym s
      go (yes q) (no s) = let own : get_or after a 0 ≡ given + 1 = ap (λ (z : ℕ). get_or after z 0) q ∙ numbered_own in
          absurd (omega (arith, numbered_other b s, P.most b))
      go (no q) (yes s) = let own : get_or after b 0 ≡ given + 1 = ap (λ (z : ℕ). get_or after z 0) s ∙ numbered_own in
          absurd (omega (arith, numbered_other a q, P.most a))
      go (no q) (no s) = P.once a b x y (sym (numbered_other a q) ∙ e ∙ numbered_other b s) (subst (λ (n : ℕ). 0 < n) (numbered_other b s) h)

  places_next : Places after (given + 1)
  places_next = record { long = length-set N p (given + 1) ∙ P.long; most = most_after; once = once_after; left = omega (arith, fewer, P.left) }

-- what holds after a record at place p: n is its number
pub record Placed (N : List ℕ) (given p n : ℕ) : Type 0 where
  pub places : Places N given
  pub number : get_or N p 0 ≡ n
  pub some : 0 < n

-- numbers are no more than places
pub given_most : {N : List ℕ} {given : ℕ} → Places N given → given ≤ 1024
given_most P = omega (arith, P.left)

pub placed : {N : List ℕ} {given p : ℕ} {N' : List ℕ} {given' n most : ℕ} → Places N given → p < 1024 → Numbered N given p most N' given' (Ok n)
    → Placed N' given' p n
placed P h (known k) = record { places = P; number = refl; some = k }
placed {N = N} {given = given} {p = p} P h (next k l) =
    record { places = places_next N given p P h k; number = numbered_own N given p P h k; some = omega arith }

-- while a place has no number, fewer are given than there are places
some_left : (N : List ℕ) (p : ℕ) → p < length N → get_or N p 0 ≡ 0 → 0 < unnumbered N
some_left [] p h e = absurd (omega arith)
some_left (n ∷ N) zero h e = rw (e) (omega arith)
some_left (n ∷ N) (suc p) h e = go (eqb n 0) (some_left N p (omega arith) e)
  where
    go : (d : Bool) → 0 < unnumbered N → 0 < cond d (suc (unnumbered N)) (unnumbered N)
    go true q = omega arith
    go false q = q

pub given_below : {N : List ℕ} {given : ℕ} → Places N given → (p : ℕ) → p < 1024 → get_or N p 0 ≡ 0 → given < 1024
given_below {N} P p h e = omega (arith, P.left, some_left N p (omega (arith, P.long)) e)
