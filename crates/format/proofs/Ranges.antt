-- The numbers of a range one by one: what holds of each of them holds of all; and what is none of them is past them. The arms of a match. Assumes nothing.
use Prim.Native.Nat.{ℕ, zero, suc, ◌+◌, ◌<◌, ◌≤◌}
use native.Mathlib.Omega.{arith}
use native.Mathlib.Decide.{ℕ_discrete}
use mathlib.Core.Path.{◌≡◌, sym, subst}
use mathlib.Core.Bool.{Bool, true, false, ◌&&◌, ◌||◌}
use mathlib.Core.Logic.{⊎_elim}
use mathlib.Core.List.{List, [], ◌∷◌}
use lib.Dec.{T}
use mir.Facts.{and_yes, or_yes}
use mir.Val.{has_key}
use types.Run.{OneOf, hit}

-- R, given P of each of the n numbers from i on
abbrev pub EachOf : (ℕ → Type 0) → ℕ → ℕ → Type 0 → Type 0
EachOf P i zero R = R
EachOf P i (suc n) R = P i → EachOf P (suc i) n R

-- R that follows from P of all of them
pub by_range : (P : ℕ → Type 0) (i n : ℕ) (R : Type 0) → (((k : ℕ) → i ≤ k → k < i + n → P k) → R) → EachOf P i n R
by_range P i zero R f = f (λ k p q. absurd (omega arith))
by_range P i (suc n) R f = λ here. by_range P (suc i) n R (λ rest. f (λ k p q. go here rest k p q (ℕ_discrete i k)))
  where
    go : P i → ((k : ℕ) → suc i ≤ k → k < suc i + n → P k) → (k : ℕ) → i ≤ k → k < i + suc n → Dec (i ≡ k) → P k
    go here rest k p q (yes e) = subst P e here
    go here rest k p q (no d) = rest k (omega (arith, d)) (omega arith)

-- ---- all but some

-- k is none of these numbers, the latest first, as the last arm of a match is told it
abbrev pub NoneOf : ℕ → List ℕ → Type 0
NoneOf k [] = Unit {0}
NoneOf k (j ∷ js) = NoneOf k js × (k ≡ j → ⊥)

-- the numbers below n, the latest first
abbrev pub below : ℕ → List ℕ
below zero = []
below (suc n) = n ∷ below n

-- what is none of the first n numbers is past them
pub past_all : (n k : ℕ) → NoneOf k (below n) → n ≤ k
past_all zero k h = omega arith
past_all (suc n) k h = omega (arith, past_all n k h.0, h.1)

-- ---- arms of several numbers

-- k is in none of these lists, the latest first, as the last arm of a match is told it
abbrev pub NoneIn : ℕ → List (List ℕ) → Type 0
NoneIn k [] = Unit {0}
NoneIn k (js ∷ jss) = NoneIn k jss × (OneOf js k → ⊥)

-- one of the lists has j
abbrev pub has : ℕ → List (List ℕ) → Bool
has j [] = false
has j (js ∷ jss) = has_key js j || has j jss

pub not_in : (k j : ℕ) (jss : List (List ℕ)) → T (has j jss) → NoneIn k jss → k ≡ j → ⊥
not_in k j [] h n e = h
not_in k j (js ∷ jss) h n e = ⊎_elim (λ a. n.1 (subst (OneOf js) (sym e) (hit js j a))) (λ b. not_in k j jss b n.0 e) (or_yes (has_key js j) (has j jss) h)

-- the lists have every number below m
abbrev pub has_below : ℕ → List (List ℕ) → Bool
has_below zero jss = true
has_below (suc m) jss = has m jss && has_below m jss

pub past_each : (m k : ℕ) (jss : List (List ℕ)) → T (has_below m jss) → NoneIn k jss → m ≤ k
past_each zero k jss h n = omega arith
past_each (suc m) k jss h n =
    let a = and_yes (has m jss) (has_below m jss) h in
    omega (arith, past_each m k jss a.1 n, not_in k m jss a.0 n)

-- the lists have each of these numbers
abbrev pub has_each : List ℕ → List (List ℕ) → Bool
has_each [] jss = true
has_each (j ∷ js) jss = has j jss && has_each js jss

pub none_of : (k : ℕ) (js : List ℕ) (jss : List (List ℕ)) → T (has_each js jss) → NoneIn k jss → NoneOf k js
none_of k [] jss h n = tt
none_of k (j ∷ js) jss h n =
    let a = and_yes (has j jss) (has_each js jss) h in
    (none_of k js jss a.1 n, not_in k j jss a.0 n)
