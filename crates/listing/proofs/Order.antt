-- Laws of dictionary order. Assumes nothing.
use Prim.Native.Nat.{ℕ, ◌<◌}
use native.Mathlib.Omega.{arith}
use mathlib.Core.Path.{◌≡◌, refl, sym, ◌∙◌, subst as along}
use mathlib.Core.List.{List, [], ◌∷◌, ◌++◌}
use mathlib.Core.Logic.{◌⊎◌, inl, inr}
use lib.Seq.{append_snoc}
use Rattle.listing.specs.Order.{Before, AtMost, Least, LeastAbove}

-- ---- it is a strict order

pub irreflexive : (ps : List ℕ) → Before ps ps → ⊥
irreflexive [] h = h
irreflexive (p ∷ ps) (inl h) = omega arith
irreflexive (p ∷ ps) (inr (e, h)) = irreflexive ps h

pub transitive : (ps qs rs : List ℕ) → Before ps qs → Before qs rs → Before ps rs
transitive ps qs [] h k = k
transitive ps [] (r ∷ rs) h k = absurd h
transitive [] (q ∷ qs) (r ∷ rs) h k = tt
transitive (p ∷ ps) (q ∷ qs) (r ∷ rs) (inl h) (inl k) = inl (omega arith)
transitive (p ∷ ps) (q ∷ qs) (r ∷ rs) (inl h) (inr (d, k)) = inl (omega arith)
transitive (p ∷ ps) (q ∷ qs) (r ∷ rs) (inr (e, h)) (inl k) = inl (omega arith)
transitive (p ∷ ps) (q ∷ qs) (r ∷ rs) (inr (e, h)) (inr (d, k)) = inr (e ∙ d, transitive ps qs rs h k)

-- the empty schedule is the lowest
pub empty_lowest : (ps : List ℕ) → AtMost [] ps
empty_lowest [] = inl refl
empty_lowest (p ∷ ps) = inr tt

-- two that are both at most the other are one
pub antisymmetric : (ps qs : List ℕ) → AtMost ps qs → AtMost qs ps → ps ≡ qs
antisymmetric ps qs (inl e) k = e
antisymmetric ps qs (inr h) (inl e) = sym e
antisymmetric ps qs (inr h) (inr k) = absurd (irreflexive ps (transitive ps qs ps h k))

-- ---- a schedule above another goes on after it, or has a higher pick at the first place where they differ

abbrev pub Longer : List ℕ → List ℕ → Type 0
Longer ps rs = (r : ℕ) × (t : List ℕ) × (rs ≡ ps ++ (r ∷ t))

abbrev pub Higher : List ℕ → List ℕ → Type 0
Higher ps [] = ⊥
Higher [] (q ∷ qs) = ⊥
Higher (p ∷ ps) (q ∷ qs) = (p < q) ⊎ ((p ≡ q) × Higher ps qs)

pub none_higher : (qs : List ℕ) → Higher [] qs → ⊥
none_higher [] h = h
none_higher (q ∷ qs) h = h

pub higher_before : (ps qs : List ℕ) → Higher ps qs → Before ps qs
higher_before ps [] h = h
higher_before [] (q ∷ qs) h = tt
higher_before (p ∷ ps) (q ∷ qs) (inl h) = inl h
higher_before (p ∷ ps) (q ∷ qs) (inr (e, h)) = inr (e, higher_before ps qs h)

pub longer_before : (ps : List ℕ) (r : ℕ) (t : List ℕ) → Before ps (ps ++ (r ∷ t))
longer_before [] r t = tt
longer_before (p ∷ ps) r t = inr (refl, longer_before ps r t)

cons_is : {p q : ℕ} {ps qs : List ℕ} → p ≡ q → ps ≡ qs → p ∷ ps ≡ q ∷ qs
cons_is e d = cc

pub higher_or_longer : (ps rs : List ℕ) → Before ps rs → Higher ps rs ⊎ Longer ps rs
higher_or_longer ps [] h = absurd h
higher_or_longer [] (r ∷ rs) h = inr (r, rs, refl)
higher_or_longer (p ∷ ps) (r ∷ rs) (inl h) = inl (inl h)
higher_or_longer (p ∷ ps) (r ∷ rs) (inr (e, h)) = by (higher_or_longer ps rs h)
  where
    by : Higher ps rs ⊎ Longer ps rs → Higher (p ∷ ps) (r ∷ rs) ⊎ Longer (p ∷ ps) (r ∷ rs)
    by (inl k) = inl (inr (e, k))
    by (inr (x, t, d)) = inr (x, t, cons_is (sym e) d)

-- ---- higher picks, and picks behind them

pub higher_here : (ps : List ℕ) (p q : ℕ) (a b : List ℕ) → p < q → Higher (ps ++ (p ∷ a)) (ps ++ (q ∷ b))
higher_here [] p q a b h = inl h
higher_here (x ∷ ps) p q a b h = inr (refl, higher_here ps p q a b h)

-- with more picks behind the lower, behind the higher
pub higher_than_more : (ps a qs : List ℕ) → Higher ps qs → Higher (ps ++ a) qs
higher_than_more ps a [] h = absurd h
higher_than_more [] a (q ∷ qs) h = absurd h
higher_than_more (p ∷ ps) a (q ∷ qs) (inl h) = inl h
higher_than_more (p ∷ ps) a (q ∷ qs) (inr (e, h)) = inr (e, higher_than_more ps a qs h)

pub more_higher : (ps qs b : List ℕ) → Higher ps qs → Higher ps (qs ++ b)
more_higher ps [] b h = absurd h
more_higher [] (q ∷ qs) b h = absurd h
more_higher (p ∷ ps) (q ∷ qs) b (inl h) = inl h
more_higher (p ∷ ps) (q ∷ qs) b (inr (e, h)) = inr (e, more_higher ps qs b h)

-- higher than some picks and one more: higher than the picks, or they go on with a higher one
pub higher_at_last : (ps : List ℕ) (p : ℕ) (rs : List ℕ) → Higher (ps ++ (p ∷ [])) rs → Higher ps rs ⊎ ((r : ℕ) × (t : List ℕ) × (p < r) × (rs ≡ ps ++ (r ∷ t)))
higher_at_last ps p [] h = absurd (none ps h)
  where
    none : (ps : List ℕ) → Higher (ps ++ (p ∷ [])) [] → ⊥
    none [] h = h
    none (x ∷ ps) h = h
higher_at_last [] p (r ∷ rs) (inl h) = inr (r, rs, h, refl)
higher_at_last [] p (r ∷ rs) (inr (e, h)) = absurd (none_higher rs h)
higher_at_last (x ∷ ps) p (r ∷ rs) (inl h) = inl (inl h)
higher_at_last (x ∷ ps) p (r ∷ rs) (inr (e, h)) = by (higher_at_last ps p rs h)
  where
    by : Higher ps rs ⊎ ((y : ℕ) × (t : List ℕ) × (p < y) × (rs ≡ ps ++ (y ∷ t)))
        → Higher (x ∷ ps) (r ∷ rs) ⊎ ((y : ℕ) × (t : List ℕ) × (p < y) × (r ∷ rs ≡ x ∷ ps ++ (y ∷ t)))
    by (inl k) = inl (inr (e, k))
    by (inr (y, t, k, d)) = inr (y, t, k, cons_is (sym e) d)

-- some picks and one more are at most whatever goes on with it
pub at_most_more : (ps : List ℕ) (p : ℕ) (t : List ℕ) → AtMost (ps ++ (p ∷ [])) (ps ++ (p ∷ t))
at_most_more ps p [] = inl refl
at_most_more ps p (x ∷ t) = inr (along (Before (ps ++ (p ∷ []))) (append_snoc ps p (x ∷ t)) (longer_before (ps ++ (p ∷ [])) x t))

-- ---- the least is one, and the least above a given one is one

module _ {P : List ℕ → Type 0} where
  pub one_least : {qs rs : List ℕ} → Least P qs → Least P rs → qs ≡ rs
  one_least {qs} {rs} x y = antisymmetric qs rs (x.least rs y.has) (y.least qs x.has)

  pub one_least_above : {ps qs rs : List ℕ} → LeastAbove P ps qs → LeastAbove P ps rs → qs ≡ rs
  one_least_above {ps} {qs} {rs} x y = antisymmetric qs rs (x.least rs y.has y.above) (y.least qs x.has x.above)
