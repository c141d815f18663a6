-- "The order is dictionary order by thread number" (document 02, E11). Assumes nothing.
use Rattle.std.specs.Prelude.{ℕ, ◌<◌, ◌≡◌, List, [], ◌∷◌, ◌⊎◌}

-- nothing comes before the empty schedule, which comes before every other; else the first picks decide where they differ, and the rest where they do not
abbrev pub Before : List ℕ → List ℕ → Type 0
Before ps [] = ⊥
Before [] (q ∷ qs) = Unit {0}
Before (p ∷ ps) (q ∷ qs) = (p < q) ⊎ ((p ≡ q) × Before ps qs)

-- the same schedule, or one before
abbrev pub AtMost : List ℕ → List ℕ → Type 0
AtMost ps qs = (ps ≡ qs) ⊎ Before ps qs

-- of the schedules that have a property
module _ (P : List ℕ → Type 0) where
  -- the least
  pub record Least (qs : List ℕ) : Type 0 where
    pub has : P qs
    pub least : (rs : List ℕ) → P rs → AtMost qs rs

  -- the least above a given one
  pub record LeastAbove (ps qs : List ℕ) : Type 0 where
    pub has : P qs
    pub above : Before ps qs
    pub least : (rs : List ℕ) → P rs → Before ps rs → AtMost qs rs

  -- there is none above a given one
  abbrev pub NoneAbove : List ℕ → Type 0
  NoneAbove ps = (rs : List ℕ) → P rs → Before ps rs → ⊥
