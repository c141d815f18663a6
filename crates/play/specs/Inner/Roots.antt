-- The roots of a plan as numbers. No reader of the entry's promise needs it. Assumes nothing.
use Rattle.std.specs.Prelude.{ℕ, ◌<◌, ◌≡◌, List, get_or}
use Rattle.plan_packed.specs.Format.{root}

-- the roots of the first n procedures
abbrev pub Roots : List ℕ → ℕ → List ℕ → Type 0
Roots b n rs = (p : ℕ) → p < n → get_or rs p 0 ≡ root b p
