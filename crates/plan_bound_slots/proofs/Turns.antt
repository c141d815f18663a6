-- The turns of a loop that sees a term and goes on with a later one. Assumes nothing.
use mathlib.Core.Path.{◌≡◌, refl, sym, ◌∙◌}
use mathlib.Core.Bool.{Bool}
use mathlib.Core.List.{List}
use Prim.Native.Nat.{ℕ, ◌-◌, ◌≤◌, ◌<◌}
use native.Mathlib.Omega.{arith}
use Rattle.plan_packed.specs.Inner.Steps.{Ordered}

-- of what is seen at term `from`, what is seen at term t is left
pub record Left (words : List ℕ) (sees : ℕ → Bool) (from t : ℕ) : Type 0 where
  pub ordered : Ordered words
  pub after : from ≤ t
  pub within : t < 1024
  pub same : sees t ≡ sees from

pub start : {words : List ℕ} {sees : ℕ → Bool} {from : ℕ} → Ordered words → from < 1024 → Left words sees from from
start o h = record { ordered = o; after = omega arith; within = h; same = refl }

-- and in the next turn at term x, which is later
abbrev pub Next : List ℕ → (ℕ → Bool) → ℕ → ℕ → ℕ → Type 0
Next words sees from t x = (1024 - x < 1024 - t) × Left words sees from x

pub on : {words : List ℕ} {sees : ℕ → Bool} {from t : ℕ} → Left words sees from t → (x : ℕ) → t < x → x < 1024 → sees t ≡ sees x → Next words sees from t x
on l x h k e =
    (omega (arith, l.within), record { ordered = l.ordered; after = omega (arith, l.after); within = k; same = sym e ∙ l.same })
