-- A tag occurs among the words of a plan's terms exactly where it occurs in the plan. Assumes nothing.
use Prim.Native.Nat.{ℕ}
use mathlib.Core.Path.{◌≡◌, ap, ◌∙◌}
use mathlib.Core.List.{List}
use lib.Dec.{eqb}
use Rattle.plan_packed.specs.Format.{terms, tag_at}
use Rattle.plan_packed.specs.Refusals.{any_below}
use Rattle.plan_packed.specs.Inner.Steps.{tag_in, Loaded}
use Rattle.plan_packed.proofs.SortLaws.{tags_are}
use Rattle.costs.proofs.Below.{any_same}

pub tag_in_lem : (b words : List ℕ) → Loaded b (terms b) words → (m k : ℕ) → m ≡ terms b
    → any_below m (λ t. eqb (tag_in words t) k) ≡ any_below (terms b) (λ t. eqb (tag_at b t) k)
tag_in_lem b words loaded m k e =
    ap (λ (n : ℕ). any_below n (λ t. eqb (tag_in words t) k)) e
    ∙ any_same (terms b) (λ t. eqb (tag_in words t) k) (λ t. eqb (tag_at b t) k) (λ t h. ap (λ (n : ℕ). eqb n k) (tags_are b (terms b) words loaded t h))
