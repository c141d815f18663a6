-- The plans that are left out (document 02, E10: "Plans of version 0 or with a wait are left out."). Assumes nothing.
use Rattle.std.specs.Prelude.{ℕ, Bool, ◌||◌, List, eqb}
use Rattle.plan_packed.specs.Format.{version, terms, tag_at}
use Rattle.plan_packed.specs.Refusals.{any_below}

-- "a term of tag 18", wherever it stands
unfoldable pub has_wait : List ℕ → Bool
unfolding any_below terms tag_at
has_wait b = any_below (terms b) (λ t. eqb (tag_at b t) 18)

-- 15: "the plan has version 0 or a term of tag 18"
unfoldable pub left_out : List ℕ → Bool
unfolding version has_wait
left_out b = eqb (version b) 0 || has_wait b
