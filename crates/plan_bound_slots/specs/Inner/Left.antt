-- Names for what is left to see of an expression: no reader of the entry's promise needs them. Assumes nothing.
use Rattle.std.specs.Prelude.{ℕ, ◌<◌, Bool, List}
use Rattle.std.specs.declared.ops.ControlFlow.{ControlFlow}
use Rattle.std.specs.declared.ops.ControlFlow.TheVariants.{Continue, Break}
use Rattle.plan_packed.specs.Slots.{closed}
use Rattle.plan_packed.specs.Inner.Steps.{slots, tree_in}

-- what is left: nothing, and this was seen; or the term of an index, with what is bound there
abbrev pub Rest : Type 0
Rest = ControlFlow Bool (ℕ × ℕ)

-- whether all slots are bound, once what is left is seen
unfoldable pub seen : List ℕ → Rest → Bool
unfolding closed tree_in slots
seen words (Break closed) = closed
seen words (Continue (t, m)) = closed (slots m) (tree_in words t)

-- what is left comes after term t
abbrev pub After : ℕ → Rest → Type 0
After t (Break closed) = Unit {0}
After t (Continue (x, m)) = (t < x) × (x < 1024)
