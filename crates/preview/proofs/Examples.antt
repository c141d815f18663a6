-- The worked examples of previews, by computation: one theorem over all rows. Assumes nothing.
use mathlib.Core.Path.{◌≡◌, refl}
use mathlib.Core.List.{map}
use Rattle.run_keys.specs.Keys.{holds, count_new}
use Rattle.preview.specs.Preview.{previewed}
use Rattle.preview.specs.Examples.{Example, examples}

-- every example comes out as its row says
pub examples_hold : map (λ (x : Example). previewed x.plan x.schedule x.pick) examples ≡ map (λ (x : Example). x.expected) examples
unfolding previewed examples count_new holds
examples_hold = refl
