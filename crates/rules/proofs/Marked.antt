-- The marked cases of document 01's shot list, by computation: one theorem over all rows. What the judge says of them is `marked_judged`, of
-- `agreement`. Assumes nothing.
use mathlib.Core.Path.{◌≡◌, refl}
use mathlib.Core.List.{map}
use Rattle.run_keys.specs.Keys.{holds, count_new}
use Rattle.rules.specs.ShotList.{Shot, shots}
use Rattle.rules.specs.Observed.{observed}

-- every marked case comes out as the list says
pub marked : map observed shots ≡ map (λ (x : Shot). x.expected) shots
unfolding observed shots count_new holds
marked = refl
