-- The cases of wait and notify, by computation: one theorem over all rows. Assumes nothing.
use mathlib.Core.Path.{◌≡◌, refl}
use mathlib.Core.List.{map}
use Rattle.run_keys.specs.Keys.{holds, count_new}
use Rattle.rules.specs.ShotList.{Shot}
use Rattle.rules.specs.WaitShots.{wait_shots}
use Rattle.rules.specs.Observed.{observed}

-- every case comes out as the list says
pub observed_waits : map observed wait_shots ≡ map (λ (x : Shot). x.expected) wait_shots
unfolding observed wait_shots count_new holds
observed_waits = refl
