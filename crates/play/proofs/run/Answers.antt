-- `run` meets its contract. Assumes nothing.
use native.Mathlib.Omega.{arith}
use mathlib.Core.Path.{refl}
use Rattle.play.proofs.Explores.{alone}
use Rattle.play.proofs.run.Goals as goal

pub explore-explored-requires : goal.explore-explored-requires
explore-explored-requires c =
    let g = c.requires in
    (g, record { few = omega arith; wide = omega arith })

pub returns : goal.returns
returns c =
    let a = c.args in
    let e = c.explore-explored in
    alone a.every a.plan.now a.picks.now a.log.now _ _ _ e.result refl e.ensures
