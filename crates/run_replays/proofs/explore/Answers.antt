-- `explore` meets its contract. Assumes nothing.
use native.Mathlib.Omega.{arith}
use borrow.Author.Rules.{rules}
use Rattle.run_replays.proofs.Places.{explores}
use Rattle.run_replays.proofs.explore.Goals as goal

pub explore-requires : goal.explore-requires
explore-requires c =
    let p = c.requires in (
      record {
        plan_passes = p.accepted.plan_passes;
        loaded = p.accepted.loaded;
        few = omega (arith, p.room, p.few);
        small = λ j h. omega (arith, p.of_eight j h);
        wide = omega (arith, p.room, p.few);
      },
      record { few = omega (arith, p.few); wide = omega (arith, p.few) },
    )

pub returns : goal.returns
returns c = explores c.explore.ensures c.requires.room
