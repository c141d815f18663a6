-- What the code finds of the last pick, case by case. Assumes nothing.
use Prim.Native.Nat.{ℕ, ◌≤◌, ◌<◌}
use mathlib.Core.Path.{◌≡◌}
use mathlib.Core.List.{List}
use lib.ListN.{get_or}
use borrow.Author.Tests.{lt-ltb, le-ltb, eq-eqb, ne_eqb}
use Rattle.run_outcome.specs.declared.NoRoom.{NoRoom}
use Rattle.run_outcome.specs.declared.Stop.TheVariants as stop
use Rattle.run_open_threads.specs.Inner.Open.{absent}
use Rattle.run_outcome.specs.declared.Outcome.{Outcome}
use Rattle.run_last_pick.specs.declared.Preview.TheVariants as previewed
use Rattle.run_last_pick.specs.Inner.LastPick.{last_record, last_ended, last_met, last_pick}

module _ (o : Outcome) (moves records before pick : ℕ) (log : List ℕ) where
  pub early : o.picks < before → last_pick o moves records before pick log ≡ previewed.Stopped o.stop
  unfolding last_pick
  early h = rw (lt-ltb _ _ h)

  module _ (h : before ≤ o.picks) where
    pub full : (k : NoRoom) → o.stop ≡ stop.NoRoom k → last_pick o moves records before pick log ≡ previewed.NoRoom k
    unfolding last_pick last_met
    full k e = rw (le-ltb _ _ h, e)

    pub raced : o.stop ≡ stop.Race → last_pick o moves records before pick log ≡ previewed.Race (last_record log o)
    unfolding last_pick last_met
    raced e = rw (le-ltb _ _ h, e)

    module _ (e : o.stop ≡ stop.End) where
      pub passed : o.moves ≡ moves → last_pick o moves records before pick log ≡ previewed.Passed (get_or o.threads pick absent).state
      unfolding last_pick last_met last_ended
      passed m = rw (le-ltb _ _ h, e, eq-eqb _ _ m)

      module _ (m : o.moves ≡ moves → ⊥) where
        pub moved : o.records ≡ records → last_pick o moves records before pick log ≡ previewed.Moved
        unfolding last_pick last_met last_ended
        moved n = rw (le-ltb _ _ h, e, ne_eqb _ _ m, eq-eqb _ _ n)

        pub recorded : (o.records ≡ records → ⊥) → last_pick o moves records before pick log ≡ previewed.Recorded (last_record log o)
        unfolding last_pick last_met last_ended
        recorded n = rw (le-ltb _ _ h, e, ne_eqb _ _ m, ne_eqb _ _ n)
