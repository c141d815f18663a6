-- Numbers that fit their bytes, as those of every run do. For inner contracts; no reader of the entries' promises needs it. Assumes nothing.
use Rattle.std.specs.Prelude.{◌<◌, ◌≡◌, List, [], ◌∷◌, length}
use Rattle.rules.specs.Run.{Status, Outcome}
use Rattle.rules.specs.Play as play
use Rattle.plan_refusals.specs.Inner.Small.{SmallRefusal}
use Rattle.abi_thread_bytes.specs.Inner.Small.{SmallStatus}

abbrev pub AllSmall : List Status → Type 0
AllSmall [] = Unit {0}
AllSmall (s ∷ ss) = SmallStatus s × AllSmall ss

pub record SmallOutcome (o : Outcome) : Type 0 where
  pub picks : o.picks < 65536
  pub moves : o.moves < 65536
  pub records : o.records < 65536
  pub threads : AllSmall o.threads
  pub eight : length o.threads ≡ 8

-- of what a play answers
abbrev pub SmallPlayed : play.Played → Type 0
SmallPlayed (play.Played.ran o) = SmallOutcome o
SmallPlayed (play.Played.refused r) = SmallRefusal r
