-- Worked examples of previews (document 02, E1): each way that a preview can come out. Assumes nothing.
use Rattle.std.specs.Prelude.{ℕ, List, [], ◌∷◌, ◌++◌, replicate}
use Rattle.std.proofs.Math.Option.{some, none}
use Rattle.log_records.specs.Record.{new, write, lacks_read, entry}
use Rattle.rules.specs.Step.{for_join, missing_field}
use Rattle.rules.specs.Room.{Room}
use Rattle.rules.specs.Run.{Stop, Status}
use Rattle.rules.specs.ShotList.{plan_p, plan_p54, join_null}
use Rattle.preview.specs.Preview.{passed, moved, race, no_room, stopped, Previewed, refused, shows}

-- an example: a plan, a schedule, the pick after it, and what the preview says
pub record Example : Type 0 where
  pub plan : List ℕ
  pub schedule : List ℕ
  pub pick : ℕ
  pub expected : Previewed

-- a row of these
abbrev example : List ℕ → List ℕ → ℕ → Previewed → Example
example b ps p x = record { plan = b; schedule = ps; pick = p; expected = x }

-- `null.1`
unfoldable pub read_null : List ℕ
read_null =
    0x10 ∷ 0x40 ∷ 0x08 ∷ 0x00  -- header
    ∷ 0x80 ∷ 0x00 ∷ 0x00 ∷ 0x00  -- volatile mask
    ∷ 0x00 ∷ 0x00  -- procedure 0
    ∷ 0x18 ∷ 0x02 ∷ 0x10 ∷ 0x00 ∷ 0x00  -- term 0
    ∷ 0x00 ∷ 0x00 ∷ 0x00 ∷ 0x00 ∷ 0x00  -- term 1
    ∷ []

-- `while true do fork null`
unfoldable pub fork_on : List ℕ
fork_on =
    0x10 ∷ 0x40 ∷ 0x10 ∷ 0x00  -- header
    ∷ 0x80 ∷ 0x00 ∷ 0x00 ∷ 0x00  -- volatile mask
    ∷ 0x00 ∷ 0x00  -- procedure 0
    ∷ 0x38 ∷ 0x02 ∷ 0x01 ∷ 0x00 ∷ 0x00  -- term 0
    ∷ 0x60 ∷ 0x00 ∷ 0x00 ∷ 0x00 ∷ 0x00  -- term 1
    ∷ 0x48 ∷ 0x06 ∷ 0x00 ∷ 0x00 ∷ 0x00  -- term 2
    ∷ 0x00 ∷ 0x00 ∷ 0x00 ∷ 0x00 ∷ 0x00  -- term 3
    ∷ []

-- P's picks before its race
unfoldable pub before_race : List ℕ
before_race = 0 ∷ 0 ∷ 0 ∷ 0 ∷ 0 ∷ 1 ∷ []

-- the rows
unfoldable pub examples : List Example
unfolding plan_p plan_p54 join_null read_null fork_on before_race
examples =
    -- moved: main's call has no record, its `new` and thread 1's write have one
    example plan_p [] 0 (shows (moved none))
    ∷ example plan_p (0 ∷ []) 0 (shows (moved (some (entry new 0 1 0 0))))
    ∷ example plan_p (0 ∷ 0 ∷ 0 ∷ 0 ∷ 0 ∷ []) 1 (shows (moved (some (entry write 1 1 1 0))))
    -- passed over: absent, finished with its value, waiting or stuck with its reason
    ∷ example plan_p [] 7 (shows (passed Status.absent))
    ∷ example plan_p before_race 1 (shows (passed (Status.finished 0)))
    ∷ example join_null (0 ∷ []) 0 (shows (passed (Status.waiting (for_join 0))))
    ∷ example read_null (0 ∷ []) 0 (shows (passed (Status.stuck (missing_field 0 1))))
    -- race, with its record
    ∷ example plan_p before_race 0 (shows (race (entry lacks_read 0 1 1 0)))
    -- no room: the eighth fork, after the call, seven turns of four moves each, and two moves of the eighth
    ∷ example fork_on (replicate 31 0) 0 (shows (no_room Room.thread))
    -- the schedule itself has stopped, also where its last pick is the stop
    ∷ example plan_p (before_race ++ (0 ∷ [])) 1 (shows (stopped Stop.race))
    ∷ example plan_p (before_race ++ (0 ∷ 1 ∷ 1 ∷ [])) 1 (shows (stopped Stop.race))
    ∷ example fork_on (replicate 32 0) 1 (shows (stopped (Stop.no_room Room.thread)))
    -- refused: "The pick counts as the schedule's last for refusals 8 and 9"
    ∷ example plan_p54 [] 0 (refused (record { number = 1; place = 0 }))
    ∷ example plan_p (replicate 4096 0) 8 (refused (record { number = 8; place = 0 }))
    ∷ example plan_p (0 ∷ 0 ∷ []) 8 (refused (record { number = 9; place = 2 }))
    ∷ example plan_p (0 ∷ 9 ∷ []) 8 (refused (record { number = 9; place = 1 }))
    ∷ []
