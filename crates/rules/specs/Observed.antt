-- What comes of a case of the shot list. Assumes nothing.
use Rattle.std.specs.Prelude.{ℕ, ◌*◌, List, length, replicate, take}
use Rattle.rules.specs.Run.{log}
use Rattle.rules.specs.Play.{Played, run_of, played, area_after}
use Rattle.rules.specs.ShotList.{Expected, Shot}

-- a log area of just the length that is asked for
unfoldable pub area_for : List ℕ → List ℕ
area_for picks = replicate (3 * length picks) 0

-- the bytes of the records that a play wrote
unfoldable pub written : List ℕ → List ℕ → ℕ → List ℕ
unfolding area_after area_for
written plan picks records = take (3 * records) (area_after plan picks (area_for picks))

-- what comes of a plan and picks
unfoldable pub observed_of : List ℕ → List ℕ → Played → Expected
unfolding run_of log written
observed_of plan picks (Played.refused r) = Expected.refused r.number r.place
observed_of plan picks (Played.ran o) = Expected.ran o (log (run_of plan picks)) (written plan picks o.records)

-- what comes of a case
unfoldable pub observed : Shot → Expected
unfolding observed_of played area_for
observed x = observed_of x.plan x.picks (played x.plan x.picks (area_for x.picks))
