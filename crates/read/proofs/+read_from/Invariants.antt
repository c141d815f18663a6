-- `read_from` calls itself with the next arrays where these are too short: the measure is how many are left.
use Prim.Native.Nat.{◌-◌}
use Rattle.read.proofs.+read_from.Given as goal

abbrev pub decreases-read_from : goal.decreases-read_from
decreases-read_from l = 3 - l.size
