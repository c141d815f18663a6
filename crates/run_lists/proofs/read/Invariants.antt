-- `read` meets its contract. The loop's invariant: the codes so far, below those from here, are all of them, and the same of the count and the rest. Assumes
-- nothing.
use mathlib.Core.Path.{◌≡◌}
use Prim.Native.Nat.{ℕ, ◌<◌, ◌≤◌, ◌+◌, ◌-◌, ◌*◌, ◌^◌}
use Rattle.run_lists.specs.Inner.Lists.{codes_from, rest_from, count_from}
use Rattle.run_lists.proofs.read.Given as goal

abbrev pub invariant-loop-place : goal.invariant-loop-place
invariant-loop-place l =
    (l.codes < 2 ^ (l.place * 6)) × (l.count ≤ l.place)
    × ((x : ℕ) → l.codes + codes_from (8 - l.place) l.words l.at x * 2 ^ (l.place * 6) ≡ codes_from 8 l.words l.list x)
    × (rest_from (8 - l.place) l.words l.at ≡ rest_from 8 l.words l.list) × (l.count + count_from (8 - l.place) l.words l.at ≡ count_from 8 l.words l.list)
