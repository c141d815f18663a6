-- `values` meets its contract. The loop's invariant: the values so far, below those that the codes from here tell, are all of them. Assumes nothing.
use mathlib.Core.Path.{◌≡◌}
use Prim.Native.Nat.{◌<◌, ◌+◌, ◌-◌, ◌*◌, ◌^◌}
use Rattle.run_lists.specs.Inner.Lists.{values_of}
use Rattle.run_lists.proofs.values.Given as goal

abbrev pub invariant-loop-place : goal.invariant-loop-place
invariant-loop-place l =
    (l.values < 2 ^ (l.place * 5)) × (l.values + values_of (8 - l.place) l.environment l.codes * 2 ^ (l.place * 5) ≡ values_of 8 l.environment l.told)
