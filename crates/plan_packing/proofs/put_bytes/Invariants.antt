-- `put_bytes`: with the bytes that are left, the area is what it is to be.
use Prim.Native.Nat.{◌+◌, ◌-◌}
use mathlib.Core.Path.{◌≡◌}
use lib.Seq.{sets}
use Rattle.plan_written.specs.Written.{bytes_of}
use Rattle.plan_packing.proofs.put_bytes.Given as goal

abbrev pub invariant-loop-place : goal.invariant-loop-place
invariant-loop-place g l =
    sets l.area (l.at + l.place) (bytes_of (l.place-end - l.place) l.number) ≡ sets l.initial.area l.at (bytes_of l.place-end l.number)
