-- `copy_header`: eight bytes in place of an area's first eight. Assumes nothing.
use Prim.Native.Nat.{ℕ, ◌+◌, ◌≤◌}
use native.Mathlib.Omega.{arith}
use mathlib.Core.Path.{◌≡◌, sym, ap, ◌∙◌}
use mathlib.Core.List.{List, ◌++◌}
use lib.ListN.{length, take, drop}
use lib.Seq.{sets, sets-eq, length-take-le}
use Rattle.canonical.proofs.copy_header.Goals as goal

in_front : (plan area : List ℕ) → 8 ≤ length plan → 8 ≤ length area → take 8 plan ++ drop 8 area ≡ sets area 0 (take 8 plan)
in_front plan area h k =
    let long : 0 + length (take 8 plan) ≡ 8 = omega (arith, length-take-le 8 plan h) in
    sym (sets-eq (take 8 plan) area 0 (omega arith) ∙ ap (λ (n : ℕ). take 8 plan ++ drop n area) long)

pub returns : goal.returns
returns c = ap (λ (l : List ℕ). l ++ drop 8 c.args.area.now) c.copy_from_slice.ensures.after ∙ in_front c.args.plan.now c.args.area.now c.requires.0 c.requires.1
