-- A procedure's root, seen with the procedure's parameters bound. Assumes nothing.
use mathlib.Core.Path.{◌≡◌}
use mathlib.Core.Bool.{Bool, not}
use mathlib.Core.List.{List}
use Prim.Native.Nat.{ℕ, ◌+◌, ◌*◌, ◌≤◌, ◌<◌}
use native.Mathlib.Omega.{arith}
use lib.Dec.{ltb}
use lib.ListN.{length}
use Rattle.plan_packed.specs.Format.{parameters, root}
use Rattle.plan_packed.specs.Slots.{closed}
use Rattle.plan_packed.specs.Refusals.{uses_unbound_slot}
use Rattle.plan_packed.specs.Inner.Steps.{Right, Loaded, Ordered, tree_in}
use Rattle.plan_packed.proofs.Reading.{procedures_lt}
use Rattle.plan_packed.proofs.Shown.{parameters_small, root_below}
use Rattle.plan_packed.proofs.NodeOrder.{ordered, tree_is}

module _ {plan : List ℕ} {procedures n : ℕ} (r : Right plan procedures n) (p : ℕ) (h : p < procedures) where
  pub there : (p < 64) × (8 + 2 * p + 2 ≤ length plan)
  there = let z = r.headed.sized in (omega (arith, z, procedures_lt plan), omega (arith, z))

  -- the parameters
  few : {k : ℕ} → k ≡ parameters plan p → k < 64
  few e = omega (arith, parameters_small plan procedures n p r.headed h)

  module _ {words : List ℕ} (l : Loaded plan n words) {t : ℕ} (f : t ≡ root plan p) where
    pub root_call : {k : ℕ} → k ≡ parameters plan p → Ordered words × (t < 1024) × (k < 64)
    root_call e =
        let m = r.headed.few in
        (ordered plan procedures n r words l, omega (arith, f, root_below plan procedures n p r.headed h), few e)

    pub opens : {k : ℕ} {x : Bool} → k ≡ parameters plan p → x ≡ closed (λ s. ltb s k) (tree_in words t) → uses_unbound_slot plan p ≡ not x
    unfolding uses_unbound_slot
    opens e g = rw (g, e, tree_is plan procedures n r words l t, f)
