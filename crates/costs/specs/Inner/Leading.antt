-- How far calls lead on from a procedure, for inner contracts: no reader of the entry's promise needs it. Assumes nothing.
use Rattle.std.specs.Prelude.{ℕ, zero, suc, Bool, true, ◌&&◌, length}
use Rattle.plan_packed.specs.Syntax.{Program}
use Rattle.plan_packed.specs.Refusals.{any_below}
use Rattle.costs.specs.Calls.{called}

-- k calls lead on from procedure p
unfoldable pub leads_on : Program → ℕ → ℕ → Bool
unfolding called any_below
leads_on g zero p = true
leads_on g (suc k) p = any_below (length g.procedures) (λ q. called g p q && leads_on g k q)
