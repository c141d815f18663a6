-- `looks::ends` meets its contract. Assumes nothing.
use Prim.Native.Nat.{ℕ, ◌/◌, ◌%◌}
use mathlib.Core.Path.{ap, ◌∙◌}
use native.Mathlib.Omega.{arith}
use mathlib.Core.List.{[]}
use lib.Dec.{eqb}
use lib.ListN.{get_or}
use Rattle.plan_pen.proofs.LookLaws.{ahead_at, ends_is}
use Rattle.plan_pen.proofs.looks.Looks.ends.Goals as goal

pub returns : goal.returns
returns c =
    ap (λ (k : ℕ). eqb ((get_or (get_or c.self.inside.rows k []) 1 0) / 64 % 2) 1) c.wide.ensures.0
    ∙ ap (λ (v : ℕ). eqb (v / 64 % 2) 1) (ahead_at _ c.self.invariant c.args.token (omega (arith, c.requires)))
    ∙ ends_is c.args.token c.requires
