-- `looks::begins` meets its contract. Assumes nothing.
use Prim.Native.Nat.{ℕ}
use mathlib.Core.Path.{ap, ◌∙◌}
use native.Mathlib.Omega.{arith}
use mathlib.Core.List.{[]}
use lib.Dec.{leb}
use lib.ListN.{get_or}
use Rattle.plan_pen.proofs.LookLaws.{ahead_at, begins_is}
use Rattle.plan_pen.proofs.looks.Looks.begins.Goals as goal

pub returns : goal.returns
returns c =
    ap (λ (k : ℕ). leb 128 (get_or (get_or c.self.inside.rows k []) 1 0)) c.wide.ensures.0
    ∙ ap (λ (v : ℕ). leb 128 v) (ahead_at _ c.self.invariant c.args.token (omega (arith, c.requires)))
    ∙ begins_is c.args.token c.requires
