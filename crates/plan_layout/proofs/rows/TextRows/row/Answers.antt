-- `rows::row` meets its contract. Assumes nothing.
use Prim.Native.Nat.{ℕ}
use mathlib.Core.Path.{ap, ◌∙◌}
use mathlib.Core.List.{List, []}
use lib.ListN.{get_or}
use Rattle.plan_layout.proofs.RowLaws.{row_is}
use Rattle.plan_layout.proofs.rows.TextRows.row.Goals as goal

pub returns : goal.returns
returns c =
    ap (λ (k : ℕ). get_or c.self.inside.table k []) c.wide.ensures.0
    ∙ ap (λ (l : List (List ℕ)). get_or l c.args.token []) c.self.invariant
    ∙ row_is c.args.token c.requires
