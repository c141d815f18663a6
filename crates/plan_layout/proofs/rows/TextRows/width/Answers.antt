-- `width` meets its contract: the first number of a token's row. Assumes nothing.
use Prim.Native.Nat.{ℕ}
use mathlib.Core.Path.{ap, ◌∙◌}
use mathlib.Core.List.{List, []}
use lib.ListN.{get_or}
use Rattle.plan_layout.proofs.RowLaws.{first_is}
use Rattle.plan_layout.proofs.rows.TextRows.width.Goals as goal

pub returns : goal.returns
returns c =
    c.wide-2.ensures.0
    ∙ ap (λ (k : ℕ). get_or (get_or c.self.inside.table k []) 0 0) c.wide.ensures.0
    ∙ ap (λ (l : List (List ℕ)). get_or (get_or l c.args.token []) 0 0) c.self.invariant
    ∙ first_is c.args.token c.requires
