-- `number`: the rows are those of the definition.
use mathlib.Core.Path.{ap, ◌∙◌}
use mathlib.Core.List.{List, []}
use Prim.Native.Nat.{ℕ}
use lib.ListN.{get_or}
use Rattle.plan_token_writer.specs.Inner.Items.{row_number}
use Rattle.plan_token_writer.proofs.rows.Rows.number.Goals as goal

pub returns : goal.returns
unfolding row_number
returns c =
    (c.wide.ensures.0 ∙ ap (λ (x : List (List ℕ)). get_or (get_or x c.args.row []) c.args.column 0) c.self.invariant, c.wide.ensures.1)
