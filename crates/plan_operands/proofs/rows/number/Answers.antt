-- `number`: the rows are those of the table.
use mathlib.Core.Path.{ap}
use mathlib.Core.List.{List, []}
use Prim.Native.Nat.{ℕ}
use borrow.Author.Rules.{rules}
use lib.ListN.{get_or}
use Rattle.plan_packed.specs.Inner.Rows.{number_at}
use Rattle.plan_operands.proofs.rows.number.Goals as goal

pub returns : goal.returns
unfolding number_at
returns c = ap (λ (x : List (List ℕ)). get_or (get_or x c.args.tag []) c.args.column 0) c.requires.rows_value
