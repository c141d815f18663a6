-- `all_counted` meets its contract. Assumes nothing.
use Prim.Native.Nat.{ℕ, ◌+◌, ◌≤◌}
use native.Mathlib.Omega.{arith}
use mathlib.Core.Path.{ap}
use lib.Dec.{eqb}
use Rattle.run_outcome.specs.declared.Stop.{Stop}
use Rattle.run_outcome.specs.declared.Stop.TheVariants as stop
use borrow.Author.Rules.{rules}
use Rattle.run_counted_picks.specs.Inner.Counted.{stop_count}
use Rattle.run_counted_picks.proofs.all_counted.Goals as goal

at_most_one : (e : Stop) → stop_count e ≤ 1
at_most_one stop.End = omega arith
at_most_one stop.Race = omega arith
at_most_one (stop.NoRoom k) = omega arith

pub overflow_add-result : goal.overflow_add-result
overflow_add-result c = record { fits = omega (arith, c.stop_count.ensures, at_most_one c.args.stop, c.requires) }

pub returns : goal.returns
returns c = ap (λ (n : ℕ). eqb (c.args.moves + n) c.args.picks) c.stop_count.ensures
