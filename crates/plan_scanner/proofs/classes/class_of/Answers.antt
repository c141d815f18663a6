-- `class_of` meets its contract: the classes are in the order of the bytes. Assumes nothing.
use Prim.Native.Nat.{ℕ}
use mathlib.Core.Path.{ap, ◌∙◌}
use lib.ListN.{get_or}
use borrow.Author.Rules.{rules}
use Rattle.plan_scanner.specs.Inner.Classes.{Classed}
use Rattle.plan_scanner.proofs.classes.class_of.Goals as goal

pub returns : goal.returns
unfolding Classed
returns c =
    (ap (λ (k : ℕ). get_or c.args.classes.now k 0) c.wide.ensures.0 ∙ c.requires c.args.byte (search rules), search rules)
