-- `go_of` meets its contract. Assumes nothing.
use mathlib.Core.Path.{sym, ap}
use Rattle.run_pick.specs.declared.Begun.{Begun}
use Rattle.run_pick.specs.Inner.Pick.{go_of}
use borrow.Author.Rules.{rules}
use Rattle.run_pick.proofs.go_of.Goals as goal

pub returns-in-Acted : goal.returns-in-Acted
returns-in-Acted c = ap (λ (b : Begun). go_of b) (sym c.in-Acted.is)
