-- `put_some` meets its contract. Assumes nothing.
use mathlib.Core.Path.{sym}
use mathlib.Core.List.{append-nil}
use Rattle.plan_lexer.proofs.KeptLaws.{kept_as}
use Rattle.plan_lexer.proofs.put_some.Goals as goal

pub returns-in-Some : goal.returns-in-Some
returns-in-Some c = rw c.in-Some.is c.put.ensures

pub returns-in-None : goal.returns-in-None
returns-in-None c = rw c.in-None.is (λ area codes k. kept_as (sym (append-nil codes)) k)
