-- `hand`: the list of one.
use borrow.Author.Rules.{rules}
use Rattle.plan_scopes.specs.Inner.Scopes.{hand_all}
use Rattle.plan_scopes.proofs.hand.Goals as goal

pub returns : goal.returns
unfolding hand_all
returns c = search rules
