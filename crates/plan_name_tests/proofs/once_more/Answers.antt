-- `once_more`: by the comparison with 0.
use Rattle.plan_packed.specs.Inner.Steps.{more_of}
use Rattle.plan_packed.proofs.NameLaws.{more_suc}
use Rattle.plan_name_tests.proofs.once_more.Goals as goal

pub returns-then-times-eq0 : goal.returns-then-times-eq0
unfolding more_of
returns-then-times-eq0 c = rw c.if-times-eq0.true

pub returns-else-times-eq0 : goal.returns-else-times-eq0
returns-else-times-eq0 c = more_suc c.args.times c.if-times-eq0.false
