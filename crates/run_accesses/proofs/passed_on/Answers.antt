-- `passed_on_lem` meets its contract. Assumes nothing.
use native.Mathlib.Omega.{arith}
use mathlib.Core.Path.{◌∙◌}
use borrow.Author.Tests.{eq-eqb, ne_eqb}
use borrow.Author.Rules.{rules}
use Rattle.run_accesses.specs.Inner.Accesses.{passed_of}
use Rattle.run_accesses.proofs.passed_on.Goals as goal

pub returns-then-setting-eq1 : goal.returns-then-setting-eq1
unfolding passed_of
returns-then-setting-eq1 c = rw (eq-eqb c.args.setting.version 1 (omega (arith, c.if-setting-eq1.true)))

pub returns : goal.returns
unfolding passed_of
returns c = c.new.ensures.exact ∙ rw (ne_eqb c.args.setting.version 1 (λ e. omega (arith, c.if-setting-eq1.false)))
