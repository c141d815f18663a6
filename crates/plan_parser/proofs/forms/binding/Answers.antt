-- `binding`: an arm to each form. Assumes nothing.
use Rattle.plan_parser_goals.proofs.FormTable.{binding_at}
use Rattle.format.proofs.Ranges.{past_all}
use native.Mathlib.Omega.{arith}
use mathlib.Core.Path.{◌≡◌}
use borrow.Author.Rules.{rules}
use Rattle.plan_parser.proofs.forms.binding.Goals as goal

pub returns-in-0 : goal.returns-in-0
returns-in-0 c = rw c.in-0.is (binding_at 0 (search rules))

pub returns-in-1 : goal.returns-in-1
returns-in-1 c = rw c.in-1.is (binding_at 1 (search rules))

pub returns-in-2 : goal.returns-in-2
returns-in-2 c = rw c.in-2.is (binding_at 2 (search rules))

pub returns-in-3 : goal.returns-in-3
returns-in-3 c = rw c.in-3.is (binding_at 3 (search rules))

pub returns-in-4 : goal.returns-in-4
returns-in-4 c = rw c.in-4.is (binding_at 4 (search rules))

pub returns-in-5 : goal.returns-in-5
returns-in-5 c = rw c.in-5.is (binding_at 5 (search rules))

pub returns-in-6 : goal.returns-in-6
returns-in-6 c = rw c.in-6.is (binding_at 6 (search rules))

pub returns-in-7 : goal.returns-in-7
returns-in-7 c = rw c.in-7.is (binding_at 7 (search rules))

pub returns-in-8 : goal.returns-in-8
returns-in-8 c = rw c.in-8.is (binding_at 8 (search rules))

pub returns-in-9 : goal.returns-in-9
returns-in-9 c = rw c.in-9.is (binding_at 9 (search rules))

pub returns-in-10 : goal.returns-in-10
returns-in-10 c = rw c.in-10.is (binding_at 10 (search rules))

pub returns-in-11 : goal.returns-in-11
returns-in-11 c = rw c.in-11.is (binding_at 11 (search rules))

pub returns-in-12 : goal.returns-in-12
returns-in-12 c = rw c.in-12.is (binding_at 12 (search rules))

pub returns-in_default : goal.returns-in_default
returns-in_default c =
    let h = past_all 13 c.args.form c.in_default.in_default-own.rest in
    let k = c.requires in
    let e : c.args.form ≡ 13 = omega arith in
    rw e (binding_at 13 (search rules))
