-- `operand_count`: an arm to each tag. Assumes nothing.
use native.Mathlib.Omega.{arith}
use mathlib.Core.Path.{◌≡◌}
use Rattle.plan_parsing.specs.Goals.{operand_counts}
use Rattle.format.proofs.Ranges.{past_all}
use Rattle.plan_parser.proofs.terms.operand_count.Goals as goal

pub returns-in-0 : goal.returns-in-0
unfolding operand_counts
returns-in-0 c = rw c.in-0.is

pub returns-in-1 : goal.returns-in-1
unfolding operand_counts
returns-in-1 c = rw c.in-1.is

pub returns-in-2 : goal.returns-in-2
unfolding operand_counts
returns-in-2 c = rw c.in-2.is

pub returns-in-3 : goal.returns-in-3
unfolding operand_counts
returns-in-3 c = rw c.in-3.is

pub returns-in-4 : goal.returns-in-4
unfolding operand_counts
returns-in-4 c = rw c.in-4.is

pub returns-in-5 : goal.returns-in-5
unfolding operand_counts
returns-in-5 c = rw c.in-5.is

pub returns-in-6 : goal.returns-in-6
unfolding operand_counts
returns-in-6 c = rw c.in-6.is

pub returns-in-7 : goal.returns-in-7
unfolding operand_counts
returns-in-7 c = rw c.in-7.is

pub returns-in-8 : goal.returns-in-8
unfolding operand_counts
returns-in-8 c = rw c.in-8.is

pub returns-in-9 : goal.returns-in-9
unfolding operand_counts
returns-in-9 c = rw c.in-9.is

pub returns-in-10 : goal.returns-in-10
unfolding operand_counts
returns-in-10 c = rw c.in-10.is

pub returns-in-11 : goal.returns-in-11
unfolding operand_counts
returns-in-11 c = rw c.in-11.is

pub returns-in-12 : goal.returns-in-12
unfolding operand_counts
returns-in-12 c = rw c.in-12.is

pub returns-in-13 : goal.returns-in-13
unfolding operand_counts
returns-in-13 c = rw c.in-13.is

pub returns-in-14 : goal.returns-in-14
unfolding operand_counts
returns-in-14 c = rw c.in-14.is

pub returns-in-15 : goal.returns-in-15
unfolding operand_counts
returns-in-15 c = rw c.in-15.is

pub returns-in-16 : goal.returns-in-16
unfolding operand_counts
returns-in-16 c = rw c.in-16.is

pub returns-in-17 : goal.returns-in-17
unfolding operand_counts
returns-in-17 c = rw c.in-17.is

pub returns-in-18 : goal.returns-in-18
unfolding operand_counts
returns-in-18 c = rw c.in-18.is

pub returns-in-19 : goal.returns-in-19
unfolding operand_counts
returns-in-19 c = rw c.in-19.is

pub returns-in_default : goal.returns-in_default
unfolding operand_counts
returns-in_default c =
    let h = past_all 20 c.args.tag c.in_default.in_default-own.rest in
    let k = c.requires in
    let e : c.args.tag ≡ 20 = omega arith in
    rw e
