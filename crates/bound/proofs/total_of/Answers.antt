-- `total_of`: checks 21 to 23 in their order, each by its definition.
use mathlib.Core.Path.{◌≡◌, refl, sym, ap, ◌∙◌}
use mathlib.Core.Bool.{Bool, true, false, not}
use Prim.Native.Nat.{ℕ, ◌<◌}
use native.Mathlib.Omega.{arith}
use borrow.Author.Tests.{not-true, not-false}
use Rattle.run_keys.specs.Keys.{holds}
use Rattle.plan_packed.specs.Trees.{program_of}
use Rattle.plan_packed.proofs.Accepted.{accepted}
use Rattle.costs.specs.Calls.{cyclic}
use Rattle.bound.proofs.Bodies.{few_procedures}
use Rattle.bound.proofs.Answers.{left_cyclic, all_acyclic, total_in, main_cost, while_in_lem, answer_21, answer_22, answer_23, answer_moves}
use Rattle.bound.proofs.total_of.Goals as goal
use Rattle.bound.proofs.total_of.Goals.{Else-lowest_left-procedures}

pub lowest_left-requires : goal.lowest_left-requires
lowest_left-requires c = let m = few_procedures c.requires.loads in omega arith

pub returns-then-lowest_left-procedures : goal.returns-then-lowest_left-procedures
returns-then-lowest_left-procedures c =
    let k = c.calls-calls.ensures in
    rw c.at.ensures (answer_21 c.requires.loads (left_cyclic c.requires.loads k c.settle-done.result c.settle-done.ensures.stuck c.lowest_left.result c.if-lowest_left-procedures.true
    (not-true _ (c.lowest_left.ensures.here c.if-lowest_left-procedures.true))))

-- every procedure is known
all_known : (c : Else-lowest_left-procedures) → (p : ℕ) → p < c.args.procedures
    → holds c.settle-done.result p ≡ true
all_known c p h = not-false (holds c.settle-done.result p) (c.lowest_left.ensures.before p (let e = c.if-lowest_left-procedures.false in omega arith))

pub occurs-requires : goal.occurs-requires
occurs-requires c =
    let t = c.requires.count_value in
    let a = (accepted c.args.plan.now c.requires.loads.passes).few_terms in
    omega arith

pub returns-then-occurs : goal.returns-then-occurs
returns-then-occurs c =
    rw c.at-then-occurs.ensures (answer_22 c.requires.loads (all_acyclic c.requires.loads c.settle-done.ensures.settled (all_known (goal.at.returns-then-occurs c).Else-lowest_left-procedures))
    (sym (while_in_lem c.requires.loads c.args.count c.requires.count_value) ∙ sym c.occurs.ensures ∙ c.if-occurs.true))

pub overflow_add-total : goal.overflow_add-total
overflow_add-total c =
    omega (arith, main_cost c.requires.loads c.settle-done.ensures.settled (all_known (goal.at.overflow_add-total c).Else-lowest_left-procedures))

pub returns-then-total-gt65535 : goal.returns-then-total-gt65535
returns-then-total-gt65535 c =
    let S = c.settle-done.ensures.settled in
    rw c.at-then-total-gt65535.ensures (answer_23 c.requires.loads (all_acyclic c.requires.loads S (all_known (goal.at.returns-then-total-gt65535 c).Else-lowest_left-procedures)) (sym (while_in_lem c.requires.loads c.args.count c.requires.count_value) ∙ sym c.occurs.ensures
    ∙ c.if-occurs.false)
    _ (total_in c.requires.loads S (all_known (goal.at.returns-then-total-gt65535 c).Else-lowest_left-procedures) _ refl) c.if-total-gt65535.true)

pub returns : goal.returns
returns c =
    let S = c.settle-done.ensures.settled in
    answer_moves c.requires.loads (all_acyclic c.requires.loads S (all_known (goal.at.returns c).Else-lowest_left-procedures)) (sym (while_in_lem c.requires.loads c.args.count c.requires.count_value) ∙ sym c.occurs.ensures
    ∙ c.if-occurs.false)
    _ (total_in c.requires.loads S (all_known (goal.at.returns c).Else-lowest_left-procedures) _ refl) c.if-total-gt65535.false
