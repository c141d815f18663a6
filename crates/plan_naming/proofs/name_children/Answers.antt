-- `name_children`: as many children as the row of the tag has.
use mathlib.Core.Path.{◌≡◌, ap, sym, subst, ◌∙◌}
use mathlib.Core.List.{List}
use Prim.Native.Nat.{ℕ, ◌+◌, ◌*◌, ◌<◌}
use native.Mathlib.Omega.{arith}
use lib.ListN.{get_or}
use Rattle.plan_packed.specs.Format.{tag_count}
use Rattle.plan_packed.specs.Inner.Rows.{number_at}
use Rattle.plan_packed.specs.Inner.Steps.{Child, tag_in, lower_all, count_all}
use Rattle.plan_naming.proofs.Operands.{all_operands, none_left, absent, lower_step, count_step, named_all}
use Rattle.plan_naming.proofs.name_children.Goals as goal
use Rattle.plan_naming.proofs.name_children.Goals.{After-tag-tag}

-- the tag is one of the table
small : (c : After-tag-tag) → c.tag-tag.result < tag_count
unfolding tag_in
small c = subst (λ (k : ℕ). k < tag_count) (sym c.tag-tag.ensures) (c.requires.tagged c.args.term)

pub loop-operand-init : goal.loop-operand-init
loop-operand-init c =
    let a = c.args in
    let e = all_operands (get_or a.words.now a.term 0) c.tag-tag.result in
    (ap (λ (ks : List Child). lower_all a.words.now ks a.best) e, ap (λ (ks : List Child). count_all ks a.times.now) e)

pub number-sort-requires-clause-tag_lt_tag_count : goal.number-sort-requires-clause-tag_lt_tag_count
number-sort-requires-clause-tag_lt_tag_count c = (small (goal.at.number-sort-requires-clause-tag_lt_tag_count c).After-tag-tag, omega arith)

pub returns-then-sort-eq0 : goal.returns-then-sort-eq0
returns-then-sort-eq0 c =
    let a = c.args in
    let l = c.loop-operand in
    let k = c.tag-tag.result in
    let none = absent (get_or a.words.now a.term 0) k l.operand c.loop-operand-test.true (sym c.number-sort.ensures ∙ c.if-sort-eq0.true) in
    let both = named_all a.words.now a.term k l.operand none a.best l.least a.times.now l.times c.tag-tag.ensures
    (small (goal.at.returns-then-sort-eq0 c).After-tag-tag) l.invariant.0 l.invariant.1 in
    record { value = both.0; times_after = both.1 }

pub child-child-requires-clause-tag_lt_tag_count : goal.child-child-requires-clause-tag_lt_tag_count
child-child-requires-clause-tag_lt_tag_count c = (small (goal.at.child-child-requires-clause-tag_lt_tag_count c).After-tag-tag, omega arith)

pub loop-operand-preserved : goal.loop-operand-preserved
loop-operand-preserved c =
    let a = c.args in
    let l = c.loop-operand in
    let w = get_or a.words.now a.term 0 in
    let k = c.tag-tag.result in
    let h = c.loop-operand-test.true in
    let e = λ (q : number_at k (4 + 2 * l.operand) ≡ 0). c.if-sort-eq0.false (c.number-sort.ensures ∙ q) in (
      lower_step w k l.operand h e a.words.now l.least c.name-least.result _
          (rw (c.number-sort.ensures, c.child-child.ensures) at c.name-least.ensures.value) l.invariant.0,
      count_step w k l.operand h e l.times c.name-least.new.times _
          (rw (c.number-sort.ensures, c.child-child.ensures) at c.name-least.ensures.times_after) l.invariant.1,
    )

pub returns : goal.returns
returns c =
    let a = c.args in
    let l = c.loop-operand in
    let k = c.tag-tag.result in
    let none = none_left (get_or a.words.now a.term 0) k l.operand (omega arith) in
    let both = named_all a.words.now a.term k l.operand none a.best l.least a.times.now l.times c.tag-tag.ensures
    (small (goal.at.returns c).After-tag-tag) l.invariant.0 l.invariant.1 in
    record { value = both.0; times_after = both.1 }
