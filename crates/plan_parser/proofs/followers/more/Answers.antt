-- `more` meets its contract. Assumes nothing.
use Rattle.plan_parser_goals.proofs.MoveLaws.{more_stops}
use Rattle.plan_parser_goals.proofs.Numbers.{more_goal}
use mathlib.Core.Path.{sym, ◌∙◌}
use Rattle.plan_parser.proofs.DirectLaws.{turns_stop}
use borrow.Author.Rules.{rules}
use Rattle.plan_parser.proofs.followers.more.Goals as goal

pub returns-then-sort-eq1 : goal.returns-then-sort-eq1
returns-then-sort-eq1 c =
    let last = c.last in
    let sort = c.sort-sort in
    let if1 = c.if-sort-eq1 in
    let q = sym (rw last.ensures at sort.ensures) in
    c.behind_expression.ensures _ (q ∙ if1.true)

pub returns-then-sort-eq2 : goal.returns-then-sort-eq2
returns-then-sort-eq2 c =
    let last = c.last in
    let sort = c.sort-sort in
    let if2 = c.if-sort-eq2 in
    let q = sym (rw last.ensures at sort.ensures) in
    c.behind_condition.ensures _ (q ∙ if2.true)

pub returns : goal.returns
returns c =
    let last = c.last in
    let sort = c.sort-sort in
    let pre = c.requires in
    let if1 = c.if-sort-eq1 in
    let if2 = c.if-sort-eq2 in
    let q = sym (rw last.ensures at sort.ensures) in
    turns_stop _ _ _ _ _ pre.0 _ _ (more_goal _ (search rules) (search rules)) _ _ c.stop.ensures
    (λ counts. record {
      does = more_stops counts _ _ (search rules) (search rules) (λ z. if1.false (sym q ∙ z)) (λ z. if2.false (sym q ∙ z));
      slight = search rules;
    })
