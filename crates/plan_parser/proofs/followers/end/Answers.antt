-- `end` meets its contract. Assumes nothing.
use Rattle.plan_parser_goals.proofs.MoveLaws.{end_either, end_same, end_other}
use mathlib.Core.Path.{refl, ◌∙◌}
use native.Mathlib.Omega.{arith}
use Rattle.plan_parser.proofs.DirectLaws.{turns_on, turns_stop}
use borrow.Author.Rules.{rules}
use Rattle.plan_parser.proofs.followers.end.Goals as goal

pub returns-then-asked-eq0 : goal.returns-then-asked-eq0
returns-then-asked-eq0 c =
    let pre = c.requires in
    let if1 = c.if-asked-eq0 in
    λ tokens words e f. turns_on _ _ _ _ _ pre.0 words _ refl _ _ _ _ _ _ _ _ _ c.go.ensures
    (λ counts. f counts _ (record {
      does = λ gs vs n ts k. end_either _ _ (search rules) (search rules) gs vs n ts k if1.true (omega arith) (omega arith);
      slight = search rules;
    }))

pub returns-then-asked-sort : goal.returns-then-asked-sort
returns-then-asked-sort c =
    let pre = c.requires in
    λ tokens words e f. turns_on _ _ _ _ _ pre.0 words _ refl _ _ _ _ _ _ _ _ _ c.go-then-asked-sort.ensures
    (λ counts. f counts _ (record {
      does = λ gs vs n ts k. end_same _ _ (search rules) (search rules) gs vs n ts k (omega arith) (omega arith) (omega arith);
      slight = search rules;
    }))

pub returns : goal.returns
returns c =
    let pre = c.requires in
    let if1 = c.if-asked-eq0 in
    let if2 = c.if-asked-sort in
    λ tokens words e f. turns_stop _ _ _ _ _ pre.0 words _ refl _ _ c.stop.ensures
    (λ counts. f counts _ (record {
      does = λ gs vs n ts k. end_other _ _ (search rules) (search rules) gs vs n ts k if1.false (λ z. if2.false (z ∙ e));
      slight = search rules;
    }))
