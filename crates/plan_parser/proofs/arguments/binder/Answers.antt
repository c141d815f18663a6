-- `binder` meets its contract. Assumes nothing.
use Rattle.plan_parser_goals.proofs.MoveLaws.{binder_slot, binder_dash, binder_stops}
use Rattle.plan_parser_goals.proofs.Numbers.{binder_goal}
use mathlib.Core.Path.{refl, ◌∙◌}
use native.Mathlib.Omega.{arith}
use Rattle.plan_parser.proofs.DirectLaws.{turns_on, turns_stop}
use borrow.Author.Rules.{rules}
use Rattle.plan_parser.proofs.arguments.binder.Goals as goal

pub returns-then-token-lt8 : goal.returns-then-token-lt8
returns-then-token-lt8 c =
    let pre = c.requires in
    let token = c.token-token in
    λ words. turns_on _ _ _ _ _ (pre) words _ (binder_goal _ refl) _ _ _ _ _ _ _ _ _ c.go.ensures
    (λ counts. record {
      does = rw token.ensures.0 (binder_slot counts _ (omega arith));
      slight = search rules;
    })

pub returns-then-token-eq68 : goal.returns-then-token-eq68
returns-then-token-eq68 c =
    let pre = c.requires in
    λ words. turns_on _ _ _ _ _ (pre) words _ (binder_goal _ refl) _ _ _ _ _ _ _ _ _ c.go-then-token-eq68.ensures
    (λ counts. record {
      does = binder_dash counts _ (omega arith);
      slight = search rules;
    })

pub returns : goal.returns
returns c =
    let pre = c.requires in
    let if2 = c.if-token-eq68 in
    let token = c.token-token in
    λ words. turns_stop _ _ _ _ _ (pre) words _ (binder_goal _ refl) _ _ c.stop.ensures
    (λ counts. record {
      does = binder_stops counts _ (omega arith) (λ e. if2.false (token.ensures.0 ∙ e));
      slight = search rules;
    })
