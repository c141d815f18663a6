-- `expect` meets its contract. Assumes nothing.
use Rattle.plan_parser_goals.proofs.MoveLaws.{expect_taken, expect_stops}
use Rattle.plan_parser_goals.proofs.Numbers.{expect_goal}
use mathlib.Core.Path.{◌∙◌}
use native.Mathlib.Omega.{arith}
use Rattle.plan_parser.proofs.DirectLaws.{turns_on, turns_stop}
use borrow.Author.Rules.{rules}
use Rattle.plan_parser.proofs.arguments.expect.Goals as goal

pub returns-then-token-code : goal.returns-then-token-code
returns-then-token-code c =
    let pre = c.requires in
    λ words. turns_on _ _ _ _ _ pre.0 words _ (expect_goal _ (search rules)) _ _ _ _ _ _ _ _ _ c.go.ensures
    (λ counts. record {
      does = expect_taken counts _ _ (omega arith);
      slight = search rules;
    })

pub returns : goal.returns
returns c =
    let pre = c.requires in
    let if1 = c.if-token-code in
    let token = c.token in
    λ words. turns_stop _ _ _ _ _ pre.0 words _ (expect_goal _ (search rules)) _ _ c.stop.ensures
    (λ counts. record {
      does = expect_stops counts _ _ (search rules) (λ e. if1.false (token.ensures.0 ∙ e));
      slight = search rules;
    })
