-- `further` meets its contract. Assumes nothing.
use Rattle.plan_parser_goals.proofs.MoveLaws.{further_end, further_open, further_comma, further_stops}
use Rattle.plan_parser_goals.proofs.Numbers.{further_goal}
use mathlib.Core.Path.{◌∙◌}
use native.Mathlib.Omega.{arith}
use Rattle.plan_parser.proofs.DirectLaws.{turns_on, turns_stop}
use borrow.Author.Rules.{rules}
use Rattle.plan_parser.proofs.arguments.further.Goals as goal

pub returns-then-token-eq63 : goal.returns-then-token-eq63
returns-then-token-eq63 c =
    let pre = c.requires in
    let if1 = c.if-code-eq640 in
    λ words. turns_on _ _ _ _ _ pre.0 words _ (further_goal _ (search rules)) _ _ _ _ _ _ _ _ _ c.go.ensures
    (λ counts. record {
      does = further_end counts _ _ if1.true (omega arith);
      slight = search rules;
    })

pub returns-then-code-eq640 : goal.returns-then-code-eq640
returns-then-code-eq640 c =
    let pre = c.requires in
    let if1 = c.if-code-eq640 in
    let if2 = c.if-token-eq63 in
    let token = c.token-token in
    λ words. turns_stop _ _ _ _ _ pre.0 words _ (further_goal _ (search rules)) _ _ c.stop.ensures
    (λ counts. record {
      does = further_open counts _ _ if1.true (λ e. if2.false (token.ensures.0 ∙ e));
      slight = search rules;
    })

pub returns-then-token-eq64 : goal.returns-then-token-eq64
returns-then-token-eq64 c =
    let pre = c.requires in
    let if1 = c.if-code-eq640 in
    λ words. turns_on _ _ _ _ _ pre.0 words _ (further_goal _ (search rules)) _ _ _ _ _ _ _ _ _ c.go_on.ensures
    (λ counts. record {
      does = further_comma counts _ _ (search rules) if1.false (omega arith);
      slight = search rules;
    })

pub returns : goal.returns
returns c =
    let pre = c.requires in
    let if1 = c.if-code-eq640 in
    let if3 = c.if-token-eq64 in
    let token = c.token-token in
    λ words. turns_stop _ _ _ _ _ pre.0 words _ (further_goal _ (search rules)) _ _ c.stop-2.ensures
    (λ counts. record {
      does = further_stops counts _ _ (search rules) (search rules) if1.false (λ e. if3.false (token.ensures.0 ∙ e));
      slight = search rules;
    })
