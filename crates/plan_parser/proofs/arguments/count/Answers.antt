-- `count` meets its contract. Assumes nothing.
use Rattle.plan_parser_goals.proofs.MoveLaws.{count_number, count_stops}
use Rattle.plan_parser_goals.proofs.Numbers.{count_goal}
use native.Mathlib.Omega.{arith}
use Rattle.plan_parser.proofs.DirectLaws.{turns_on, turns_stop}
use borrow.Author.Rules.{rules}
use Rattle.plan_parser.proofs.arguments.count.Goals as goal

pub returns-then-token-lt9 : goal.returns-then-token-lt9
returns-then-token-lt9 c =
    let pre = c.requires in
    let token = c.token-token in
    λ words. turns_on _ _ _ _ _ pre.0 words _ (count_goal _ (search rules) (search rules)) _ _ _ _ _ _ _ _ _ c.go.ensures
    (λ counts. record {
      does = rw token.ensures.0 (count_number counts _ (omega arith));
      slight = search rules;
    })

pub returns : goal.returns
returns c =
    let pre = c.requires in
    λ words. turns_stop _ _ _ _ _ pre.0 words _ (count_goal _ (search rules) (search rules)) _ _ c.stop.ensures
    (λ counts. record {
      does = count_stops counts _ _ (search rules) (search rules) (omega arith);
      slight = search rules;
    })
