-- `behind_condition` meets its contract. Assumes nothing.
use Rattle.plan_parser_goals.proofs.MoveLaws.{and_none, and_tight, and_goes, moved}
use Rattle.plan_parser_goals.proofs.Numbers.{more_goal}
use mathlib.Core.Path.{◌∙◌}
use native.Mathlib.Omega.{arith}
use Rattle.plan_parser.proofs.DirectLaws.{turns_on}
use borrow.Author.Rules.{rules}
use Rattle.plan_parser.proofs.followers.behind_condition.Goals as goal

pub returns-then-token-ne48 : goal.returns-then-token-ne48
returns-then-token-ne48 c =
    let if1 = c.if-token-ne48 in
    let token = c.token in
    λ words e. c.end.ensures _ words e (λ counts m x. moved _ _ _ _ _ (more_goal _ (search rules) (search rules)) (record {
      does = and_none counts _ _ (search rules) (search rules) e m (λ z. if1.true (token.ensures.0 ∙ z)) x;
      slight = x.slight;
    }))

pub returns-then-code-gt178 : goal.returns-then-code-gt178
returns-then-code-gt178 c =
    λ words e. c.end-then-code-gt178.ensures _ words e (λ counts m x. moved _ _ _ _ _ (more_goal _ (search rules) (search rules)) (record {
      does = and_tight counts _ _ (search rules) (search rules) e m (omega arith) (search rules) x;
      slight = x.slight;
    }))

pub returns : goal.returns
returns c =
    let pre = c.requires in
    λ words e. turns_on _ _ _ _ _ pre.0 words _ (more_goal _ (search rules) (search rules)) _ _ _ _ _ _ _ _ _ c.go.ensures
    (λ counts. record {
      does = and_goes counts _ _ (search rules) (search rules) e (omega arith) (search rules);
      slight = search rules;
    })
