-- `behind_expression` meets its contract. Assumes nothing.
use Rattle.plan_parser_goals.proofs.MoveLaws.{equal_none, equal_tight, equal_sort, equal_goes, moved}
use Rattle.plan_parser_goals.proofs.Numbers.{more_goal}
use mathlib.Core.Path.{◌∙◌}
use native.Mathlib.Omega.{arith}
use Rattle.plan_parser.proofs.DirectLaws.{turns_on}
use borrow.Author.Rules.{rules}
use Rattle.plan_parser.proofs.followers.behind_expression.Goals as goal

pub returns-then-token-ne66 : goal.returns-then-token-ne66
returns-then-token-ne66 c =
    let if1 = c.if-token-eq65 in
    let token = c.token-token in
    let if2 = c.if-token-ne66 in
    λ words e. c.end.ensures _ words e (λ counts m x. moved _ _ _ _ _ (more_goal _ (search rules) (search rules)) (record {
      does = equal_none counts _ _ (search rules) (search rules) e (λ z. if1.false (token.ensures.0 ∙ z)) m (λ z. if2.true
          (token.ensures.0 ∙ z)) x;
      slight = x.slight;
    }))

pub returns-then-code-gt181 : goal.returns-then-code-gt181
returns-then-code-gt181 c =
    let if1 = c.if-token-eq65 in
    let token = c.token-token in
    λ words e. c.end-then-code-gt181.ensures _ words e (λ counts m x. moved _ _ _ _ _ (more_goal _ (search rules) (search rules)) (record {
      does = equal_tight counts _ _ (search rules) (search rules) e (λ z. if1.false (token.ensures.0 ∙ z)) m (omega arith) (search rules) x;
      slight = x.slight;
    }))

pub returns-then-code-eq1 : goal.returns-then-code-eq1
returns-then-code-eq1 c =
    let if1 = c.if-token-eq65 in
    let token = c.token-token in
    let if4 = c.if-code-eq1 in
    λ words e. c.end-then-code-eq1.ensures _ words e (λ counts m x. moved _ _ _ _ _ (more_goal _ (search rules) (search rules)) (record {
      does = equal_sort counts _ _ (search rules) (search rules) e (λ z. if1.false (token.ensures.0 ∙ z)) m (omega arith) (search rules)
          if4.true x;
      slight = x.slight;
    }))

pub returns : goal.returns
returns c =
    let pre = c.requires in
    let if1 = c.if-token-eq65 in
    let token = c.token-token in
    let if4 = c.if-code-eq1 in
    λ words e. turns_on _ _ _ _ _ pre.0 words _ (more_goal _ (search rules) (search rules)) _ _ _ _ _ _ _ _ _ c.go.ensures
    (λ counts. record {
      does = equal_goes counts _ _ (search rules) (search rules) e (λ z. if1.false (token.ensures.0 ∙ z)) (omega arith) (search rules) if4.false;
      slight = search rules;
    })
