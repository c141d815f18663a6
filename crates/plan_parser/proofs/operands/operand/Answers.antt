-- `operand` meets its contract. Assumes nothing.
use Rattle.plan_parser_goals.proofs.MoveLaws.{operand_low, operand_variable, operand_other, operand_high, operand_group, operand_either}
use Rattle.plan_parser_goals.proofs.Numbers.{operand_goal}
use mathlib.Core.Path.{◌∙◌}
use native.Mathlib.Omega.{arith}
use Rattle.plan_parser.proofs.DirectLaws.{turns_on, turns_stop}
use borrow.Author.Rules.{rules}
use Rattle.plan_parser.proofs.operands.operand.Goals as goal

pub returns-then-token-lt32 : goal.returns-then-token-lt32
returns-then-token-lt32 c =
    let pre = c.requires in
    λ words. turns_stop _ _ _ _ _ pre.0 words _ (operand_goal _ (search rules) (search rules)) _ _ c.stop.ensures
    (λ counts. record {
      does = operand_low counts _ _ (search rules) (search rules) (omega arith);
      slight = search rules;
    })

pub returns-then-token-lt40 : goal.returns-then-token-lt40
returns-then-token-lt40 c =
    let pre = c.requires in
    let token = c.token-token in
    λ words. turns_on _ _ _ _ _ pre.0 words _ (operand_goal _ (search rules) (search rules)) _ _ _ _ _ _ _ _ _ c.go.ensures
    (λ counts. record {
      does = rw token.ensures.0 (operand_variable counts _ _ (search rules) (search rules) (omega arith) (omega arith));
      slight = search rules;
    })

pub returns-then-token-lt49 : goal.returns-then-token-lt49
returns-then-token-lt49 c =
    let pre = c.requires in
    λ words. turns_stop _ _ _ _ _ pre.0 words _ (operand_goal _ (search rules) (search rules)) _ _ c.stop-then-token-lt49.ensures
    (λ counts. record {
      does = operand_other counts _ _ (search rules) (search rules) (omega arith) (omega arith);
      slight = search rules;
    })

pub returns-then-token-ne62 : goal.returns-then-token-ne62
returns-then-token-ne62 c =
    let pre = c.requires in
    let if5 = c.if-token-ne62 in
    let token = c.token-token in
    λ words. turns_stop _ _ _ _ _ pre.0 words _ (operand_goal _ (search rules) (search rules)) _ _ c.stop-then-token-ne62.ensures
    (λ counts. record {
      does = operand_high counts _ _ (search rules) (search rules) (omega arith) (λ z. if5.true (token.ensures.0 ∙ z));
      slight = search rules;
    })

pub returns-then-code-eq1 : goal.returns-then-code-eq1
returns-then-code-eq1 c =
    let pre = c.requires in
    let if6 = c.if-code-eq1 in
    λ words. turns_on _ _ _ _ _ pre.0 words _ (operand_goal _ (search rules) (search rules)) _ _ _ _ _ _ _ _ _ c.go-then-code-eq1.ensures
    (λ counts. record {
      does = operand_group counts _ _ (search rules) (search rules) (omega arith) if6.true;
      slight = search rules;
    })

pub returns : goal.returns
returns c =
    let pre = c.requires in
    let if6 = c.if-code-eq1 in
    λ words. turns_on _ _ _ _ _ pre.0 words _ (operand_goal _ (search rules) (search rules)) _ _ _ _ _ _ _ _ _ c.go-2.ensures
    (λ counts. record {
      does = operand_either counts _ _ (search rules) (search rules) (omega arith) if6.false;
      slight = search rules;
    })
