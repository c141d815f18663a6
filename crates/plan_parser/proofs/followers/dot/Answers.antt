-- `dot` meets its contract. Assumes nothing.
use Rattle.plan_parser_goals.proofs.MoveLaws.{dot_zero, dot_high, dot_tight, dot_writes, dot_reads}
use Rattle.plan_parser_goals.proofs.Numbers.{more_goal}
use mathlib.Core.Path.{◌∙◌}
use native.Mathlib.Omega.{arith}
use Rattle.plan_parser.proofs.DirectLaws.{turns_on, turns_past}
use borrow.Author.Rules.{rules}
use Rattle.plan_parser.proofs.followers.dot.Goals as goal

pub returns-then-field-eq0 : goal.returns-then-field-eq0
returns-then-field-eq0 c =
    let pre = c.requires in
    λ words e. turns_past _ _ _ _ _ pre.ready.0 words _ (more_goal _ (search rules) (search rules)) _
    (λ counts. record {
      does = dot_zero counts _ _ (search rules) (search rules) e pre.at_value (omega arith);
      slight = search rules;
    })

pub returns-then-field-gt31 : goal.returns-then-field-gt31
returns-then-field-gt31 c =
    let pre = c.requires in
    let if1 = c.if-field-eq0 in
    let token = c.token-field in
    λ words e. turns_past _ _ _ _ _ pre.ready.0 words _ (more_goal _ (search rules) (search rules)) _
    (λ counts. record {
      does = dot_high counts _ _ (search rules) (search rules) e pre.at_value (λ z. if1.false (token.ensures.0 ∙ z)) (omega arith);
      slight = search rules;
    })

pub returns-then-code-gt178 : goal.returns-then-code-gt178
returns-then-code-gt178 c =
    let pre = c.requires in
    let token = c.token-field in
    let if1 = c.if-field-eq0 in
    λ words e. turns_on _ _ _ _ _ pre.ready.0 words _ (more_goal _ (search rules) (search rules)) _ _ _ _ _ _ _ _ _ c.go.ensures
    (λ counts. record {
      does = rw token.ensures.0 (dot_tight counts _ _ (search rules) (search rules) e pre.at_value (λ z. if1.false (token.ensures.0 ∙ z))
          (omega arith) (search rules));
      slight = search rules;
    })

pub returns-then-token-eq67 : goal.returns-then-token-eq67
returns-then-token-eq67 c =
    let pre = c.requires in
    let token = c.token-field in
    let if1 = c.if-field-eq0 in
    λ words e. turns_on _ _ _ _ _ pre.ready.0 words _ (more_goal _ (search rules) (search rules)) _ _ _ _ _ _ _ _ _ c.go-then-token-eq67.ensures
    (λ counts. record {
      does = rw token.ensures.0 (dot_writes counts _ _ (search rules) (search rules) e pre.at_value (λ z. if1.false (token.ensures.0 ∙ z))
          (omega arith) (search rules) (omega arith));
      slight = search rules;
    })

pub returns : goal.returns
returns c =
    let t = c.token-field.ensures.0 in
    let u = c.token.ensures.0 in
    let p = c.if-field-eq0.false in
    let h = c.if-field-gt31.false in
    let q = c.if-token-eq67.false in
    λ words e. turns_on _ _ _ _ _
    c.requires.ready.0 words _ (more_goal _
    (search rules) (search rules)) _ _ _ _ _ _ _ _ _ c.go-2.ensures
    (λ counts. record {
      does = rw t (dot_reads counts _ _ (search rules) (search rules) e
          c.requires.at_value (λ z. p (t ∙ z)) (omega arith)
          (search rules) (λ z. q (u ∙ z)));
      slight = search rules;
    })
