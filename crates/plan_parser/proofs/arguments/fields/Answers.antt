-- `fields` meets its contract. Assumes nothing.
use Rattle.plan_parser_goals.proofs.MoveLaws.{fields_end, fields_many, fields_low, fields_high, fields_field, shift_is, bit_small}
use Rattle.plan_parser_goals.proofs.Numbers.{fields_goal}
use mathlib.Core.Path.{◌∙◌}
use native.Mathlib.Omega.{arith}
use Rattle.plan_parser.proofs.DirectLaws.{turns_on, turns_stop, mask_small}
use borrow.Author.Rules.{rules}
use Rattle.plan_parser.proofs.arguments.fields.Goals as goal

pub returns-then-token-eq63 : goal.returns-then-token-eq63
returns-then-token-eq63 c =
    let pre = c.requires in
    λ words. turns_on _ _ _ _ _ pre.0 words _ (fields_goal _ (search rules) (search rules)) _ _ _ _ _ _ _ _ _ c.go.ensures
    (λ counts. record {
      does = fields_end counts _ _ (omega arith);
      slight = search rules;
    })

pub returns-then-code-lt288 : goal.returns-then-code-lt288
returns-then-code-lt288 c =
    let pre = c.requires in
    let if1 = c.if-token-eq63 in
    let token = c.token-token in
    λ words. turns_stop _ _ _ _ _ pre.0 words _ (fields_goal _ (search rules) (search rules)) _ _ c.stop.ensures
    (λ counts. record {
      does = fields_many counts _ _ (search rules) (search rules) (λ e. if1.false (token.ensures.0 ∙ e));
      slight = search rules;
    })

pub returns-then-token-least : goal.returns-then-token-least
returns-then-token-least c =
    let pre = c.requires in
    let if1 = c.if-token-eq63 in
    let token = c.token-token in
    λ words. turns_stop _ _ _ _ _ pre.0 words _ (fields_goal _ (search rules) (search rules)) _ _ c.stop-then-token-least.ensures
    (λ counts. record {
      does = fields_low counts _ _ (search rules) (search rules) (λ e. if1.false (token.ensures.0 ∙ e)) (omega arith);
      slight = search rules;
    })

pub returns-then-token-gt31 : goal.returns-then-token-gt31
returns-then-token-gt31 c =
    let pre = c.requires in
    let if1 = c.if-token-eq63 in
    let token = c.token-token in
    λ words. turns_stop _ _ _ _ _ pre.0 words _ (fields_goal _ (search rules) (search rules)) _ _ c.stop-then-token-gt31.ensures
    (λ counts. record {
      does = fields_high counts _ _ (search rules) (search rules) (λ e. if1.false (token.ensures.0 ∙ e)) (omega arith) (omega arith);
      slight = search rules;
    })

pub overflow_add-value : goal.overflow_add-value
overflow_add-value c =
    let pre = c.requires in
    let last = c.last in
    let token = c.token-token in
    let m = mask_small _ _ _ _ pre.3 last.ensures c.number-mask.ensures in
    rw (shift_is token.result) (omega (arith, bit_small token.result))

pub returns : goal.returns
returns c =
    let m = mask_small _ _ _ _ c.requires.3
    c.last.ensures c.number-mask.ensures in
    let t = c.token-token.ensures.0 in
    let a = c.if-token-least.false in
    let b = c.if-token-gt31.false in
    λ words. turns_on _ _ _ _ _ c.requires.0 words _
    (fields_goal _ (search rules) (search rules)) _ _ _ _ _ _ _ _ _ c.go_on.ensures
    (λ counts. rw (shift_is c.token-token.result) (record {
      does = rw t (fields_field counts _ _ _ (rw (
        c.number-mask.ensures,
        c.last.ensures,
      ))
          (search rules) (search rules) (λ e. c.if-token-eq63.false (t ∙ e)) (omega arith)
          (omega arith));
      slight = search rules;
    }))
