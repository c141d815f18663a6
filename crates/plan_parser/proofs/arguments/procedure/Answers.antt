-- `procedure` meets its contract. Assumes nothing.
use Rattle.plan_parser_goals.proofs.MoveLaws.{procedure_high, procedure_none, procedure_alone_lem, procedure_arguments}
use Rattle.plan_parser_goals.proofs.Numbers.{procedure_goal}
use mathlib.Core.Path.{◌≡◌, refl, sym, ◌∙◌}
use Prim.Native.Nat.{suc, ◌+◌, ◌-◌}
use native.Mathlib.Omega.{arith}
use Rattle.plan_parser.proofs.DirectLaws.{called_on, called_stop}
use borrow.Author.Rules.{rules}
use Rattle.plan_parser.proofs.arguments.procedure.Goals as goal

pub returns-then-token-gt31 : goal.returns-then-token-gt31
returns-then-token-gt31 c =
    let pre = c.requires in
    let shared-slice-known2 = c.shared_slice_known-2-1 in
    λ words st. called_stop _ _ _ _ _ (pre) words _ (λ i. omega (arith, shared-slice-known2.given i)) st _ (procedure_goal _ refl) _ _
    c.stop.ensures
    (record {
      does = procedure_high _ _ (omega arith);
      slight = search rules;
    })

pub returns-then-counts-token : goal.returns-then-counts-token
returns-then-counts-token c =
    let pre = c.requires in
    let shared-slice-known2 = c.shared_slice_known-2-1 in
    λ words st. called_stop _ _ _ _ _ (pre) words _ (λ i. omega (arith, shared-slice-known2.given i)) st _ (procedure_goal _ refl) _ _
    c.stop-then-counts-token.ensures
    (record {
      does = procedure_none _ _ (omega arith) (omega arith);
      slight = search rules;
    })

pub returns-then-parameters-eq0 : goal.returns-then-parameters-eq0
returns-then-parameters-eq0 c =
    let pre = c.requires in
    let shared-slice-known2 = c.shared_slice_known-2-1 in
    let token = c.token-token in
    let wide = c.wide-parameters in
    let if3 = c.if-parameters-eq0 in
    λ words st. called_on _ _ _ _ _ (pre) words _ (λ i. omega (arith, shared-slice-known2.given i)) st _ (procedure_goal _ refl) _ _ _ _ _ _ _ _ _
    c.go.ensures
    (record {
      does = rw token.ensures.0 (procedure_alone_lem _ _ (omega arith) (omega arith) (rw token.ensures.0 at (sym
          wide.ensures.0 ∙ if3.true)));
      slight = search rules;
    })

pub returns : goal.returns
returns c =
    let pre = c.requires in
    let shared-slice-known2 = c.shared_slice_known-2-1 in
    let wide = c.wide-parameters in
    let if3 = c.if-parameters-eq0 in
    let token = c.token-token in
    λ words st. called_on _ _ _ _ _ (pre) words _ (λ i. omega (arith, shared-slice-known2.given i)) st _ (procedure_goal _ refl) _ _ _ _ _ _ _ _ _
    c.go_on.ensures
    (let r = wide.result in
    let q : 639 + r ≡ 640 + (r - 1) = omega (arith, if3.false) in
    let e : r ≡ suc (r - 1) = omega (arith, if3.false) in
    record {
      does = rw (q, token.ensures.0) (procedure_arguments _ _ (r - 1) (omega arith) (omega arith) (rw token.ensures.0 at (sym
          wide.ensures.0 ∙ e)));
      slight = search rules;
    })
