-- `take` meets its contract. Assumes nothing.
use native.Mathlib.Omega.{arith}
use Rattle.plan_parser.proofs.DirectLaws.{ready, code_sound, may_make, turns_made}
use Rattle.plan_parser.proofs.TurnLaws.{small_entries}
use borrow.Author.Rules.{rules}
use Rattle.plan_parser.proofs.turns.take.Goals as goal

pub expect-requires : goal.expect-requires
expect-requires c =
    let args = c.args in
    let pre = c.requires in
    let goal = c.goal-code in
    let if1 = c.if-code-lt128 in (
      ready _ args.counts.now _ _ _ _ pre.0 pre.1 _ goal.ensures,
      (code_sound _ args.counts.now _ _ _ _ pre.0 pre.1 _ goal.ensures).0 if1.true,
    )

pub returns-then-code-lt128 : goal.returns-then-code-lt128
returns-then-code-lt128 c =
    let shared-slice-known2 = c.shared_slice_known-2-1 in
    let pre = c.requires in
    c.expect.ensures _ _ (λ i. omega (arith, shared-slice-known2.given i)) pre.0

pub make-requires : goal.make-requires
make-requires c =
    let pre = c.requires in
    let args = c.args in
    let shared-slice-known2 = c.shared_slice_known-2-1 in
    let goal = c.goal-code in (
      pre.1.some_goal,
      may_make _ args.counts.now _ _ _ _ pre.0 pre.1 (λ i. omega (arith, shared-slice-known2.given i)) _
          goal.ensures (search rules) (search rules),
    )

pub returns-then-code-lt160 : goal.returns-then-code-lt160
returns-then-code-lt160 c =
    let pre = c.requires in
    let shared-slice-known2 = c.shared_slice_known-2-1 in
    let goal = c.goal-code in
    turns_made _ _ _ _ _ _ pre.0 pre.1 (λ i. omega (arith, shared-slice-known2.given i)) _ goal.ensures (search rules)
    (search rules) pre.2 _ _ _ c.make.ensures

pub returns-then-code-lt176 : goal.returns-then-code-lt176
returns-then-code-lt176 c =
    let shared-slice-known2 = c.shared_slice_known-2-1 in
    let pre = c.requires in
    c.operand.ensures _ _ (λ i. omega (arith, shared-slice-known2.given i)) pre.0

pub returns-then-code-lt192 : goal.returns-then-code-lt192
returns-then-code-lt192 c =
    let shared-slice-known2 = c.shared_slice_known-2-1 in
    let pre = c.requires in
    c.more.ensures _ (λ i. omega (arith, shared-slice-known2.given i)) pre.0

pub rest-requires : goal.rest-requires
rest-requires c =
    let args = c.args in
    let pre = c.requires in
    let goal = c.goal-code in (
      ready _ args.counts.now _ _ _ _ pre.0 pre.1 _ goal.ensures,
      search rules,
      (code_sound _ args.counts.now _ _ _ _ pre.0 pre.1 _ goal.ensures).1,
      small_entries _ args.counts.now _ _ _ _ pre.0 pre.1,
    )

pub returns : goal.returns
returns c =
    let pre = c.requires in
    c.rest.ensures _ pre.0
