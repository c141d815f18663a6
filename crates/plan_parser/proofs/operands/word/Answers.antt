-- `word` meets its contract. Assumes nothing.
use Rattle.plan_parser_goals.proofs.Numbers.{operand_goal}
use native.Mathlib.Omega.{arith}
use Rattle.plan_parser.proofs.DirectLaws.{turns_on, turns_stop, word_taken, word_loose, word_misplaced, word_goes}
use borrow.Author.Rules.{rules}
use Rattle.plan_parser.proofs.operands.word.Goals as goal

pub returns-then-binding-code : goal.returns-then-binding-code
returns-then-binding-code c =
    let pre = c.requires in
    let token = c.token in
    let form_of = c.form_of-form in
    let binding = c.binding in
    let if1 = c.if-binding-code in
    let f = (rw (pre.token_value.0, token.ensures.0) at form_of.ensures) in
    λ words. turns_stop _ _ _ _ _ pre.ready.0 words _ (operand_goal _ (search rules) (search rules)) _ _ c.stop.ensures
    (λ counts. word_loose counts _ _ _ (search rules) (search rules) (omega arith) (omega arith) f _ binding.ensures if1.true)

pub returns-then-misplaced : goal.returns-then-misplaced
returns-then-misplaced c =
    let pre = c.requires in
    let token = c.token in
    let form_of = c.form_of-form in
    let binding = c.binding in
    let if2 = c.if-misplaced in
    let misplaced = c.misplaced in
    let f = (rw (pre.token_value.0, token.ensures.0) at form_of.ensures) in
    λ words. turns_stop _ _ _ _ _ pre.ready.0 words _ (operand_goal _ (search rules) (search rules)) _ _ c.stop-then-misplaced.ensures
    (λ counts. word_misplaced counts _ _ _ (search rules) (search rules) (omega arith) (omega arith) f _ binding.ensures (search rules) (rw
    if2.true at misplaced.ensures))

pub go-requires : goal.go-requires
go-requires c =
    let pre = c.requires in
    let form_of = c.form_of-form in
    let taken-by = c.taken_by-taken in
    let value_of_lem = c.value_of-value in
    let d = pre.ready.0 in
    let w = word_taken _ _ _ _ _ form_of.ensures taken-by.ensures value_of_lem.ensures in
    record {
      going = d.going;
      most_goals = d.most_goals;
      most_values = d.most_values;
      at_small = d.at_small;
      taken_small = omega arith;
      kept_small = omega arith;
      next_small = omega arith;
      popped_small = omega arith;
      value_large = omega arith;
      value_small = omega arith;
    }

pub returns : goal.returns
returns c =
    let pre = c.requires in
    let token = c.token in
    let form_of = c.form_of-form in
    let binding = c.binding in
    let if2 = c.if-misplaced in
    let misplaced = c.misplaced in
    let taken-by = c.taken_by-taken in
    let value_of_lem = c.value_of-value in
    let goals = c.goals in
    let f = (rw (pre.token_value.0, token.ensures.0) at form_of.ensures) in
    λ words. turns_on _ _ _ _ _ pre.ready.0 words _ (operand_goal _ (search rules) (search rules)) _ _ _ _ _ _ _ _ _ c.go.ensures
    (λ counts. word_goes counts _ _ _ (search rules) (search rules) (omega arith) (omega arith) f _ binding.ensures (search rules) (rw
    if2.false at misplaced.ensures) _ _ _ taken-by.ensures
    value_of_lem.ensures goals.ensures)
