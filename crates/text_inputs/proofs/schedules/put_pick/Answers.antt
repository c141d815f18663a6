-- `put_pick` meets its contract. Assumes nothing.
use mathlib.Core.Path.{sym, ◌∙◌}
use Rattle.text.proofs.Added.{added_none}
use Rattle.text_inputs.specs.Schedules.{pick_of}
use Rattle.text_inputs.proofs.Bytes.{digit_least}
use Rattle.text_inputs.proofs.schedules.put_pick.Goals as goal

pub overflow_sub-byte : goal.overflow_sub-byte
overflow_sub-byte c =
    let if1 = c.if-is_digit in
    let is_digit_lem = c.is_digit in
    let a = c.args in
    digit_least a.byte (sym is_digit_lem.ensures ∙ if1.true)

pub returns-then-is_digit : goal.returns-then-is_digit
unfolding pick_of
returns-then-is_digit c =
    let put_byte = c.put_byte in
    let if1 = c.if-is_digit in
    let is_digit_lem = c.is_digit in
    let e = sym is_digit_lem.ensures ∙ if1.true in
    simp e put_byte.ensures

pub returns : goal.returns
unfolding pick_of
returns c =
    let if1 = c.if-is_digit in
    let is_digit_lem = c.is_digit in
    let e = sym is_digit_lem.ensures ∙ if1.false in
    simp e (added_none _ _)
