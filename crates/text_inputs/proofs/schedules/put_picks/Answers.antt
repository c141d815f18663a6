-- `put_picks` meets its contract. Assumes nothing.
use mathlib.Core.Path.{sym, ◌∙◌}
use Rattle.text_inputs.specs.Schedules.{picks_of}
use Rattle.text_inputs.proofs.schedules.put_picks.Goals as goal

pub returns-then-is_digits : goal.returns-then-is_digits
unfolding picks_of
returns-then-is_digits c =
    let put-digit-picks = c.put_digit_picks in
    let if1 = c.if-is_digits in
    let is-digits = c.is_digits in
    let e = sym is-digits.ensures ∙ if1.true in
    simp e put-digit-picks.ensures

pub returns : goal.returns
unfolding picks_of
returns c =
    let put_word = c.put_word in
    let if1 = c.if-is_digits in
    let is-digits = c.is_digits in
    let e = sym is-digits.ensures ∙ if1.false in
    simp e put_word.ensures
