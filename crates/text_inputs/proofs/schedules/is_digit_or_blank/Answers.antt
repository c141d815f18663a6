-- `is_digit_or_blank`: the code is its definition. Assumes nothing.
use Rattle.text_inputs.proofs.schedules.is_digit_or_blank.Goals as goal

pub returns : goal.returns
returns c =
    let is-blank = c.is_blank in
    let is_digit_lem = c.is_digit in
    cc (is_digit_lem.ensures, is-blank.ensures)
