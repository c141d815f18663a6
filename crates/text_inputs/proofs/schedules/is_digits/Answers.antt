-- `is_digits` meets its contract: `all` gives what `every` is. Assumes nothing.
use Rattle.std.proofs.Common.{rules, tests}
use mathlib.Core.Path.{◌∙◌}
use mathlib.Core.Bool.{◌||◌}
use Rattle.std.proofs.lemmas.Iterator.{YieldsList-from_slice}
use Rattle.std.proofs.lemmas.Iterator.Search.{all_from_yields_List}
use Rattle.plan_notation.specs.Lexing.{is_blank}
use Rattle.text_inputs.specs.Schedules.{is_digit, is_digits}
use Rattle.text_inputs.proofs.Bytes.{all_every}
use Rattle.text_inputs.proofs.schedules.is_digits.Goals as goal

pub returns : goal.returns
unfolding is_digits
returns c =
    let bytes = c.args.bytes.now in
    all_from_yields_List (λ b. is_digit b || is_blank b) _ _ _ c.all.ensures.ran (YieldsList-from_slice bytes cc) (λ x b q k. search (rules, tests))
    ∙ all_every (λ b. is_digit b || is_blank b) bytes
