-- `is_numeral` meets its contract: `all` gives what `every` is. Assumes nothing.
use Rattle.std.proofs.Common.{rules, tests, arith, length, Bool}
use mathlib.Core.Bool.{◌&&◌}
use mathlib.Core.Path.{◌∙◌, sym, ap}
use Rattle.std.proofs.lemmas.Bool.{lt-ltb, eqb-true, eqb-false}
use Rattle.std.proofs.lemmas.Iterator.{YieldsList-from_slice}
use Rattle.std.proofs.lemmas.Iterator.Search.{all_from_yields_List}
use Rattle.text_inputs.specs.Schedules.{is_digit, every}
use Rattle.text_inputs.specs.Numerals.{is_numeral}
use Rattle.text_inputs.proofs.Bytes.{all_every}
use Rattle.text_inputs.proofs.numerals.is_numeral.Goals as goal

pub returns-then-not-is_empty : goal.returns-then-not-is_empty
unfolding is_numeral
returns-then-not-is_empty c =
    let bytes = c.args.bytes.now in
    let some = eqb-false (length bytes) 0 (sym c.is_empty.ensures ∙ c.if-not-is_empty.true) in
    all_from_yields_List is_digit _ _ _ c.all.ensures.ran (YieldsList-from_slice bytes cc) (λ x b q k. search (rules, tests))
    ∙ all_every is_digit bytes
    ∙ ap (λ (b : Bool). b && every is_digit bytes) (sym (lt-ltb 0 (length bytes) (omega (arith, some))))

pub returns-else-not-is_empty : goal.returns-else-not-is_empty
unfolding is_numeral
returns-else-not-is_empty c =
    let bytes = c.args.bytes.now in
    let none = eqb-true (length bytes) 0 (sym c.is_empty.ensures ∙ c.if-not-is_empty.false) in
    simp (c.if-not-is_empty.false, none)
