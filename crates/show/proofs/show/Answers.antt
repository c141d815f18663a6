-- `show` meets its contract.
use native.Mathlib.Omega.{arith}
use mathlib.Core.Path.{refl}
use Rattle.std.proofs.lemmas.Result.{err_from_is_err_and}
use Rattle.plan_refusals.proofs.Stages.{passed_none}
use Rattle.plan_tokens.proofs.Parts.{plan_few, plan_within}
use Rattle.show.proofs.Answers.{plan_refused, text_written}
use Rattle.show.proofs.Tokens.{given}
use Rattle.show.proofs.show.Goals as goal

pub returns-in_err-load-clause-answer : goal.returns-in_err-load-clause-answer
returns-in_err-load-clause-answer c =
    let p = err_from_is_err_and c.from_residual.result c.from_residual.ensures.1 in
    rw (p.1, p.2) (plan_refused _ _ _ _ c.in_err-load.ensures.result_value refl).0

pub returns-in_err-load-clause-area : goal.returns-in_err-load-clause-area
returns-in_err-load-clause-area c = (plan_refused _ _ _ _ c.in_err-load.ensures.result_value refl).1

pub show_in-requires-clause-given : goal.show_in-requires-clause-given
show_in-requires-clause-given c = let l = c.in_ok-load.ensures in let g = given l.result_value refl l.loaded in (g, omega (arith, plan_within _ _ g))

pub show_in-requires-in-61-to-210-clause-given : goal.show_in-requires-in-61-to-210-clause-given
show_in-requires-in-61-to-210-clause-given c =
    let g = given c.in_ok-load.ensures.result_value refl c.in_ok-load.ensures.loaded in (g, omega (arith, plan_within _ _ g))

pub show_in-requires-in-211-to-679-clause-given : goal.show_in-requires-in-211-to-679-clause-given
show_in-requires-in-211-to-679-clause-given c =
    let g = given c.in_ok-load.ensures.result_value refl c.in_ok-load.ensures.loaded in (g, omega (arith, plan_within _ _ g))

pub show_in-requires-in_default-clause-given : goal.show_in-requires-in_default-clause-given
show_in-requires-in_default-clause-given c = let l = c.in_ok-load.ensures in let g = given l.result_value refl l.loaded in (g, plan_few _ _ g)

pub returns-in-0-to-60-clause-answer : goal.returns-in-0-to-60-clause-answer
returns-in-0-to-60-clause-answer c = (text_written _ _ (passed_none _ _ c.in_ok-load.ensures.result_value refl) _ _ _ refl c.show_in.ensures).0

pub returns-in-0-to-60-clause-area : goal.returns-in-0-to-60-clause-area
returns-in-0-to-60-clause-area c = (text_written _ _ (passed_none _ _ c.in_ok-load.ensures.result_value refl) _ _ _ refl c.show_in.ensures).1

pub returns-in-61-to-210-clause-answer : goal.returns-in-61-to-210-clause-answer
returns-in-61-to-210-clause-answer c = (text_written _ _ (passed_none _ _ c.in_ok-load.ensures.result_value refl) _ _ _ refl c.show_in-in-61-to-210.ensures).0

pub returns-in-61-to-210-clause-area : goal.returns-in-61-to-210-clause-area
returns-in-61-to-210-clause-area c = (text_written _ _ (passed_none _ _ c.in_ok-load.ensures.result_value refl) _ _ _ refl c.show_in-in-61-to-210.ensures).1

pub returns-in-211-to-679-clause-answer : goal.returns-in-211-to-679-clause-answer
returns-in-211-to-679-clause-answer c = (text_written _ _ (passed_none _ _ c.in_ok-load.ensures.result_value refl) _ _ _ refl c.show_in-in-211-to-679.ensures).0

pub returns-in-211-to-679-clause-area : goal.returns-in-211-to-679-clause-area
returns-in-211-to-679-clause-area c = (text_written _ _ (passed_none _ _ c.in_ok-load.ensures.result_value refl) _ _ _ refl c.show_in-in-211-to-679.ensures).1

pub returns-in_default-clause-answer : goal.returns-in_default-clause-answer
returns-in_default-clause-answer c = (text_written _ _ (passed_none _ _ c.in_ok-load.ensures.result_value refl) _ _ _ refl c.show_in-in_default.ensures).0

pub returns-in_default-clause-area : goal.returns-in_default-clause-area
returns-in_default-clause-area c = (text_written _ _ (passed_none _ _ c.in_ok-load.ensures.result_value refl) _ _ _ refl c.show_in-in_default.ensures).1
