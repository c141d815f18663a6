-- `read_tokens` meets its contract. Assumes nothing.
use native.Mathlib.Omega.{arith}
use mathlib.Core.Path.{ap, ◌∙◌}
use Rattle.std.specs.Prelude.{Some}
use Rattle.read.proofs.Answers.{some_token, plan_in_arrays}
use Rattle.read.proofs.read_tokens.Goals as goal

pub read_plan-requires-clause-tokens_nonzero : goal.read_plan-requires-clause-tokens_nonzero
read_plan-requires-clause-tokens_nonzero c =
    (rw c.requires.of_text.0.codes_are (some_token _), c.requires.of_text.1, c.requires.of_text.2, c.requires.ordered.0)

pub write-requires : goal.write-requires
write-requires c =
    let m = c.requires.ordered.1.most_words in
    plan_in_arrays c.requires.of_text.0 c.read_plan.ensures (c.in_ok-outcome.was ∙ ap Some c.in-Ok.is) (omega arith)
