-- `show_by` meets its contract. Assumes nothing.
use native.Mathlib.Omega.{arith}
use Rattle.show.proofs.Tokens.{tokens_length, plan_text_lem, known_tokens}
use borrow.Author.Rules.{rules}
use Rattle.show.proofs.show_by.Goals as goal

pub write-requires : goal.write-requires
write-requires c =
    let p = c.put_plan-count.ensures in
    let k = known_tokens c.requires.given.0 p in record { known = k; tokens_in_bounds = (omega (arith, tokens_length _ p, c.requires.given.1, c.requires.tokens_in_bounds.0), search (rules, c.requires.tokens_in_bounds.1)) }

pub returns : goal.returns
returns c = plan_text_lem _ c.put_plan-count.ensures c.write.ensures
