-- `put_place` meets its contract. Assumes nothing.
use native.Mathlib.Omega.{arith}
use Rattle.text.specs.Text.{ascii}
use borrow.Author.Rules.{rules}
use Rattle.text_move_words.proofs.put_place.Goals as goal

pub returns : goal.returns
unfolding ascii
returns c = record { wrote = c.put_two.ensures.wrote; upper_bound = omega (arith, c.put_two.ensures.upper_bound) }
