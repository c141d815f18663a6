-- `price` meets its contract. Assumes nothing.
use Rattle.run_prices.specs.Price.{started_hundreds, run_cost, risen, price}
use borrow.Author.Rules.{rules}
use Rattle.run_prices.proofs.price.Goals as goal

pub returns-then-option : goal.returns-then-option
unfolding price run_cost risen started_hundreds
returns-then-option c = simp c.if-option.true

pub returns : goal.returns
unfolding price run_cost risen started_hundreds
returns c = simp c.if-option.false
