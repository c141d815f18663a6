-- `new_keys` meets its contract. Assumes nothing.
use borrow.Author.Rules.{rules}
use Rattle.run_keys.proofs.KeySetLaws.{word_new, new_in_le}
use Rattle.run_keys.proofs.new_keys.Goals as goal

pub returns : goal.returns
returns c =
    let a = c.args in
    let e = word_new a.word a.known (search rules) (search rules) in
    (e, rw e (new_in_le a.word a.known))
