-- `add_pick` meets its contract. Assumes nothing.
use native.Mathlib.Omega.{arith}
use borrow.Author.Rules.{rules}
use Rattle.text.proofs.Added.{added_more}
use Rattle.preview.proofs.add_pick.Goals as goal

pub returns : goal.returns
returns c = added_more c.put_word-end.ensures c.put_byte.ensures
