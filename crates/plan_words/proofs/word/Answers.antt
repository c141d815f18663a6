-- `word`: behind the end of a list `get_or` answers what it is given for that.
use lib.ListN.{get_or-eq_default}
use native.Mathlib.Omega.{arith}
use mathlib.Core.Path.{sym}
use borrow.Author.Rules.{rules}
use Rattle.plan_words.proofs.word.Goals as goal

pub returns : goal.returns
returns c = sym (get_or-eq_default c.args.words.now 0 {n = c.args.term} (omega arith))
