use borrow.Author.Rules.{rules}
use Rattle.plan_term_making.proofs.WordSums.{variable_made, new_made, read_made, write_made, let_made, call_made, plain_made}
use Rattle.plan_term_making.proofs.word.Reads as reads
use Rattle.plan_term_making.proofs.word.Goals as goal

-- src/lib.rt:9:1
pub returns-in-1 : goal.returns-in-1
returns-in-1 c = let p = c.requires in variable_made _ _ _ _ c.in-1.is p.0 p.1 p.2 p.3

-- src/lib.rt:9:1
pub returns-in-2 : goal.returns-in-2
returns-in-2 c = let p = c.requires in new_made _ _ _ _ c.in-2.is p.0 p.1 p.2 p.3

-- src/lib.rt:9:1
pub returns-in-3 : goal.returns-in-3
returns-in-3 c = let p = c.requires in read_made _ _ _ _ c.in-3.is p.0 p.1 p.2 p.3

-- src/lib.rt:9:1
pub returns-in-4 : goal.returns-in-4
returns-in-4 c = let p = c.requires in write_made _ _ _ _ c.in-4.is p.0 p.1 p.2 p.3

-- src/lib.rt:9:1
pub returns-in-5 : goal.returns-in-5
returns-in-5 c = let p = c.requires in let_made _ _ _ _ c.in-5.is p.0 p.1 p.2 p.3

-- src/lib.rt:9:1
pub returns-in-8 : goal.returns-in-8
returns-in-8 c = let p = c.requires in call_made _ _ _ _ c.in-8.is p.0 p.1 p.2 p.3

-- src/lib.rt:9:1
pub returns-in_default : goal.returns-in_default
returns-in_default c = let p = c.requires in plain_made _ _ _ _ c.in_default.in_default-own.rest p.0 p.1 p.2 p.3
