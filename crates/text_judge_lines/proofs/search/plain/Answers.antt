-- `plain` meets its contract. Assumes nothing.
use Rattle.text_judge_lines.proofs.KindTests.{below_read, read_or_write, between, lacks_read_or_write, above}
use borrow.Author.Rules.{rules}
use Rattle.text_judge_lines.proofs.search.plain.Goals as goal

pub returns-in-2 : goal.returns-in-2
returns-in-2 c = search (read_or_write, rules)

pub returns-in-2-2 : goal.returns-in-2-2
returns-in-2-2 c = search (lacks_read_or_write, rules)

pub returns-in_default : goal.returns-in_default
returns-in_default c = search (below_read, rules)

pub returns-in_default-2 : goal.returns-in_default-2
returns-in_default-2 c = search (between, rules)

pub returns-in_default-3 : goal.returns-in_default-3
returns-in_default-3 c = search (above, rules)
