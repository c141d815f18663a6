-- `writes` meets its contract. Assumes nothing.
use mathlib.Core.Path.{sym}
use Rattle.text_race_lines.proofs.AccessKinds.{is_write_lem, no_write}
use Rattle.text_judge_lines.proofs.search.writes.Goals as goal

pub returns-in-3 : goal.returns-in-3
returns-in-3 c = sym (is_write_lem _ c.in-3.is)

pub returns-in_default : goal.returns-in_default
returns-in_default c = sym (no_write _ c.requires c.in_default.in_default-own.rest.1)
