-- `make` meets its contract. Assumes nothing.
use mathlib.Core.Path.{sym, ap, ◌∙◌}
use Rattle.run_pick.specs.Inner.Pick.{begun_by}
use Rattle.run_state.specs.declared.acted.Act.{Act}
use borrow.Author.Rules.{rules}
use Rattle.run_pick.proofs.make.Goals as goal

pub returns-in-Done : goal.returns-in-Done
returns-in-Done c = ap (λ (z : Act). begun_by z) (sym c.in-Done.is ∙ c.act-act.ensures)

pub returns-in-NoRoom : goal.returns-in-NoRoom
returns-in-NoRoom c = c.no_room.ensures ∙ ap (λ (z : Act). begun_by z) (sym c.in-NoRoom.is ∙ c.act-act.ensures)
