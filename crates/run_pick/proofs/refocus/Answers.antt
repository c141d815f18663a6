-- `refocus` meets its contract. Assumes nothing.
use mathlib.Core.Path.{◌≡◌, ◌∙◌}
use borrow.Author.Rules.{rules}
use Rattle.run_pick.proofs.refocus.Goals as goal

pub refocus-requires : goal.refocus-requires
refocus-requires c = rw (c.mover_way-mover.ensures, c.forked_way-forked.ensures)
    (search rules, search rules, search rules, search rules, c.requires.1)

pub returns : goal.returns
returns c = record { result_value = c.refocus.ensures.result_value ∙ rw (c.mover_way-mover.ensures, c.forked_way-forked.ensures); right = c.refocus.ensures.right }
