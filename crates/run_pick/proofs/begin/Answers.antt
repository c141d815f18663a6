-- `begin` meets its contract. Assumes nothing.
use mathlib.Core.Path.{sym, ap, ◌∙◌}
use Rattle.run_look.specs.declared.Sight.{Sight}
use Rattle.run_pick.specs.Inner.Pick.{begin_by, begin_of}
use borrow.Author.Rules.{rules}
use Rattle.run_pick.proofs.begin.Goals as goal

pub returns-in-Ready : goal.returns-in-Ready
unfolding begin_of
returns-in-Ready c = rw c.requires
    (c.make.ensures ∙ ap (λ (w : Sight). begin_by c.args.setting
    c.args.met w)
    (sym c.in-Ready.is ∙ c.look-sight.ensures))

pub returns-in-Lacking : goal.returns-in-Lacking
unfolding begin_of
returns-in-Lacking c = rw c.requires
    (c.race.ensures ∙ ap (λ (w : Sight). begin_by c.args.setting
    c.args.met w)
    (sym c.in-Lacking.is ∙ c.look-sight.ensures))

pub returns-in-Blocked : goal.returns-in-Blocked
unfolding begin_of
returns-in-Blocked c = rw c.requires
    (ap (λ (w : Sight). begin_by c.args.setting
    c.args.met w)
    (sym c.in-Blocked.is ∙ c.look-sight.ensures))
