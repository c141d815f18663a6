-- `put_unlogged` meets its contract. Assumes nothing.
use native.Mathlib.Omega.{arith}
use mathlib.Core.Path.{◌≡◌, ap, sym, ◌∙◌}
use borrow.Author.Rules.{rules}
use Rattle.run_state.specs.declared.Entry.{Entry}
use Rattle.run_tally.specs.Inner.Tally.{tally_put, log_put}
use Rattle.run_tally.proofs.Shown.{made, not_counted, not_written}
use Rattle.run_tally.proofs.put_unlogged.Goals as goal

pub put-requires : goal.put-requires
put-requires c = let h = c.requires in (h.0, h.1)

pub returns-then-every : goal.returns-then-every
returns-then-every c =
    let a = c.args in
    let p = c.put.ensures in
    let e = c.entry.ensures ∙ sym (made a.every a.entry c.if-every.true c.requires.2) in record { value = (p.value.0 ∙ ap (tally_put a.tally) e, p.value.1); log_after = p.log_after ∙ ap (λ (x : Entry). log_put a.log.now a.tally.records a.thread x) e }

pub returns : goal.returns
returns c =
    let a = c.args in record { value = (not_counted a.tally a.every a.entry c.if-every.false c.requires.2, omega arith); log_after = not_written a.log.now a.tally.records a.thread a.every a.entry c.if-every.false c.requires.2 }
