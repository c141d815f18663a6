-- `put_move` meets its contract. Assumes nothing.
use mathlib.Core.Path.{◌≡◌, ap, sym, ◌∙◌}
use borrow.Author.Rules.{rules}
use Rattle.run_state.specs.declared.Entry.{Entry}
use Rattle.run_tally.specs.Inner.Tally.{tally_put, log_put}
use Rattle.run_tally.proofs.Shown.{kept}
use Rattle.run_tally.proofs.put_move.Goals as goal

pub put_unlogged-requires : goal.put_unlogged-requires
put_unlogged-requires c = let h = c.requires in (h.0, h.1, c.if-entry-eq-NONE.true)

pub returns-then-entry-eq-NONE : goal.returns-then-entry-eq-NONE
returns-then-entry-eq-NONE c = let both = c.put_unlogged.ensures in record { value = both.value; log_after = both.log_after }

pub returns : goal.returns
returns c =
    let a = c.args in
    let p = c.put.ensures in
    let e = sym (kept a.every a.entry c.if-entry-eq-NONE.false) in record { value = (p.value.0 ∙ ap (tally_put a.tally) e, p.value.1); log_after = p.log_after ∙ ap (λ (x : Entry). log_put a.log.now a.tally.records a.thread x) e }
