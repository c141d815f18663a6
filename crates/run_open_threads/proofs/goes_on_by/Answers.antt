-- `goes_on_by` meets its contract. Assumes nothing.
use native.Mathlib.Omega.{arith}
use mathlib.Core.Path.{sym, ◌∙◌}
use mathlib.Core.Bool.{true≢false}
use borrow.Author.Rules.{rules}
use Rattle.run_open_threads.proofs.goes_on_by.Goals as goal
use Rattle.run_open_threads.proofs.goes_on_by.Goals.{then-stopped-via-then-stopped, then-stopped-via-else-stopped+then-places-made}

pub returns-then-stopped : goal.returns-then-stopped
returns-then-stopped c =
    elim c.then-stopped.branch [
      | then-stopped-via-then-stopped w ↦ record { within = omega arith; going = λ h. absurd (omega arith); none = λ e f. absurd (true≢false (sym w.if-stopped.true ∙ f)) }
      | then-stopped-via-else-stopped+then-places-made w ↦ record { within = omega arith; going = λ h. absurd (omega arith); none = λ e f m. absurd (omega arith) }
    ]

pub returns : goal.returns
returns c =
    let l = c.open_from.ensures in
    record {
      within = l.within;
      going = λ h. (c.if-stopped.false, omega arith, l);
      none = λ e f m k b. l.before k (omega arith) (omega (arith, e, b));
    }
