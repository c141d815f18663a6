-- The thread states of an outcome, one by one, are those of its run. Assumes nothing.
use Prim.Native.Nat.{ℕ, zero, suc, ◌<◌}
use native.Mathlib.Nat.{zero-add}
use mathlib.Core.Path.{◌≡◌, ap, ◌∙◌}
use mathlib.Core.Bool.{true≢false}
use mathlib.Core.List.{List, [], ◌∷◌, map}
use mathlib.Core.Option.{some}
use lib.ListN.{get_or, get_elem?}
use Rattle.plan_packed.specs.Syntax.{Program}
use Rattle.rules.specs.Step.{attempt}
use Rattle.rules.specs.Run as run
use Rattle.rules.specs.Run.{Run, Status, status}
use Rattle.rules.proofs.ThreadStates.{status_at}
use Rattle.run_outcome.specs.declared.Thread.{Thread}
use Rattle.run_outcome.specs.declared.Outcome.{Outcome}
use Rattle.run_open_threads.specs.Inner.Open.{absent}
use Rattle.play.specs.Answer.{status_of, outcome_of}

-- an element of a list, and what it is mapped to
mapped : (l : List Thread) (p : ℕ) (y : Status) → get_elem? (map (λ (t : Thread). status_of t.state) l) p ≡ some y → status_of (get_or l p absent).state ≡ y
mapped [] p y e = absurd (true≢false cc)
mapped (t ∷ l) zero y e = cc
mapped (t ∷ l) (suc p) y e = mapped l p y e

pub status_of_lem : (g : Program) (r : Run) (o : Outcome) → outcome_of o ≡ run.outcome_of g r → (p : ℕ) → p < 8
    → status_of (get_or o.threads p absent).state ≡ status (attempt g r.final p)
unfolding outcome_of run.outcome_of
status_of_lem g r o h p b =
    mapped o.threads p (status (attempt g r.final p))
    (ap (λ (x : run.Outcome). get_elem? x.threads p) h ∙ status_at g r.final 0 8 p b ∙ ap (λ (q : ℕ). some (status (attempt g r.final q))) (zero-add p))
