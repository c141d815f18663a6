-- The thread states that the function computes are those that the relations give, and no others. Assumes nothing.
use Prim.Native.Nat.{ℕ, zero, suc, ◌+◌, ◌<◌}
use native.Mathlib.Omega.{arith}
use mathlib.Core.Path.{◌≡◌, refl, ap, ◌∙◌, subst as along}
use mathlib.Core.Logic.{◌↔◌}
use mathlib.Core.Option.{Option, some}
use lib.ListN.{length, get_elem?}
use Rattle.plan_packed.specs.Syntax.{Program}
use Rattle.rules.specs.State.{State}
use Rattle.rules.specs.Step.{AttemptOf, Attempt, attempt}
use Rattle.rules.specs.Run.{Status, absent, finished, ready, waiting, stuck, lacking, status, statuses_from}
use Rattle.rules.specs.ThreadStates.{HasStatus}
use Rattle.rules.proofs.OneKey.{OneKey}
use Rattle.rules.proofs.Invariant.{Inv}
use Rattle.rules.proofs.Equivalence.{Described, described, complete, complete_lacks, complete_passed}
use Rattle.rules.proofs.Progress.{Ruled, ruled, unless_ruled}

module _ (g : Program) (s : State) (p : ℕ) where
  -- no two states
  pub only_status : (x : Status) → HasStatus g s p x → status (attempt g s p) ≡ x
  unfolding status
  only_status absent h = ap status (complete_passed g s p h)
  only_status (finished v) h = ap status (complete_passed g s p h)
  only_status ready (R, e, s', m) = ap status (complete g s p m)
  only_status (waiting w) h = ap status (complete_passed g s p h)
  only_status (stuck r) h = ap status (complete_passed g s p h)
  only_status (lacking o f) (e, h, q, w) = ap status (complete_lacks g s p h) ∙ (λ i. lacking (q i) (w i))

  module _ (I : OneKey g s) where
    has_status_of : (a : Attempt) → Described g s I p a → Ruled a → HasStatus g s p (status a)
    unfolding status
    has_status_of AttemptOf.absent h k = h
    has_status_of (AttemptOf.finished v) h k = h
    has_status_of (AttemptOf.waiting w) h k = h
    has_status_of (AttemptOf.stuck r) h k = unless_ruled r _ k h
    has_status_of (AttemptOf.lacking r) h k = (r, h, refl, refl)
    has_status_of (AttemptOf.moves m) h k = (m.rule, m.entry, m.state, h)

    -- the state that the function computes
    pub has_status : Inv g s → HasStatus g s p (status (attempt g s p))
    has_status J = has_status_of (attempt g s p) (described g s I p) (ruled g s J p)

-- ---- the statuses of an outcome

pub status_at : (g : Program) (s : State) (p n i : ℕ) → i < n → get_elem? (statuses_from g s p n) i ≡ some (status (attempt g s (p + i)))
unfolding statuses_from
status_at g s p zero i h = absurd (omega arith)
status_at g s p (suc n) zero h = ap (λ (q : ℕ). some (status (attempt g s q))) (omega arith)
status_at g s p (suc n) (suc i) h = status_at g s (suc p) n i (omega arith) ∙ ap (λ (q : ℕ). some (status (attempt g s q))) (omega arith)

pub eight_statuses : (g : Program) (s : State) → length (statuses_from g s 0 8) ≡ 8
unfolding statuses_from
eight_statuses g s = refl

-- thread p of eight is listed with status x exactly where it has it
pub listed_status : (g : Program) (s : State) → OneKey g s → Inv g s → (p : ℕ) → p < 8 → (x : Status)
    → (get_elem? (statuses_from g s 0 8) p ≡ some x) ↔ HasStatus g s p x
listed_status g s I J p h x = (λ e. along (HasStatus g s p) (one e) (has_status g s p I J), λ k. listed ∙ ap {B = Option Status} some (only_status g s p x k))
  where
    listed : get_elem? (statuses_from g s 0 8) p ≡ some (status (attempt g s p))
    listed = status_at g s 0 8 p h ∙ ap (λ (q : ℕ). some (status (attempt g s q))) (omega arith)

    one : get_elem? (statuses_from g s 0 8) p ≡ some x → status (attempt g s p) ≡ x
    one e = cc listed
