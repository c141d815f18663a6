-- One run of a schedule tells whether any of its picks is passed over or comes after a stop: none is, exactly where the moves and one for a stop are as many
-- as the picks. Assumes nothing.
use Prim.Native.Nat.{ℕ, zero, suc, ◌+◌, ◌≤◌, ◌<◌}
use native.Mathlib.Omega.{arith}
use mathlib.Core.Path.{◌≡◌, refl}
use mathlib.Core.Bool.{true≢false}
use mathlib.Core.List.{List, [], ◌∷◌}
use lib.ListN.{length, get_or, take}
use Rattle.plan_packed.specs.Syntax.{Program}
use Rattle.rules.specs.State.{State, start}
use Rattle.rules.specs.Room.{PickAnswerOf, PickAnswer, step}
use Rattle.rules.specs.Run.{Stop, Run, after_pass, after_move, stopped, resume, run, play, instances}
use Rattle.listing.specs.Listed.{Whole, Listed}
use Rattle.listing.specs.Inner.CanFollow.{stops}

-- the moves of a run, and one for its stop
abbrev pub counted : Run → ℕ
counted r = length (instances r) + stops r.stop

module _ (g : Program) where
  -- thread p's pick in the state where a run stands: the run has not stopped, and the pick is not passed over
  abbrev Taken : Run → ℕ → Type 0
  Taken r p = (r.stop ≡ Stop.end) × (step g r.final p ≡ PickAnswerOf.passed → ⊥)

  -- of every pick of a schedule, from state s
  abbrev AllTaken : State → List ℕ → Type 0
  AllTaken s ps = (i : ℕ) → i < length ps → Taken (run g s (take i ps)) (get_or ps i 0)

  -- no run counts more than its picks
  few : (s : State) (ps : List ℕ) → counted (run g s ps) ≤ length ps
  unfolding run instances resume after_pass after_move stopped stops
  few s [] = omega arith
  few s (p ∷ ps) = go (step g s p) (λ z. few z ps)
    where
      go : (a : PickAnswer) → ((z : State) → counted (run g z ps) ≤ length ps) → counted (resume s p (λ z. run g z ps) a) ≤ suc (length ps)
      go PickAnswerOf.passed ih = let h = ih s in omega arith
      go (PickAnswerOf.race r) ih = omega arith
      go (PickAnswerOf.no_room k) ih = omega arith
      go (PickAnswerOf.moved m) ih = let h = ih m.state in omega arith

  -- a pick behind others, by the first pick's answer
  abbrev Later : State → ℕ → List ℕ → PickAnswer → Type 0
  Later s p ps a = (i : ℕ) → i < length ps → Taken (resume s p (λ z. run g z (take i ps)) a) (get_or ps i 0)

  no_more : (s : State) (p : ℕ) (ps : List ℕ) (a : PickAnswer) → ((k : State → Run) → (resume s p k a).stop ≡ Stop.end → ⊥) → Later s p ps a → length ps ≡ 0
  no_more s p [] a n h = refl
  no_more s p (q ∷ ps) a n h = absurd (n _ (h 0 (omega arith)).0)

  pub taken_counted : (s : State) (ps : List ℕ) → AllTaken s ps → counted (run g s ps) ≡ length ps
  unfolding run instances resume after_pass after_move stopped stops
  taken_counted s [] h = refl
  taken_counted s (p ∷ ps) h = go (step g s p) (h 0 (omega arith)).1 (λ i b. h (suc i) (omega arith)) (λ z k. taken_counted z ps k)
    where
      go : (a : PickAnswer) → (a ≡ PickAnswerOf.passed → ⊥) → Later s p ps a
          → ((z : State) → AllTaken z ps → counted (run g z ps) ≡ length ps) → counted (resume s p (λ z. run g z ps) a) ≡ suc (length ps)
      go PickAnswerOf.passed n h ih = absurd (n refl)
      go (PickAnswerOf.race r) n h ih = let e = no_more s p ps (PickAnswerOf.race r) (λ k q. true≢false cc) h in omega arith
      go (PickAnswerOf.no_room k) n h ih = let e = no_more s p ps (PickAnswerOf.no_room k) (λ k q. true≢false cc) h in omega arith
      go (PickAnswerOf.moved m) n h ih = let e = ih m.state h in omega arith

  pub counted_taken : (s : State) (ps : List ℕ) → counted (run g s ps) ≡ length ps → AllTaken s ps
  unfolding run instances resume after_pass after_move stopped stops
  counted_taken s [] e i b = absurd (omega arith)
  counted_taken s (p ∷ ps) e i b = at i b (go (step g s p) e (λ z k. counted_taken z ps k))
    where
      at : (i : ℕ) → i < suc (length ps) → (step g s p ≡ PickAnswerOf.passed → ⊥) × Later s p ps (step g s p) → Taken (run g s (take i (p ∷ ps)))
          (get_or (p ∷ ps) i 0)
      at zero b (n, h) = (refl, n)
      at (suc i) b (n, h) = h i (omega arith)

      go : (a : PickAnswer) → counted (resume s p (λ z. run g z ps) a) ≡ suc (length ps)
          → ((z : State) → counted (run g z ps) ≡ length ps → AllTaken z ps) → (a ≡ PickAnswerOf.passed → ⊥) × Later s p ps a
      go PickAnswerOf.passed e ih = absurd (omega (arith, few s ps))
      go (PickAnswerOf.race r) e ih = (λ q. true≢false cc, λ i b. absurd (omega arith))
      go (PickAnswerOf.no_room k) e ih = (λ q. true≢false cc, λ i b. absurd (omega arith))
      go (PickAnswerOf.moved m) e ih = (λ q. true≢false cc, ih m.state (omega arith))

-- ---- of a listed schedule

pub counts_few : (g : Program) (ps : List ℕ) → counted (play g ps) ≤ length ps
unfolding play
counts_few g ps = few g start ps

module _ (g : Program) (n : ℕ) (ps : List ℕ) where
  pub listed_counts : Listed g n ps → counted (play g ps) ≡ length ps
  unfolding play
  listed_counts x = taken_counted g start ps (λ i h. (x.none_after i h, x.none_passed i h))

  pub listed_by_count : length ps ≤ n → ((i : ℕ) → i < length ps → get_or ps i 0 < 8) → counted (play g ps) ≡ length ps → Whole g n ps → Listed g n ps
  unfolding play
  listed_by_count most eight e w =
      let t = counted_taken g start ps e in
      record { at_most = most; of_eight = eight; none_passed = λ i h. (t i h).1; none_after = λ i h. (t i h).0; whole = w }
