-- The invariant, after every legal log. Assumes nothing.
use Prim.Native.Nat.{ℕ}
use mathlib.Core.Path.{◌≡◌, refl}
use mathlib.Core.List.{List, [], ◌∷◌}
use lib.Dec.{T}
use Rattle.format.specs.Version.{Version}
use Rattle.log_records.specs.Record.{Record}
use Rattle.log_order.proofs.Ports.{Port}
use Rattle.log_order.proofs.KeySets.{only_zero↔}
use Rattle.log_order.proofs.KeyMachine.{KeyState, start, step, Needs, after, Legal}
use Rattle.log_order.proofs.Known.{Known, base, Invariant}
use Rattle.log_order.proofs.KnownThreads.{thread_step, absent_step}
use Rattle.log_order.proofs.KnownPlaces.{next_step, volatile_step, free_step, held_step}

-- a record that has what it needs keeps the invariant
pub invariant_step : (v : Version) (r : Record) (H : List Record) (s : KeyState) → Invariant v H s → T (s.present r.thread)
    → Needs r.kind r.thread r.object r.field s → Invariant v (r ∷ H) (step v s r)
invariant_step v r H s I pt nd =
    record {
      threads_know = λ u k pu. thread_step v r.kind r.thread r.object r.field r.value s I pt nd u k pu;
      absent_zero = λ u k nu y. absent_step v r.kind r.thread r.object r.field r.value s I pt u k nu y;
      volatiles_know = λ o f k e. volatile_step v r.kind r.thread r.object r.field r.value s I pt o f k e;
      free_know = λ o k₀ k y. free_step v r.kind r.thread r.object r.field r.value s I pt nd o k₀ k y;
      held_know = λ o k em. held_step v r.kind r.thread r.object r.field r.value s I pt nd o k em;
      next_key = next_step v r.kind r.thread r.object r.field r.value s I;
    }

invariant_start : (v : Version) → Invariant v [] start
unfolding start
invariant_start v =
    record {
      threads_know = λ t k pt. (λ y. base ((only_zero↔ k).0 y), λ y. (only_zero↔ k).1 (known_base y));
      absent_zero = λ t k nt y. known_base y;
      volatiles_know = λ o f k e. (λ y. base ((only_zero↔ k).0 y), λ y. (only_zero↔ k).1 (known_base y));
      free_know = λ o k₀ k z. (λ y. base ((only_zero↔ k).0 y), λ y. (only_zero↔ k).1 (known_base y));
      held_know = λ o k em. absurd (em 0 ((only_zero↔ 0).1 refl));
      next_key = refl;
    }
  where
    known_base : {v : Version} {k : ℕ} {p : Port} → Known v k [] p → k ≡ 0
    known_base (base e) = e

-- after a legal log
pub invariant : (v : Version) (H : List Record) → Legal v H → Invariant v H (after v H)
invariant v [] l = invariant_start v
invariant v (r ∷ H) (l, pt, nd) = invariant_step v r H (after v H) (invariant v H l) pt nd
