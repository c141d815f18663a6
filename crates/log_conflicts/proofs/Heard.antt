-- What a thread has not heard of what reaches a port, by the clocks: then some record that feeds the port does not reach the thread. Logs newest first.
-- Assumes nothing.
use Prim.Native.Nat.{ℕ, zero, suc, ◌<◌, ◌≤◌, max}
use mathlib.Core.Path.{◌≡◌, refl, sym, subst}
use mathlib.Core.Bool.{Bool, true, false, cond, ◌||◌}
use mathlib.Core.List.{List, [], ◌∷◌}
use mathlib.Core.Logic.{◌⊎◌, inl, inr}
use lib.ListN.{length}
use lib.Dec.{T, eqb, eqb→eq}
use mir.Facts.{yes_eqb}
use native.Mathlib.Omega.{arith}
use native.Mathlib.Decide.{ℕ_discrete, dec_le}
use Rattle.format.specs.Version.{Version}
use Rattle.log_records.specs.Record.{Record}
use Rattle.log_order.proofs.Newest.{At, here, back, Linked, Chain, one, more}
use Rattle.log_order.proofs.Ports.{Port, of_thread, Feeds}
use Rattle.log_order.proofs.Flow.{Reach, UpTo, itself, along, Fed, reach→fed, at→reach}
use Rattle.log_conflicts.proofs.Clock.{count, clock, clock_bound}
use Rattle.log_conflicts.proofs.ClockReach.{Nth, newest, older, reach→clock, clock→reach}

-- ---- chains follow one another

pub chain_on : {v : Version} {H : List Record} {i j k : ℕ} → Chain v H i j → Chain v H j k → Chain v H i k
chain_on c (one l) = more c l
chain_on c (more d l) = more (chain_on c d) l

up_to_on : {v : Version} {H : List Record} {i j k : ℕ} → UpTo v H i j → UpTo v H j k → UpTo v H i k
up_to_on {v} {H} {k = k} (itself e) d = subst (λ (m : ℕ). UpTo v H m k) (sym e) d
up_to_on {v} {H} {i = i} (along c) (itself e) = along (subst (λ (m : ℕ). Chain v H i m) e c)
up_to_on (along c) (along d) = along (chain_on c d)

-- what comes up to a record reaches what the record reaches
pub reach_on : {v : Version} {H : List Record} {i k : ℕ} {p : Port} → UpTo v H i k → Reach v k H p → Reach v i H p
reach_on {H = H} {p = p} c x = let d = reach→fed x in at→reach H p d.at_index d.feeds (up_to_on c d.up_to)

-- ---- the records of a thread, by their turns

-- each turn up to the thread's count is some record's
pub nth_at : (H : List Record) (u c : ℕ) → 0 < c → c ≤ count H u → (i : ℕ) × Nth H i u c
nth_at [] u c h k = absurd (omega arith)
nth_at (r ∷ H) u c h k = go (eqb r.thread u) (λ x. eqb→eq r.thread u x) k (dec_le c (count H u)) (nth_at H u c h)
  where
    go : (b : Bool) → (T b → r.thread ≡ u) → c ≤ cond b (suc (count H u)) (count H u) → Dec (c ≤ count H u) → (c ≤ count H u → (i : ℕ) × Nth H i u c)
        → (i : ℕ) × Nth (r ∷ H) i u c
    go b e l (yes m) ih = let d = ih m in (d.0, older d.1)
    go true e l (no m) ih = let k : c ≡ suc (count H u) = omega arith in (length H, newest (e tt) refl k)
    go false e l (no m) ih = absurd (m l)

-- each record has a turn
pub turn_of : {H : List Record} {i : ℕ} {w : Record} → At H i w → (c : ℕ) × Nth H i w.thread c
turn_of (here {H = H} {r = r} e) = (suc (count H r.thread), newest refl e refl)
turn_of (back h) = let d = turn_of h in (d.0, older d.1)

-- ---- what is not heard

-- a record that feeds the port p and does not reach thread t
pub record Missed (v : Version) (H : List Record) (t : ℕ) (p : Port) : Type 0 where
  pub index : ℕ
  pub feeder : Record
  pub at_index : At H index feeder
  pub feeds : Feeds v feeder p
  pub no_reach : Reach v index H (of_thread t) → ⊥

pub behind→missed : (v : Version) (H : List Record) (t : ℕ) (p : Port) (u : ℕ) → clock v H (of_thread t) u < clock v H p u → Missed v H t p
behind→missed v H t p u h =
    record { index = d.index; feeder = d.feeder; at_index = d.at_index; feeds = d.feeds; no_reach = λ x. not_heard (reach_on d.up_to x) }
  where
    n : (i : ℕ) × Nth H i u (clock v H p u)
    n = nth_at H u (clock v H p u) (omega arith) (clock_bound v H p u)

    d : Fed v H n.0 p
    d = reach→fed (clock→reach v p n.1 (omega arith))

    not_heard : Reach v n.0 H (of_thread t) → ⊥
    not_heard x = let k : clock v H p u ≤ clock v H (of_thread t) u = reach→clock v n.1 x in omega arith

pub missed→behind : (v : Version) (H : List Record) (t : ℕ) (p : Port) (m : Missed v H t p)
    → clock v H (of_thread t) m.feeder.thread < clock v H p m.feeder.thread
missed→behind v H t p m = go (dec_le n.0 (clock v H (of_thread t) m.feeder.thread))
  where
    n : (c : ℕ) × Nth H m.index m.feeder.thread c
    n = turn_of m.at_index

    up : n.0 ≤ clock v H p m.feeder.thread
    up = reach→clock v n.1 (at→reach H p m.at_index m.feeds (itself refl))

    go : Dec (n.0 ≤ clock v H (of_thread t) m.feeder.thread) → clock v H (of_thread t) m.feeder.thread < clock v H p m.feeder.thread
    go (yes k) = absurd (m.no_reach (clock→reach v (of_thread t) n.1 k))
    go (no k) = omega (arith, up)
