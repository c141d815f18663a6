-- A key other than 0 reaches a port exactly when the write that made it does; so a thread's set holds key 0 and the keys of just the writes with a
-- chain to a next record of the thread. Logs newest first. Assumes nothing.
use Prim.Native.Nat.{ℕ}
use mathlib.Core.Path.{◌≡◌, refl, sym, subst}
use mathlib.Core.List.{List, ◌∷◌}
use mathlib.Core.Logic.Iff
use mathlib.Core.Logic.{◌⊎◌, inl, inr, ◌↔◌}
use lib.ListN.{length}
use lib.Dec.{T}
use native.Mathlib.Omega.{arith}
use Rattle.format.specs.Version.{Version}
use Rattle.log_records.specs.Record.{new, Record, entry}
use Rattle.log_order.proofs.Tests.{differ, or_iff}
use Rattle.log_order.proofs.Newest.{Chain}
use Rattle.log_order.proofs.Ports.{Port, of_thread, draws_own}
use Rattle.log_order.proofs.Flow.{Reach, reach_below, own_chain}
use Rattle.log_order.proofs.Flow as F
use Rattle.log_order.proofs.WriteKeys.{KeyAt, makes, older, key_below}
use Rattle.log_order.proofs.KeyMachine.{after, Legal}
use Rattle.log_order.proofs.Known.{Known, base, kept, made, passed, known_zero}
use Rattle.log_order.proofs.Invariant.{invariant}

-- the write that made key k reaches the port p
pub record Traced (v : Version) (H : List Record) (k : ℕ) (p : Port) : Type 0 where
  pub index : ℕ
  pub made_at : KeyAt H index k
  pub reaches : Reach v index H p

pub known→traced : {v : Version} {k : ℕ} {H : List Record} {p : Port} → Known v k H p → (k ≡ 0) ⊎ Traced v H k p
known→traced (base e) = inl e
known→traced {v} {k} {p = p} (kept {r = r} {H = H} x) = go (known→traced x)
  where
    go : (k ≡ 0) ⊎ Traced v H k p → (k ≡ 0) ⊎ Traced v (r ∷ H) k p
    go (inl e) = inl e
    go (inr d) = inr (record { index = d.index; made_at = older d.made_at; reaches = F.kept d.reaches })
known→traced (made {H = H} w e o) = inr (record { index = length H; made_at = makes w refl e; reaches = F.made refl o })
known→traced {v} {k} {p = p} (passed {r = r} {H = H} {q = q} n x o) = go (known→traced x)
  where
    go : (k ≡ 0) ⊎ Traced v H k q → (k ≡ 0) ⊎ Traced v (r ∷ H) k p
    go (inl e) = inl e
    go (inr d) = inr (record { index = d.index; made_at = older d.made_at; reaches = F.passed n d.reaches o })

pub reach→known : {v : Version} {i k : ℕ} {H : List Record} {p : Port} → KeyAt H i k → Reach v i H p → Known v k H p
reach→known (makes w e g) (F.kept x) = let b = reach_below x in absurd (omega arith)
reach→known (makes w e g) (F.made e' o) = made w g o
reach→known (makes w e g) (F.passed n x o) = let b = reach_below x in absurd (omega arith)
reach→known (older y) (F.kept x) = kept (reach→known y x)
reach→known (older y) (F.made e o) = let b = key_below y in absurd (omega arith)
reach→known (older y) (F.passed n x o) = passed n (reach→known y x) o

pub known↔traced : {v : Version} (k : ℕ) (H : List Record) (p : Port) → Known v k H p ↔ ((k ≡ 0) ⊎ Traced v H k p)
known↔traced {v} k H p = (known→traced, hither)
  where
    hither : (k ≡ 0) ⊎ Traced v H k p → Known v k H p
    hither (inl e) = subst (λ (m : ℕ). Known v m H p) (sym e) (known_zero H p)
    hither (inr d) = reach→known d.made_at d.reaches

-- key k is that of a plain write that would have a chain to a `new` record of thread t, were one put at the log's end
pub record WouldReach (v : Version) (H : List Record) (t k : ℕ) : Type 0 where
  pub index : ℕ
  pub made_at : KeyAt H index k
  pub chain : Chain v (entry new t 0 0 0 ∷ H) index (length H)

-- a present thread's set after a legal log
pub every_set_newest : (v : Version) (H : List Record) → Legal v H → (t k : ℕ) → T ((after v H).present t)
    → T ((after v H).knows t k) ↔ ((k ≡ 0) ⊎ WouldReach v H t k)
every_set_newest v H l t k pt = Iff.trans ((invariant v H l).threads_know t k pt) (Iff.trans (known↔traced k H (of_thread t)) (or_iff would))
  where
    chain↔ : (i : ℕ) → Chain v (entry new t 0 0 0 ∷ H) i (length H) ↔ Reach v i H (of_thread t)
    chain↔ i = own_chain (entry new t 0 0 0) H i (draws_own v (entry new t 0 0 0) (λ e. differ e tt) (λ e. differ e tt) (λ e. differ e tt))

    would : Traced v H k (of_thread t) ↔ WouldReach v H t k
    would = (
      λ d. record { index = d.index; made_at = d.made_at; chain = (chain↔ d.index).1 d.reaches },
      λ d. record { index = d.index; made_at = d.made_at; reaches = (chain↔ d.index).0 d.chain },
    )
