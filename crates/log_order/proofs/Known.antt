-- The keys that reach a port, and the invariant: the key machine's sets are the keys that reach their ports. Assumes nothing.
use Prim.Native.Nat.{ℕ, suc}
use mathlib.Core.Path.{◌≡◌, refl}
use mathlib.Core.Bool.{not}
use mathlib.Core.List.{List, [], ◌∷◌}
use mathlib.Core.Logic.{◌⊎◌, inl, inr, ◌↔◌}
use lib.Dec.{T}
use Rattle.format.specs.Version.{Version, v0, v1}
use Rattle.log_records.specs.Record.{Kind, new, read, write, readv, writev, acquire, release, fork, join, lacks_read, lacks_write, Record, entry}
use Rattle.log_order.proofs.Ports.{Port, of_thread, of_monitor, of_volatile, of_accesses, of_writes, Feeds, Draws}
use Rattle.log_order.proofs.WriteKeys.{write_count}
use Rattle.log_order.proofs.KeyMachine.{KeyState}

-- key k reaches the port p; key 0 is everywhere from the start
pub data Known (v : Version) (k : ℕ) : List Record → Port → Type 0 where
  base : {p : Port} → k ≡ 0 → Known v k [] p
  kept : {r : Record} {H : List Record} {p : Port} → Known v k H p → Known v k (r ∷ H) p
  made : {r : Record} {H : List Record} {p : Port} → r.kind ≡ write → k ≡ suc (write_count H) → Feeds v r p → Known v k (r ∷ H) p
  passed : {r : Record} {H : List Record} {p q : Port} → Draws v r q → Known v k H q → Feeds v r p → Known v k (r ∷ H) p

pub known_zero : {v : Version} (H : List Record) (p : Port) → Known v 0 H p
known_zero [] p = base refl
known_zero (r ∷ H) p = kept (known_zero H p)

-- the machine's sets are the keys that reach their ports; while a monitor is held, its owner knows all that has reached it
pub record Invariant (v : Version) (H : List Record) (s : KeyState) : Type 0 where
  pub threads_know : (t k : ℕ) → T (s.present t) → T (s.knows t k) ↔ Known v k H (of_thread t)
  pub absent_zero : (t k : ℕ) → T (not (s.present t)) → Known v k H (of_thread t) → k ≡ 0
  pub volatiles_know : (o f k : ℕ) → v ≡ v1 → T (s.volatiles o f k) ↔ Known v k H (of_volatile o f)
  pub free_know : (o k₀ k : ℕ) → T (s.monitors o k₀) → T (s.monitors o k) ↔ Known v k H (of_monitor o)
  pub held_know : (o k : ℕ) → ((m : ℕ) → T (s.monitors o m) → ⊥) → T (s.present (s.owner o)) × (Known v k H (of_monitor o) → T (s.knows (s.owner o) k))
  pub next_key : s.next ≡ suc (write_count H)

-- ---- one record more

-- what the thread of a record of this kind comes to know besides its own
abbrev pub Extra : Version → Kind → ℕ → ℕ → List Record → ℕ → Type 0
Extra v new o f H k = ⊥
Extra v read o f H k = ⊥
Extra v write o f H k = k ≡ suc (write_count H)
Extra v0 readv o f H k = ⊥
Extra v1 readv o f H k = Known v1 k H (of_volatile o f)
Extra v writev o f H k = ⊥
Extra v acquire o f H k = Known v k H (of_monitor o)
Extra v release o f H k = ⊥
Extra v fork o f H k = ⊥
Extra v join o f H k = Known v k H (of_thread f)
Extra v lacks_read o f H k = ⊥
Extra v lacks_write o f H k = ⊥

-- what a record hands on to the ports that it feeds
abbrev pub Gain : Version → Kind → ℕ → ℕ → ℕ → List Record → ℕ → Type 0
Gain v κ t o f H k = Known v k H (of_thread t) ⊎ Extra v κ o f H k

extra_in : {v : Version} (κ : Kind) (t o f x : ℕ) {k : ℕ} {H : List Record} (q : Port) → Draws v (entry κ t o f x) q → Known v k H q → Gain v κ t o f H k
extra_in κ t o f x (of_thread q) (inl e) y = inl (rw e y)
extra_in κ t o f x (of_thread q) (inr (e, g)) y = inr (rw (e, g) y)
extra_in κ t o f x (of_monitor o') (e, g) y = inr (rw (e, g) y)
extra_in κ t o f x (of_volatile o' f') (c, e, g, h) y = inr (rw (c, e, g, h) (rw c at y))
extra_in κ t o f x (of_accesses o' f') e y = absurd e
extra_in κ t o f x (of_writes o' f') e y = absurd e

-- a key that reaches a port did so before the record, or the record hands it on
pub known_split : {v : Version} (κ : Kind) (t o f x : ℕ) {k : ℕ} {H : List Record} {p : Port} → Known v k (entry κ t o f x ∷ H) p
    → Known v k H p ⊎ (Feeds v (entry κ t o f x) p × Gain v κ t o f H k)
known_split κ t o f x (kept y) = inl y
known_split {v} κ t o f x {k} {H} (made w e u) = inr (u, inr (rw w e))
known_split κ t o f x (passed {q = q} n y u) = inr (u, extra_in κ t o f x q n y)

pub gain_own : {v : Version} (κ : Kind) (t o f x : ℕ) {k : ℕ} {H : List Record} (p : Port) → Feeds v (entry κ t o f x) p → Known v k H (of_thread t)
    → Known v k (entry κ t o f x ∷ H) p
gain_own κ t o f x p u y = passed {q = of_thread t} (inl refl) y u

pub gain_extra : (v : Version) (κ : Kind) (t o f x : ℕ) {k : ℕ} {H : List Record} (p : Port) → Feeds v (entry κ t o f x) p → Extra v κ o f H k
    → Known v k (entry κ t o f x ∷ H) p
gain_extra v new t o f x p u y = absurd y
gain_extra v read t o f x p u y = absurd y
gain_extra v write t o f x p u y = made refl y u
gain_extra v0 readv t o f x p u y = absurd y
gain_extra v1 readv t o f x p u y = passed {q = of_volatile o f} (refl, refl, refl, refl) y u
gain_extra v writev t o f x p u y = absurd y
gain_extra v acquire t o f x p u y = passed {q = of_monitor o} (refl, refl) y u
gain_extra v release t o f x p u y = absurd y
gain_extra v fork t o f x p u y = absurd y
gain_extra v join t o f x p u y = passed {q = of_thread f} (inr (refl, refl)) y u
gain_extra v lacks_read t o f x p u y = absurd y
gain_extra v lacks_write t o f x p u y = absurd y

-- a port that the record does not feed
pub unfed : {v : Version} (κ : Kind) (t o f x : ℕ) {k : ℕ} {H : List Record} (p : Port) → (Feeds v (entry κ t o f x) p → ⊥)
    → Known v k H p ↔ Known v k (entry κ t o f x ∷ H) p
unfed {v} κ t o f x {k} {H} p n = (λ y. kept y, λ y. go (known_split κ t o f x y))
  where
    go : Known v k H p ⊎ (Feeds v (entry κ t o f x) p × Gain v κ t o f H k) → Known v k H p
    go (inl y) = y
    go (inr (u, _)) = absurd (n u)
