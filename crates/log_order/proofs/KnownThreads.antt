-- The invariant through one record: the sets of threads. Assumes nothing.
use Prim.Native.Nat.{ℕ}
use mathlib.Core.Path.{◌≡◌, refl, sym, subst}
use mathlib.Core.Bool.{Bool, true, not}
use mathlib.Core.List.{List, ◌∷◌}
use mathlib.Core.Logic.Iff
use mathlib.Core.Logic.{◌⊎◌, inl, inr, ◌↔◌}
use lib.Dec.{T, T_not}
use native.Mathlib.Decide.{ℕ_discrete}
use Rattle.format.specs.Version.{Version, v0, v1}
use Rattle.log_records.specs.Record.{Kind, new, read, write, readv, writev, acquire, release, fork, join, lacks_read, lacks_write, Record, entry}
use Rattle.log_order.proofs.Tests.{or_iff, differ}
use Rattle.log_order.proofs.Ports.{of_thread, Feeds}
use Rattle.log_order.proofs.KeySets.{union, union↔, learn, learn↔, put, put_same, put_other, put_same↔, put_other↔}
use Rattle.log_order.proofs.KeyMachine.{KeyState, act, Needs}
use Rattle.log_order.proofs.Known.{Known, kept, known_zero, Invariant, Extra, Gain, known_split, gain_own, gain_extra, unfed}

nothing_more_lem : {A : Type 0} → A ↔ (A ⊎ ⊥)
nothing_more_lem {A} = (inl, go)
  where
    go : A ⊎ ⊥ → A
    go (inl a) = a
    go (inr b) = absurd b

-- a present thread is not one that is absent
absent_other : (s : KeyState) (t q : ℕ) → T (s.present t) → T (not (s.present q)) → q ≡ t → ⊥
absent_other s t q pt nq e = T_not (s.present t) (rw e at nq) pt

-- the set of the record's own thread
pub own : (v : Version) (κ : Kind) (t o f : ℕ) {H : List Record} (s : KeyState) → Invariant v H s → T (s.present t) → Needs κ t o f s → (k : ℕ)
    → T ((act v κ t o f s).knows t k) ↔ (T (s.knows t k) ⊎ Extra v κ o f H k)
own v new t o f s I pt nd k = nothing_more_lem
own v read t o f s I pt nd k = nothing_more_lem
own v write t o f s I pt nd k =
    Iff.trans (put_same↔ s.knows t (learn s.next (s.knows t)) k) (Iff.trans (learn↔ s.next (s.knows t) k) (or_iff (rw I.next_key Iff.rfl)))
own v0 readv t o f s I pt nd k = nothing_more_lem
own v1 readv t o f s I pt nd k =
    Iff.trans (put_same↔ s.knows t (union (s.knows t) (s.volatiles o f)) k)
    (Iff.trans (union↔ (s.knows t) (s.volatiles o f) k) (or_iff (I.volatiles_know o f k refl)))
own v0 writev t o f s I pt nd k = nothing_more_lem
own v1 writev t o f s I pt nd k = nothing_more_lem
own v acquire t o f s I pt nd k =
    Iff.trans (put_same↔ s.knows t (union (s.knows t) (s.monitors o)) k)
    (Iff.trans (union↔ (s.knows t) (s.monitors o) k) (or_iff (I.free_know o nd.0 k nd.1)))
own v release t o f s I pt nd k = nothing_more_lem
own v fork t o f s I pt nd k = Iff.trans (put_other↔ s.knows f (s.knows t) t k (absent_other s t f pt nd)) nothing_more_lem
own v join t o f s I pt nd k =
    Iff.trans (put_same↔ s.knows t (union (s.knows t) (s.knows f)) k) (Iff.trans (union↔ (s.knows t) (s.knows f) k) (or_iff (I.threads_know f k nd)))
own v lacks_read t o f s I pt nd k = nothing_more_lem
own v lacks_write t o f s I pt nd k = nothing_more_lem

own_step : (v : Version) (κ : Kind) (t o f x : ℕ) {H : List Record} (s : KeyState) → Invariant v H s → T (s.present t) → Needs κ t o f s → (k : ℕ)
    → T ((act v κ t o f s).knows t k) ↔ Known v k (entry κ t o f x ∷ H) (of_thread t)
own_step v κ t o f x {H} s I pt nd k = (λ y. there ((own v κ t o f s I pt nd k).0 y), λ y. (own v κ t o f s I pt nd k).1 (hither (known_split κ t o f x y)))
  where
    there : T (s.knows t k) ⊎ Extra v κ o f H k → Known v k (entry κ t o f x ∷ H) (of_thread t)
    there (inl y) = kept ((I.threads_know t k pt).0 y)
    there (inr z) = gain_extra v κ t o f x (of_thread t) (inl refl) z

    hither : Known v k H (of_thread t) ⊎ (Feeds v (entry κ t o f x) (of_thread t) × Gain v κ t o f H k) → T (s.knows t k) ⊎ Extra v κ o f H k
    hither (inl y) = inl ((I.threads_know t k pt).1 y)
    hither (inr (_, inl y)) = inl ((I.threads_know t k pt).1 y)
    hither (inr (_, inr z)) = inr z

-- another thread's set, where the record does not fork it
still : {v : Version} (κ : Kind) (t o f x u : ℕ) {H : List Record} (s : KeyState) → Invariant v H s → (t ≡ u → ⊥) → (κ ≡ fork → f ≡ u → ⊥) → T (s.present u)
    → (k : ℕ) → T (s.knows u k) ↔ Known v k (entry κ t o f x ∷ H) (of_thread u)
still {v} κ t o f x u s I n m pu k = Iff.trans (I.threads_know u k pu) (unfed κ t o f x (of_thread u) no_way)
  where
    no_way : Feeds v (entry κ t o f x) (of_thread u) → ⊥
    no_way (inl e) = n e
    no_way (inr (e, g)) = m e g

put_true : (g : ℕ → Bool) (q : ℕ) → T (put g q true q)
put_true g q = subst (λ (b : Bool). T b) (sym (put_same g q true)) tt

put_true_other : (g : ℕ → Bool) (q u : ℕ) → (q ≡ u → ⊥) → T (put g q true u) → T (g u)
put_true_other g q u n y = subst (λ (b : Bool). T b) (put_other g q true u n) y

-- the set of the thread that a fork makes
child_step : (v : Version) (t o f x : ℕ) {H : List Record} (s : KeyState) → Invariant v H s → T (s.present t) → T (not (s.present f)) → (k : ℕ)
    → T (put s.knows f (s.knows t) f k) ↔ Known v k (entry fork t o f x ∷ H) (of_thread f)
child_step v t o f x {H} s I pt nd k =
    Iff.trans (put_same↔ s.knows f (s.knows t) k) (
      λ y. gain_own fork t o f x (of_thread f) (inr (refl, refl)) ((I.threads_know t k pt).0 y),
      λ y. go (known_split fork t o f x y),
    )
  where
    go : Known v k H (of_thread f) ⊎ (Feeds v (entry fork t o f x) (of_thread f) × Gain v fork t o f H k) → T (s.knows t k)
    go (inl y) = (I.threads_know t k pt).1 (rw (I.absent_zero f k nd y) (known_zero H (of_thread t)))
    go (inr (_, inl y)) = (I.threads_know t k pt).1 y
    go (inr (_, inr z)) = absurd z

fork_step : (v : Version) (t o f x u : ℕ) {H : List Record} (s : KeyState) → Invariant v H s → T (s.present t) → T (not (s.present f)) → (t ≡ u → ⊥)
    → T (put s.present f true u) → (k : ℕ) → T (put s.knows f (s.knows t) u k) ↔ Known v k (entry fork t o f x ∷ H) (of_thread u)
fork_step v t o f x u {H} s I pt nd n pu k = go (ℕ_discrete f u)
  where
    go : Dec (f ≡ u) → T (put s.knows f (s.knows t) u k) ↔ Known v k (entry fork t o f x ∷ H) (of_thread u)
    go (yes e) = subst (λ (w : ℕ). T (put s.knows f (s.knows t) w k) ↔ Known v k (entry fork t o f x ∷ H) (of_thread w)) e (child_step v t o f x s I pt nd k)
    go (no m) = Iff.trans (put_other↔ s.knows f (s.knows t) u k m) (still fork t o f x u s I n (λ _ e. m e) (put_true_other s.present f u m pu) k)

other_step : (v : Version) (κ : Kind) (t o f x u : ℕ) {H : List Record} (s : KeyState) → Invariant v H s → T (s.present t) → Needs κ t o f s → (t ≡ u → ⊥)
    → T ((act v κ t o f s).present u) → (k : ℕ) → T ((act v κ t o f s).knows u k) ↔ Known v k (entry κ t o f x ∷ H) (of_thread u)
other_step v new t o f x u s I pt nd n pu k = still new t o f x u s I n (λ e _. differ e tt) pu k
other_step v read t o f x u s I pt nd n pu k = still read t o f x u s I n (λ e _. differ e tt) pu k
other_step v write t o f x u s I pt nd n pu k =
    Iff.trans (put_other↔ s.knows t (learn s.next (s.knows t)) u k n) (still write t o f x u s I n (λ e _. differ e tt) pu k)
other_step v0 readv t o f x u s I pt nd n pu k = still readv t o f x u s I n (λ e _. differ e tt) pu k
other_step v1 readv t o f x u s I pt nd n pu k =
    Iff.trans (put_other↔ s.knows t (union (s.knows t) (s.volatiles o f)) u k n) (still readv t o f x u s I n (λ e _. differ e tt) pu k)
other_step v0 writev t o f x u s I pt nd n pu k = still writev t o f x u s I n (λ e _. differ e tt) pu k
other_step v1 writev t o f x u s I pt nd n pu k = still writev t o f x u s I n (λ e _. differ e tt) pu k
other_step v acquire t o f x u s I pt nd n pu k =
    Iff.trans (put_other↔ s.knows t (union (s.knows t) (s.monitors o)) u k n) (still acquire t o f x u s I n (λ e _. differ e tt) pu k)
other_step v release t o f x u s I pt nd n pu k = still release t o f x u s I n (λ e _. differ e tt) pu k
other_step v fork t o f x u s I pt nd n pu k = fork_step v t o f x u s I pt nd n pu k
other_step v join t o f x u s I pt nd n pu k =
    Iff.trans (put_other↔ s.knows t (union (s.knows t) (s.knows f)) u k n) (still join t o f x u s I n (λ e _. differ e tt) pu k)
other_step v lacks_read t o f x u s I pt nd n pu k = still lacks_read t o f x u s I n (λ e _. differ e tt) pu k
other_step v lacks_write t o f x u s I pt nd n pu k = still lacks_write t o f x u s I n (λ e _. differ e tt) pu k

pub thread_step : (v : Version) (κ : Kind) (t o f x : ℕ) {H : List Record} (s : KeyState) → Invariant v H s → T (s.present t) → Needs κ t o f s → (u k : ℕ)
    → T ((act v κ t o f s).present u) → T ((act v κ t o f s).knows u k) ↔ Known v k (entry κ t o f x ∷ H) (of_thread u)
thread_step v κ t o f x {H} s I pt nd u k pu = go (ℕ_discrete t u)
  where
    go : Dec (t ≡ u) → T ((act v κ t o f s).knows u k) ↔ Known v k (entry κ t o f x ∷ H) (of_thread u)
    go (yes e) = subst (λ (w : ℕ). T ((act v κ t o f s).knows w k) ↔ Known v k (entry κ t o f x ∷ H) (of_thread w)) e (own_step v κ t o f x s I pt nd k)
    go (no n) = other_step v κ t o f x u s I pt nd n pu k

-- a thread that is present stays
present_fork : (g : ℕ → Bool) (f u : ℕ) → T (g u) → T (put g f true u)
present_fork g f u y = go (ℕ_discrete f u)
  where
    go : Dec (f ≡ u) → T (put g f true u)
    go (yes e) = subst (λ (w : ℕ). T (put g f true w)) e (put_true g f)
    go (no m) = subst (λ (b : Bool). T b) (sym (put_other g f true u m)) y

pub stays : (v : Version) (κ : Kind) (t o f : ℕ) (s : KeyState) (u : ℕ) → T (s.present u) → T ((act v κ t o f s).present u)
stays v new t o f s u y = y
stays v read t o f s u y = y
stays v write t o f s u y = y
stays v0 readv t o f s u y = y
stays v1 readv t o f s u y = y
stays v0 writev t o f s u y = y
stays v1 writev t o f s u y = y
stays v acquire t o f s u y = y
stays v release t o f s u y = y
stays v fork t o f s u y = present_fork s.present f u y
stays v join t o f s u y = y
stays v lacks_read t o f s u y = y
stays v lacks_write t o f s u y = y

-- and forget no key
pub grows : (v : Version) (κ : Kind) (t o f x : ℕ) {H : List Record} (s : KeyState) → Invariant v H s → T (s.present t) → Needs κ t o f s → (u k : ℕ)
    → T (s.present u) → T (s.knows u k) → T ((act v κ t o f s).knows u k)
grows v κ t o f x s I pt nd u k pu y = (thread_step v κ t o f x s I pt nd u k (stays v κ t o f s u pu)).1 (kept ((I.threads_know u k pu).0 y))

absent_still : {v : Version} (κ : Kind) (t o f x : ℕ) {H : List Record} (s : KeyState) → Invariant v H s → T (s.present t) → (u k : ℕ)
    → (κ ≡ fork → f ≡ u → ⊥) → T (not (s.present u)) → Known v k (entry κ t o f x ∷ H) (of_thread u) → k ≡ 0
absent_still {v} κ t o f x s I pt u k m nu y = I.absent_zero u k nu ((unfed κ t o f x (of_thread u) no_way).1 y)
  where
    no_way : Feeds v (entry κ t o f x) (of_thread u) → ⊥
    no_way (inl e) = absent_other s t u pt nu (sym e)
    no_way (inr (e, g)) = m e g

not_put : (g : ℕ → Bool) (f u : ℕ) → T (not (put g f true u)) → (f ≡ u → ⊥) × T (not (g u))
not_put g f u y = (never, subst (λ (b : Bool). T (not b)) (put_other g f true u never) y)
  where
    never : f ≡ u → ⊥
    never e = T_not (put g f true u) y (subst (λ (w : ℕ). T (put g f true w)) e (put_true g f))

pub absent_step : (v : Version) (κ : Kind) (t o f x : ℕ) {H : List Record} (s : KeyState) → Invariant v H s → T (s.present t) → (u k : ℕ)
    → T (not ((act v κ t o f s).present u)) → Known v k (entry κ t o f x ∷ H) (of_thread u) → k ≡ 0
absent_step v new t o f x s I pt u k nu y = absent_still new t o f x s I pt u k (λ e _. differ e tt) nu y
absent_step v read t o f x s I pt u k nu y = absent_still read t o f x s I pt u k (λ e _. differ e tt) nu y
absent_step v write t o f x s I pt u k nu y = absent_still write t o f x s I pt u k (λ e _. differ e tt) nu y
absent_step v0 readv t o f x s I pt u k nu y = absent_still readv t o f x s I pt u k (λ e _. differ e tt) nu y
absent_step v1 readv t o f x s I pt u k nu y = absent_still readv t o f x s I pt u k (λ e _. differ e tt) nu y
absent_step v0 writev t o f x s I pt u k nu y = absent_still writev t o f x s I pt u k (λ e _. differ e tt) nu y
absent_step v1 writev t o f x s I pt u k nu y = absent_still writev t o f x s I pt u k (λ e _. differ e tt) nu y
absent_step v acquire t o f x s I pt u k nu y = absent_still acquire t o f x s I pt u k (λ e _. differ e tt) nu y
absent_step v release t o f x s I pt u k nu y = absent_still release t o f x s I pt u k (λ e _. differ e tt) nu y
absent_step v fork t o f x s I pt u k nu y = absent_still fork t o f x s I pt u k (λ _ e. (not_put s.present f u nu).0 e) (not_put s.present f u nu).1 y
absent_step v join t o f x s I pt u k nu y = absent_still join t o f x s I pt u k (λ e _. differ e tt) nu y
absent_step v lacks_read t o f x s I pt u k nu y = absent_still lacks_read t o f x s I pt u k (λ e _. differ e tt) nu y
absent_step v lacks_write t o f x s I pt u k nu y = absent_still lacks_write t o f x s I pt u k (λ e _. differ e tt) nu y
