-- The invariant through one record: the key counter, the sets of volatile fields and of monitors. Assumes nothing.
use Prim.Native.Nat.{ℕ, suc}
use mathlib.Core.Path.{◌≡◌, refl, sym, subst, ap}
use mathlib.Core.Bool.{true≢false}
use mathlib.Core.List.{List, ◌∷◌}
use mathlib.Core.Logic.Iff
use mathlib.Core.Logic.{◌⊎◌, inl, inr, ◌↔◌}
use lib.Dec.{T}
use native.Mathlib.Decide.{ℕ_discrete}
use Rattle.format.specs.Version.{Version, v0, v1}
use Rattle.log_records.specs.Record.{Kind, new, read, write, readv, writev, acquire, release, fork, join, lacks_read, lacks_write, Record, entry}
use Rattle.log_order.proofs.Tests.{differ, same_place}
use Rattle.log_order.proofs.Ports.{of_thread, of_monitor, of_volatile, Feeds}
use Rattle.log_order.proofs.WriteKeys.{write_count}
use Rattle.log_order.proofs.KeySets.{KeySet, union, union↔, no_keys, no_keys→, put, put_same, put_other, put₂, put₂_same, put₂_other, put_same↔}
use Rattle.log_order.proofs.KeySets.{put_other↔}
use Rattle.log_order.proofs.KeyMachine.{KeyState, act, Needs}
use Rattle.log_order.proofs.Known.{Known, kept, known_zero, Invariant, Gain, known_split, gain_own, unfed}
use Rattle.log_order.proofs.KnownThreads.{own, stays, grows}

-- the key counter
pub next_step : (v : Version) (κ : Kind) (t o f x : ℕ) {H : List Record} (s : KeyState) → Invariant v H s
    → (act v κ t o f s).next ≡ suc (write_count (entry κ t o f x ∷ H))
next_step v new t o f x s I = I.next_key
next_step v read t o f x s I = I.next_key
next_step v write t o f x s I = ap suc I.next_key
next_step v0 readv t o f x s I = I.next_key
next_step v1 readv t o f x s I = I.next_key
next_step v0 writev t o f x s I = I.next_key
next_step v1 writev t o f x s I = I.next_key
next_step v acquire t o f x s I = I.next_key
next_step v release t o f x s I = I.next_key
next_step v fork t o f x s I = I.next_key
next_step v join t o f x s I = I.next_key
next_step v lacks_read t o f x s I = I.next_key
next_step v lacks_write t o f x s I = I.next_key

v0≢v1 : v0 ≡ v1 → ⊥
v0≢v1 e = true≢false cc

-- the volatile fields
volatile_still : (κ : Kind) (t o f x : ℕ) {H : List Record} (s : KeyState) → Invariant v1 H s → (κ ≡ writev → ⊥) → (o' f' k : ℕ)
    → T (s.volatiles o' f' k) ↔ Known v1 k (entry κ t o f x ∷ H) (of_volatile o' f')
volatile_still κ t o f x s I n o' f' k = Iff.trans (I.volatiles_know o' f' k refl) (unfed κ t o f x (of_volatile o' f') (λ u. n u.1))

told_step : (t o f x : ℕ) {H : List Record} (s : KeyState) → Invariant v1 H s → T (s.present t) → (k : ℕ)
    → T (union (s.volatiles o f) (s.knows t) k) ↔ Known v1 k (entry writev t o f x ∷ H) (of_volatile o f)
told_step t o f x {H} s I pt k = Iff.trans (union↔ (s.volatiles o f) (s.knows t) k) (there, λ y. hither (known_split writev t o f x y))
  where
    there : T (s.volatiles o f k) ⊎ T (s.knows t k) → Known v1 k (entry writev t o f x ∷ H) (of_volatile o f)
    there (inl y) = kept ((I.volatiles_know o f k refl).0 y)
    there (inr y) = gain_own writev t o f x (of_volatile o f) (refl, refl, refl, refl) ((I.threads_know t k pt).0 y)

    hither : Known v1 k H (of_volatile o f) ⊎ (Feeds v1 (entry writev t o f x) (of_volatile o f) × Gain v1 writev t o f H k)
        → T (s.volatiles o f k) ⊎ T (s.knows t k)
    hither (inl y) = inl ((I.volatiles_know o f k refl).1 y)
    hither (inr (_, inl y)) = inr ((I.threads_know t k pt).1 y)
    hither (inr (_, inr z)) = absurd z

writev_step : (t o f x : ℕ) {H : List Record} (s : KeyState) → Invariant v1 H s → T (s.present t) → (o' f' k : ℕ)
    → T (put₂ s.volatiles o f (union (s.volatiles o f) (s.knows t)) o' f' k) ↔ Known v1 k (entry writev t o f x ∷ H) (of_volatile o' f')
writev_step t o f x {H} s I pt o' f' k = go (same_place o f o' f')
  where
    new_set : KeySet
    new_set = union (s.volatiles o f) (s.knows t)

    Goal : ℕ → ℕ → Type 0
    Goal a b = T (put₂ s.volatiles o f new_set a b k) ↔ Known v1 k (entry writev t o f x ∷ H) (of_volatile a b)

    go : Dec ((o ≡ o') × (f ≡ f')) → Goal o' f'
    go (yes (a, b)) = subst (λ (m : ℕ). Goal m f') a
        (subst (λ (m : ℕ). Goal o m) b
        (subst (λ (c : KeySet). T (c k) ↔ Known v1 k (entry writev t o f x ∷ H) (of_volatile o f)) (sym (put₂_same s.volatiles o f new_set))
        (told_step t o f x s I pt k)))
    go (no n) =
        let other : put₂ s.volatiles o f new_set o' f' ≡ s.volatiles o' f' = put₂_other s.volatiles o f new_set o' f' (λ a b. n (a, b)) in
        subst (λ (c : KeySet). T (c k) ↔ Known v1 k (entry writev t o f x ∷ H) (of_volatile o' f')) (sym other)
        (Iff.trans (I.volatiles_know o' f' k refl) (unfed writev t o f x (of_volatile o' f') (λ u. n (u.2, u.3))))

pub volatile_step : (v : Version) (κ : Kind) (t o f x : ℕ) {H : List Record} (s : KeyState) → Invariant v H s → T (s.present t) → (o' f' k : ℕ) → v ≡ v1
    → T ((act v κ t o f s).volatiles o' f' k) ↔ Known v k (entry κ t o f x ∷ H) (of_volatile o' f')
volatile_step v0 κ t o f x s I pt o' f' k e = absurd (v0≢v1 e)
volatile_step v1 new t o f x s I pt o' f' k e = volatile_still new t o f x s I (λ e. differ e tt) o' f' k
volatile_step v1 read t o f x s I pt o' f' k e = volatile_still read t o f x s I (λ e. differ e tt) o' f' k
volatile_step v1 write t o f x s I pt o' f' k e = volatile_still write t o f x s I (λ e. differ e tt) o' f' k
volatile_step v1 readv t o f x s I pt o' f' k e = volatile_still readv t o f x s I (λ e. differ e tt) o' f' k
volatile_step v1 writev t o f x s I pt o' f' k e = writev_step t o f x s I pt o' f' k
volatile_step v1 acquire t o f x s I pt o' f' k e = volatile_still acquire t o f x s I (λ e. differ e tt) o' f' k
volatile_step v1 release t o f x s I pt o' f' k e = volatile_still release t o f x s I (λ e. differ e tt) o' f' k
volatile_step v1 fork t o f x s I pt o' f' k e = volatile_still fork t o f x s I (λ e. differ e tt) o' f' k
volatile_step v1 join t o f x s I pt o' f' k e = volatile_still join t o f x s I (λ e. differ e tt) o' f' k
volatile_step v1 lacks_read t o f x s I pt o' f' k e = volatile_still lacks_read t o f x s I (λ e. differ e tt) o' f' k
volatile_step v1 lacks_write t o f x s I pt o' f' k e = volatile_still lacks_write t o f x s I (λ e. differ e tt) o' f' k

-- the monitors, free
free_still : {v : Version} (κ : Kind) (t o f x : ℕ) {H : List Record} (s : KeyState) → Invariant v H s → (o' : ℕ) → (κ ≡ release → o ≡ o' → ⊥) → (k₀ k : ℕ)
    → T (s.monitors o' k₀) → T (s.monitors o' k) ↔ Known v k (entry κ t o f x ∷ H) (of_monitor o')
free_still κ t o f x s I o' n k₀ k y = Iff.trans (I.free_know o' k₀ k y) (unfed κ t o f x (of_monitor o') (λ u. n u.0 u.1))

acquire_free : {v : Version} (t o f x : ℕ) {H : List Record} (s : KeyState) → Invariant v H s → (o' k₀ k : ℕ) → T (put s.monitors o no_keys o' k₀)
    → T (put s.monitors o no_keys o' k) ↔ Known v k (entry acquire t o f x ∷ H) (of_monitor o')
acquire_free {v} t o f x {H} s I o' k₀ k y = go (ℕ_discrete o o')
  where
    go : Dec (o ≡ o') → T (put s.monitors o no_keys o' k) ↔ Known v k (entry acquire t o f x ∷ H) (of_monitor o')
    go (yes e) = absurd (no_keys→ k₀ ((put_same↔ s.monitors o no_keys k₀).0 (subst (λ (w : ℕ). T (put s.monitors o no_keys w k₀)) (sym e) y)))
    go (no n) = Iff.trans (put_other↔ s.monitors o no_keys o' k n)
        (free_still acquire t o f x s I o' (λ e _. differ e tt) k₀ k ((put_other↔ s.monitors o no_keys o' k₀ n).0 y))

release_free : {v : Version} (t o f x : ℕ) {H : List Record} (s : KeyState) → Invariant v H s → T (s.present t) → Needs release t o f s → (o' k₀ k : ℕ)
    → T (put s.monitors o (s.knows t) o' k₀) → T (put s.monitors o (s.knows t) o' k) ↔ Known v k (entry release t o f x ∷ H) (of_monitor o')
release_free {v} t o f x {H} s I pt nd o' k₀ k y = go (ℕ_discrete o o')
  where
    hither : Known v k H (of_monitor o) ⊎ (Feeds v (entry release t o f x) (of_monitor o) × Gain v release t o f H k) → T (s.knows t k)
    hither (inl z) = subst (λ (w : ℕ). T (s.knows w k)) nd.1 ((I.held_know o k nd.0).1 z)
    hither (inr (_, inl z)) = (I.threads_know t k pt).1 z
    hither (inr (_, inr z)) = absurd z

    given : T (put s.monitors o (s.knows t) o k) ↔ Known v k (entry release t o f x ∷ H) (of_monitor o)
    given = Iff.trans (put_same↔ s.monitors o (s.knows t) k) (
      λ z. gain_own release t o f x (of_monitor o) (refl, refl) ((I.threads_know t k pt).0 z),
      λ z. hither (known_split release t o f x z),
    )

    go : Dec (o ≡ o') → T (put s.monitors o (s.knows t) o' k) ↔ Known v k (entry release t o f x ∷ H) (of_monitor o')
    go (yes e) = subst (λ (w : ℕ). T (put s.monitors o (s.knows t) w k) ↔ Known v k (entry release t o f x ∷ H) (of_monitor w)) e given
    go (no n) = Iff.trans (put_other↔ s.monitors o (s.knows t) o' k n)
        (free_still release t o f x s I o' (λ _ e. n e) k₀ k ((put_other↔ s.monitors o (s.knows t) o' k₀ n).0 y))

pub free_step : (v : Version) (κ : Kind) (t o f x : ℕ) {H : List Record} (s : KeyState) → Invariant v H s → T (s.present t) → Needs κ t o f s → (o' k₀ k : ℕ)
    → T ((act v κ t o f s).monitors o' k₀) → T ((act v κ t o f s).monitors o' k) ↔ Known v k (entry κ t o f x ∷ H) (of_monitor o')
free_step v new t o f x s I pt nd o' k₀ k y = free_still new t o f x s I o' (λ e _. differ e tt) k₀ k y
free_step v read t o f x s I pt nd o' k₀ k y = free_still read t o f x s I o' (λ e _. differ e tt) k₀ k y
free_step v write t o f x s I pt nd o' k₀ k y = free_still write t o f x s I o' (λ e _. differ e tt) k₀ k y
free_step v0 readv t o f x s I pt nd o' k₀ k y = free_still readv t o f x s I o' (λ e _. differ e tt) k₀ k y
free_step v1 readv t o f x s I pt nd o' k₀ k y = free_still readv t o f x s I o' (λ e _. differ e tt) k₀ k y
free_step v0 writev t o f x s I pt nd o' k₀ k y = free_still writev t o f x s I o' (λ e _. differ e tt) k₀ k y
free_step v1 writev t o f x s I pt nd o' k₀ k y = free_still writev t o f x s I o' (λ e _. differ e tt) k₀ k y
free_step v acquire t o f x s I pt nd o' k₀ k y = acquire_free t o f x s I o' k₀ k y
free_step v release t o f x s I pt nd o' k₀ k y = release_free t o f x s I pt nd o' k₀ k y
free_step v fork t o f x s I pt nd o' k₀ k y = free_still fork t o f x s I o' (λ e _. differ e tt) k₀ k y
free_step v join t o f x s I pt nd o' k₀ k y = free_still join t o f x s I o' (λ e _. differ e tt) k₀ k y
free_step v lacks_read t o f x s I pt nd o' k₀ k y = free_still lacks_read t o f x s I o' (λ e _. differ e tt) k₀ k y
free_step v lacks_write t o f x s I pt nd o' k₀ k y = free_still lacks_write t o f x s I o' (λ e _. differ e tt) k₀ k y

-- the monitors, held: their holder knows what they knew
abbrev pub Held : Version → ℕ → List Record → KeyState → ℕ → Type 0
Held v k H s o = T (s.present (s.owner o)) × (Known v k H (of_monitor o) → T (s.knows (s.owner o) k))

abbrev pub Empty : KeySet → Type 0
Empty a = (m : ℕ) → T (a m) → ⊥

-- from the state before to the state after, where the monitor is not touched
held_still : (v : Version) (κ : Kind) (t o f x : ℕ) {H : List Record} (s : KeyState) → Invariant v H s → T (s.present t) → Needs κ t o f s → (o' k : ℕ)
    → (κ ≡ release → o ≡ o' → ⊥) → Empty (s.monitors o')
    → T ((act v κ t o f s).present (s.owner o')) × (Known v k (entry κ t o f x ∷ H) (of_monitor o') → T ((act v κ t o f s).knows (s.owner o') k))
held_still v κ t o f x s I pt nd o' k n em =
    let was = I.held_know o' k em in (
      stays v κ t o f s (s.owner o') was.0,
      λ y. grows v κ t o f x s I pt nd (s.owner o') k was.0 (was.1 ((unfed κ t o f x (of_monitor o') (λ u. n u.0 u.1)).1 y)),
    )

empty_other : (g : ℕ → KeySet) (o : ℕ) (a : KeySet) (o' : ℕ) → (o ≡ o' → ⊥) → Empty (put g o a o') → Empty (g o')
empty_other g o a o' n em m y = em m ((put_other↔ g o a o' m n).1 y)

acquire_held : (v : Version) (t o f x : ℕ) {H : List Record} (s : KeyState) → Invariant v H s → T (s.present t) → Needs acquire t o f s → (o' k : ℕ)
    → Empty (put s.monitors o no_keys o') → Held v k (entry acquire t o f x ∷ H) (act v acquire t o f s) o'
acquire_held v t o f x {H} s I pt nd o' k em = go (ℕ_discrete o o')
  where
    S : KeyState
    S = act v acquire t o f s

    Goal : ℕ → ℕ → Type 0
    Goal w a = T (s.present w) × (Known v k (entry acquire t o f x ∷ H) (of_monitor a) → T (S.knows w k))

    mine : Goal t o
    mine = (pt, λ y. (own v acquire t o f s I pt nd k).1 (inr ((unfed acquire t o f x (of_monitor o) (λ u. differ u.0 tt)).1 y)))

    go : Dec (o ≡ o') → Goal (put s.owner o t o') o'
    go (yes e) = subst (λ (a : ℕ). Goal (put s.owner o t a) a) e (subst (λ (w : ℕ). Goal w o) (sym (put_same s.owner o t)) mine)
    go (no n) = subst (λ (w : ℕ). Goal w o') (sym (put_other s.owner o t o' n))
        (held_still v acquire t o f x s I pt nd o' k (λ e _. differ e tt) (empty_other s.monitors o no_keys o' n em))

release_held : (v : Version) (t o f x : ℕ) {H : List Record} (s : KeyState) → Invariant v H s → T (s.present t) → Needs release t o f s → (o' k : ℕ)
    → Empty (put s.monitors o (s.knows t) o') → Held v k (entry release t o f x ∷ H) (act v release t o f s) o'
release_held v t o f x {H} s I pt nd o' k em =
    held_still v release t o f x s I pt nd o' k (λ _ e. apart_from e) (empty_other s.monitors o (s.knows t) o' apart_from em)
  where
    apart_from : o ≡ o' → ⊥
    apart_from e = subst (λ (a : ℕ). Empty (put s.monitors o (s.knows t) a)) (sym e) em 0
        ((put_same↔ s.monitors o (s.knows t) 0).1 ((I.threads_know t 0 pt).1 (known_zero H (of_thread t))))

pub held_step : (v : Version) (κ : Kind) (t o f x : ℕ) {H : List Record} (s : KeyState) → Invariant v H s → T (s.present t) → Needs κ t o f s → (o' k : ℕ)
    → Empty ((act v κ t o f s).monitors o') → Held v k (entry κ t o f x ∷ H) (act v κ t o f s) o'
held_step v new t o f x s I pt nd o' k em = held_still v new t o f x s I pt nd o' k (λ e _. differ e tt) em
held_step v read t o f x s I pt nd o' k em = held_still v read t o f x s I pt nd o' k (λ e _. differ e tt) em
held_step v write t o f x s I pt nd o' k em = held_still v write t o f x s I pt nd o' k (λ e _. differ e tt) em
held_step v0 readv t o f x s I pt nd o' k em = held_still v0 readv t o f x s I pt nd o' k (λ e _. differ e tt) em
held_step v1 readv t o f x s I pt nd o' k em = held_still v1 readv t o f x s I pt nd o' k (λ e _. differ e tt) em
held_step v0 writev t o f x s I pt nd o' k em = held_still v0 writev t o f x s I pt nd o' k (λ e _. differ e tt) em
held_step v1 writev t o f x s I pt nd o' k em = held_still v1 writev t o f x s I pt nd o' k (λ e _. differ e tt) em
held_step v acquire t o f x s I pt nd o' k em = acquire_held v t o f x s I pt nd o' k em
held_step v release t o f x s I pt nd o' k em = release_held v t o f x s I pt nd o' k em
held_step v fork t o f x s I pt nd o' k em = held_still v fork t o f x s I pt nd o' k (λ e _. differ e tt) em
held_step v join t o f x s I pt nd o' k em = held_still v join t o f x s I pt nd o' k (λ e _. differ e tt) em
held_step v lacks_read t o f x s I pt nd o' k em = held_still v lacks_read t o f x s I pt nd o' k (λ e _. differ e tt) em
held_step v lacks_write t o f x s I pt nd o' k em = held_still v lacks_write t o f x s I pt nd o' k (λ e _. differ e tt) em
