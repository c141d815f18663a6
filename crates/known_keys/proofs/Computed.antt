-- A thread's set, computed from the log alone, any log, by the judge's clocks: it holds just the keys that the definition says. Assumes nothing.
use Prim.Native.Nat.{ℕ, zero, suc, ◌<◌}
use native.Mathlib.Omega.{arith}
use native.Mathlib.Decide.{ℕ_discrete}
use mathlib.Core.Path.{◌≡◌, refl, sym, ap, ◌∙◌, subst}
use mathlib.Core.Bool.{Bool, true, false, cond, ◌&&◌, ◌||◌, true≢false}
use mathlib.Core.List.{List, [], ◌∷◌, ◌++◌, reverse}
use mathlib.Core.Logic.Iff
use mathlib.Core.Logic.{◌⊎◌, inl, inr, ◌↔◌}
use mathlib.Core.Option.{Option, some, none}
use lib.Dec.{T, leb, leb→le, le→leb, eqb, eqb→eq}
use lib.ListN.{length, get_elem?, drop}
use mir.Facts.{and_yes, yes_and, or_yes, yes_eqb}
use Rattle.format.specs.Version.{Version}
use Rattle.run_keys.specs.Keys.{Keys, singleton, holds, union}
use Rattle.run_keys.proofs.KeyLaws.{holds_singleton, holds_union}
use Rattle.log_records.specs.Record.{write, Record}
use Rattle.log_order.specs.Chains.{At}
use Rattle.log_order.proofs.Tests.{or←, or_iff, same_kind, same_kind→, same_kind←}
use Rattle.log_order.proofs.Past.{past, past_length, at_within, turned_at}
use Rattle.log_order.proofs.Ports.{of_thread}
use Rattle.log_order.proofs.Flow.{Reach}
use Rattle.log_conflicts.proofs.Clock.{count, clock}
use Rattle.log_conflicts.proofs.ClockReach.{Nth, newest, older, reach→clock, clock→reach}
use Rattle.known_keys.specs.WriteKeys.{PlainWrite, key_at}
use Rattle.known_keys.specs.KnownKeys.{NewOf, WouldChain, KeyOfChained, HoldsJust}
use Rattle.known_keys.proofs.Chained.{chained_thread}

-- record i of the log, which is w, is the c-th of its thread
abbrev turn : List Record → ℕ → Record → ℕ
turn L i w = suc (count (past L i) w.thread)

-- it is a plain write, and it has come to thread t: the thread's clock says so
abbrev comes : Version → List Record → ℕ → ℕ → Option Record → Bool
comes v L t i none = false
comes v L t i (some w) = same_kind w.kind write && leb (turn L i w) (clock v (reverse L) (of_thread t) w.thread)

-- key 0 and the keys of the first n records that have come to thread t
unfoldable pub keys_up_to : Version → List Record → ℕ → ℕ → Keys
unfolding union past
keys_up_to v L t zero = singleton 0
keys_up_to v L t (suc n) = cond (comes v L t n (get_elem? L n)) (union (singleton (key_at L n)) (keys_up_to v L t n)) (keys_up_to v L t n)

-- the set of thread t after the log L
unfoldable pub keys_by_log : Version → List Record → ℕ → Keys
unfolding keys_up_to
keys_by_log v L t = keys_up_to v L t (length L)

-- ---- clocks decide the chains

nth_append : (K : List Record) {H : List Record} {i u c : ℕ} → Nth H i u c → Nth (K ++ H) i u c
nth_append [] y = y
nth_append (x ∷ K) y = older (nth_append K y)

nth_of : (L : List Record) (i : ℕ) (w : Record) → At L i w → Nth (reverse L) i w.thread (turn L i w)
nth_of L i w h =
    let b : i < length L = at_within L i w h in
    subst (λ (H : List Record). Nth H i w.thread (turn L i w)) (sym (turned_at L i w h))
    (nth_append (reverse (drop (suc i) L)) (newest refl (sym (past_length L i (omega arith))) refl))

module _ (v : Version) (L : List Record) (t : ℕ) where
  -- record i is a plain write that reaches thread t
  abbrev Come : ℕ → Type 0
  Come i = PlainWrite L i × Reach v i (reverse L) (of_thread t)

  comes→ : (i : ℕ) (m : Option Record) → get_elem? L i ≡ m → T (comes v L t i m) → Come i
  comes→ i none e h = absurd h
  comes→ i (some w) e h =
      let c = turn L i w in
      let d = and_yes (same_kind w.kind write) (leb c (clock v (reverse L) (of_thread t) w.thread)) h in (
        record { write_record = w; at_i = e; is_write = same_kind→ w.kind write d.0 },
        clock→reach v (of_thread t) (nth_of L i w e) (leb→le c (clock v (reverse L) (of_thread t) w.thread) d.1),
      )

  comes← : (i : ℕ) (m : Option Record) → get_elem? L i ≡ m → Come i → T (comes v L t i m)
  comes← i none e (w, x) = let q : none ≡ some w.write_record = sym e ∙ w.at_i in absurd (true≢false cc)
  comes← i (some w) e (z, x) =
      let q : z.write_record ≡ w = (let k : some z.write_record ≡ some w = sym z.at_i ∙ e in cc) in
      let c = turn L i w in
      yes_and (same_kind w.kind write) (leb c (clock v (reverse L) (of_thread t) w.thread))
      (same_kind← w.kind write (subst (λ (r : Record). r.kind ≡ write) q z.is_write))
      (le→leb c (clock v (reverse L) (of_thread t) w.thread) (reach→clock v (nth_of L i w e) x))

  -- ---- the first n records

  record Found (n k : ℕ) : Type 0 where
    index : ℕ
    below : index < n
    comes_there : Come index
    its_key : k ≡ key_at L index

  with_key : (b : Bool) (q : ℕ) (K : Keys) (k : ℕ) → T (holds (cond b (union (singleton q) K) K) k) ↔ ((T b × (k ≡ q)) ⊎ T (holds K k))
  with_key false q K k = (λ h. inr h, go)
    where
      go : (⊥ × (k ≡ q)) ⊎ T (holds K k) → T (holds K k)
      go (inl (x, _)) = absurd x
      go (inr h) = h
  with_key true q K k = (λ h. there (or_yes (eqb k q) (holds K k) (subst T same h)), λ h. subst T (sym same) (or← (eqb k q) (holds K k) (back h)))
    where
      same : holds (union (singleton q) K) k ≡ (eqb k q || holds K k)
      same = holds_union (singleton q) K k ∙ ap (λ (b : Bool). b || holds K k) (holds_singleton q k)

      there : T (eqb k q) ⊎ T (holds K k) → (T true × (k ≡ q)) ⊎ T (holds K k)
      there (inl e) = inl (tt, eqb→eq k q e)
      there (inr h) = inr h

      back : (T true × (k ≡ q)) ⊎ T (holds K k) → T (eqb k q) ⊎ T (holds K k)
      back (inl (_, e)) = inl (yes_eqb e)
      back (inr h) = inr h

  holds→ : (n k : ℕ) → T (holds (keys_up_to v L t n) k) → (k ≡ 0) ⊎ Found n k
  unfolding keys_up_to
  holds→ zero k h = inl (eqb→eq k 0 (subst T (holds_singleton 0 k) h))
  holds→ (suc n) k h = go ((with_key (comes v L t n (get_elem? L n)) (key_at L n) (keys_up_to v L t n) k).0 h) (holds→ n k)
    where
      wider : (k ≡ 0) ⊎ Found n k → (k ≡ 0) ⊎ Found (suc n) k
      wider (inl e) = inl e
      wider (inr d) = let b = d.below in inr (record { index = d.index; below = omega arith; comes_there = d.comes_there; its_key = d.its_key })

      go : (T (comes v L t n (get_elem? L n)) × (k ≡ key_at L n)) ⊎ T (holds (keys_up_to v L t n) k)
          → (T (holds (keys_up_to v L t n) k) → (k ≡ 0) ⊎ Found n k) → (k ≡ 0) ⊎ Found (suc n) k
      go (inl (c, e)) ih = inr (record { index = n; below = omega arith; comes_there = comes→ n (get_elem? L n) refl c; its_key = e })
      go (inr x) ih = wider (ih x)

  zero_held : (n : ℕ) → T (holds (keys_up_to v L t n) 0)
  unfolding keys_up_to
  zero_held zero = subst T (sym (holds_singleton 0 0)) tt
  zero_held (suc n) = (with_key (comes v L t n (get_elem? L n)) (key_at L n) (keys_up_to v L t n) 0).1 (inr (zero_held n))

  found_held : (n k : ℕ) → Found n k → T (holds (keys_up_to v L t n) k)
  unfolding keys_up_to
  found_held zero k d = let b = d.below in absurd (omega arith)
  found_held (suc n) k d = (with_key (comes v L t n (get_elem? L n)) (key_at L n) (keys_up_to v L t n) k).1 (go (ℕ_discrete d.index n) (found_held n k))
    where
      go : Dec (d.index ≡ n) → (Found n k → T (holds (keys_up_to v L t n) k))
          → (T (comes v L t n (get_elem? L n)) × (k ≡ key_at L n)) ⊎ T (holds (keys_up_to v L t n) k)
      go (yes e) ih = inl (comes← n (get_elem? L n) refl (subst Come e d.comes_there), d.its_key ∙ ap (key_at L) e)
      go (no e) ih = let b = d.below in inr (ih (record { index = d.index; below = omega arith; comes_there = d.comes_there; its_key = d.its_key }))

  -- ---- the whole log

  found↔ : (r : Record) → NewOf t r → (k : ℕ) → Found (length L) k ↔ KeyOfChained v L r k
  found↔ r n k = (
    λ d. record { index = d.index; plain_write = d.comes_there.0; its_key = d.its_key; chained = (to_new d.index).1 d.comes_there.1 },
    λ d. record {
      index = d.index;
      below = at_within L d.index d.plain_write.write_record d.plain_write.at_i;
      comes_there = (d.plain_write, (to_new d.index).0 d.chained);
      its_key = d.its_key;
    },
  )
    where
      to_new : (i : ℕ) → WouldChain v L i r ↔ Reach v i (reverse L) (of_thread t)
      to_new i = chained_thread v L i t r n

  -- what is computed is the set of the definition
  pub computed : HoldsJust v L t (keys_by_log v L t)
  unfolding keys_by_log
  computed r n k = Iff.trans (holds→ (length L) k, back) (or_iff (found↔ r n k))
    where
      back : (k ≡ 0) ⊎ Found (length L) k → T (holds (keys_up_to v L t (length L)) k)
      back (inl e) = subst (λ (k : ℕ). T (holds (keys_up_to v L t (length L)) k)) (sym e) (zero_held (length L))
      back (inr d) = found_held (length L) k d
