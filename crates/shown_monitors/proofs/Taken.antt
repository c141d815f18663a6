-- The monitors' sets after a log: empty exactly where the last acquire or release is an acquire. It goes by records alone. Assumes nothing.
use Prim.Native.Nat.{ℕ}
use native.Mathlib.Decide.{ℕ_discrete}
use mathlib.Core.Path.{◌≡◌, refl, sym, ap, ◌∙◌, subst}
use mathlib.Core.Bool.{false}
use mathlib.Core.List.{List, [], ◌∷◌, ◌++◌, reverse, reverse-cons}
use mathlib.Core.Logic.{◌⊎◌, inl, inr}
use lib.Dec.{T}
use Rattle.format.specs.Version.{Version, v0, v1}
use Rattle.log_records.specs.Record.{Kind, new, read, write, readv, writev, acquire, release, fork, join, lacks_read, lacks_write, Record}
use Rattle.log_order.proofs.Ports.{of_thread}
use Rattle.log_order.proofs.KeySets.{KeySet, no_keys, no_keys→, only_zero, put_same, put_other}
use Rattle.log_order.proofs.KeyMachine.{KeyState, start, act, after, Legal}
use Rattle.log_order.proofs.Known.{known_zero}
use Rattle.log_order.proofs.Invariant.{invariant}
use Rattle.text_sample_lines.specs.DataFile.{of_monitor, last_of, digital}
use Rattle.text_sample_lines.proofs.Digital.{taken_one, freed_zero, other_object, other_kind}

-- the set of a monitor beside its digital value: without a key, and 1; or with one, and 0
abbrev pub Shows : KeySet → ℕ → Type 0
Shows a x = (((k : ℕ) → T (a k) → ⊥) × (x ≡ 1)) ⊎ (((k : ℕ) × T (a k)) × (x ≡ 0))

module _ (v : Version) (H : List Record) (l : Legal v H) (r : Record) (present : T ((after v H).present r.thread)) (o : ℕ) (L : List Record) where
  abbrev s : KeyState
  s = after v H

  -- the set after a record of kind k
  abbrev set_after : Kind → KeySet
  set_after k = (act v k r.thread r.object r.field s).monitors o

  -- the digital value after it
  abbrev value_after : ℕ
  value_after = digital o (L ++ (r ∷ []))

  kept : (k : Kind) → r.kind ≡ k → of_monitor k ≡ false → Shows (s.monitors o) (digital o L) → Shows (s.monitors o) value_after
  kept k e m h = subst (Shows (s.monitors o)) (sym (other_kind o L r (ap of_monitor e ∙ m))) h

  -- every thread knows key 0
  zero_known : T (s.knows r.thread 0)
  zero_known = ((invariant v H l).threads_know r.thread 0 present).1 (known_zero H (of_thread r.thread))

  taken : r.kind ≡ acquire → Dec (r.object ≡ o) → Shows (s.monitors o) (digital o L) → Shows (set_after acquire) value_after
  taken e (yes q) h =
      inl (λ k x. no_keys→ k (subst (λ (a : KeySet). T (a k)) own x), taken_one o L r e q)
    where
      own : set_after acquire ≡ no_keys
      own = rw (sym q) (put_same s.monitors r.object no_keys)
  taken e (no n) h =
      subst (λ (a : KeySet). Shows a value_after) (sym (put_other s.monitors r.object no_keys o n))
      (subst (Shows (s.monitors o)) (sym (other_object o L r n)) h)

  freed : r.kind ≡ release → Dec (r.object ≡ o) → Shows (s.monitors o) (digital o L) → Shows (set_after release) value_after
  freed e (yes q) h = inr ((0, subst (λ (a : KeySet). T (a 0)) (sym own) zero_known), freed_zero o L r e q)
    where
      own : set_after release ≡ s.knows r.thread
      own = rw (sym q) (put_same s.monitors r.object (s.knows r.thread))
  freed e (no n) h =
      subst (λ (a : KeySet). Shows a value_after) (sym (put_other s.monitors r.object (s.knows r.thread) o n))
      (subst (Shows (s.monitors o)) (sym (other_object o L r n)) h)

  next : (k : Kind) → r.kind ≡ k → Shows (s.monitors o) (digital o L) → Shows (set_after k) value_after
  next new e h = kept new e refl h
  next read e h = kept read e refl h
  next write e h = kept write e refl h
  next readv e h = subst (λ (a : KeySet). Shows a value_after) (sym (same v)) (kept readv e refl h)
    where
      same : (w : Version) → (act w readv r.thread r.object r.field s).monitors o ≡ s.monitors o
      same v0 = refl
      same v1 = refl
  next writev e h = subst (λ (a : KeySet). Shows a value_after) (sym (same v)) (kept writev e refl h)
    where
      same : (w : Version) → (act w writev r.thread r.object r.field s).monitors o ≡ s.monitors o
      same v0 = refl
      same v1 = refl
  next acquire e h = taken e (ℕ_discrete r.object o) h
  next release e h = freed e (ℕ_discrete r.object o) h
  next fork e h = kept fork e refl h
  next join e h = kept join e refl h
  next lacks_read e h = kept lacks_read e refl h
  next lacks_write e h = kept lacks_write e refl h

-- after any legal log, newest first
pub shows : (v : Version) (H : List Record) → Legal v H → (o : ℕ) → Shows ((after v H).monitors o) (digital o (reverse H))
unfolding start only_zero digital last_of
shows v [] l o = inr ((0, tt), refl)
shows v (r ∷ H) l o =
    subst (Shows ((after v (r ∷ H)).monitors o)) (ap (digital o) (sym (reverse-cons r H)))
    (next v H l.0 r l.1 o (reverse H) r.kind refl (shows v H l.0 o))
