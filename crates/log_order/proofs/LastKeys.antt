-- A plain field's key is that of its last write, or 0 where it has none. Logs newest first. Assumes nothing.
use Prim.Native.Nat.{ℕ, suc}
use mathlib.Core.Path.{◌≡◌, refl}
use mathlib.Core.List.{List, [], ◌∷◌}
use lib.ListN.{length}
use Rattle.format.specs.Version.{Version, v0, v1}
use Rattle.log_records.specs.Record.{Kind, new, read, write, readv, writev, acquire, release, fork, join, lacks_read, lacks_write, Record, entry}
use Rattle.log_order.specs.Chains.{Writes}
use Rattle.log_order.proofs.Tests.{differ, same_place}
use Rattle.log_order.proofs.Newest.{Last, Never, never_start, never_more, last_here, last_more}
use Rattle.log_order.proofs.WriteKeys.{write_count, KeyAt, makes, older}
use Rattle.log_order.proofs.KeySets.{put₂, put₂_same, put₂_other}
use Rattle.log_order.proofs.KeyMachine.{KeyState, start, act, after, Legal}
use Rattle.log_order.proofs.Invariant.{invariant}

-- key is that of the last write of field f of o
pub data LastKey (H : List Record) (o f key : ℕ) : Type 0 where
  never : key ≡ 0 → Never H o f → LastKey H o f key
  last : (i : ℕ) → Last H o f i → KeyAt H i key → LastKey H o f key

other : (r : Record) (H : List Record) (o f key : ℕ) → (Writes r o f → ⊥) → LastKey H o f key → LastKey (r ∷ H) o f key
other r H o f key n (never e g) = never e (never_more r H o f n g)
other r H o f key n (last i d y) = last i (last_more r H o f i n d) (older y)

quiet : (κ : Kind) (t o f x : ℕ) (H : List Record) (s : KeyState) → (κ ≡ write → ⊥) → ((a b : ℕ) → LastKey H a b (s.plain a b)) → (a b : ℕ)
    → LastKey (entry κ t o f x ∷ H) a b (s.plain a b)
quiet κ t o f x H s n y a b = other (entry κ t o f x) H a b (s.plain a b) (λ w. n w.is_write) (y a b)

written : (t o f x : ℕ) (H : List Record) (s : KeyState) → s.next ≡ suc (write_count H) → ((a b : ℕ) → LastKey H a b (s.plain a b)) → (a b : ℕ)
    → LastKey (entry write t o f x ∷ H) a b (put₂ s.plain o f s.next a b)
written t o f x H s e y a b = go (same_place o f a b)
  where
    go : Dec ((o ≡ a) × (f ≡ b)) → LastKey (entry write t o f x ∷ H) a b (put₂ s.plain o f s.next a b)
    go (yes (p, q)) =
        let same : put₂ s.plain o f s.next a b ≡ s.next = rw (← p, ← q) (put₂_same s.plain o f s.next) in
        rw (same, e) (last (length H) (last_here (entry write t o f x) H a b (record { is_write = refl; same_object = p; same_field = q }))
        (makes refl refl refl))
    go (no n) = rw (put₂_other s.plain o f s.next a b (λ p q. n (p, q)))
        (other (entry write t o f x) H a b (s.plain a b) (λ w. n (w.same_object, w.same_field)) (y a b))

last_key_step : (v : Version) (κ : Kind) (t o f x : ℕ) (H : List Record) (s : KeyState) → s.next ≡ suc (write_count H)
    → ((a b : ℕ) → LastKey H a b (s.plain a b)) → (a b : ℕ) → LastKey (entry κ t o f x ∷ H) a b ((act v κ t o f s).plain a b)
last_key_step v new t o f x H s e y a b = quiet new t o f x H s (λ g. differ g tt) y a b
last_key_step v read t o f x H s e y a b = quiet read t o f x H s (λ g. differ g tt) y a b
last_key_step v write t o f x H s e y a b = written t o f x H s e y a b
last_key_step v0 readv t o f x H s e y a b = quiet readv t o f x H s (λ g. differ g tt) y a b
last_key_step v1 readv t o f x H s e y a b = quiet readv t o f x H s (λ g. differ g tt) y a b
last_key_step v0 writev t o f x H s e y a b = quiet writev t o f x H s (λ g. differ g tt) y a b
last_key_step v1 writev t o f x H s e y a b = quiet writev t o f x H s (λ g. differ g tt) y a b
last_key_step v acquire t o f x H s e y a b = quiet acquire t o f x H s (λ g. differ g tt) y a b
last_key_step v release t o f x H s e y a b = quiet release t o f x H s (λ g. differ g tt) y a b
last_key_step v fork t o f x H s e y a b = quiet fork t o f x H s (λ g. differ g tt) y a b
last_key_step v join t o f x H s e y a b = quiet join t o f x H s (λ g. differ g tt) y a b
last_key_step v lacks_read t o f x H s e y a b = quiet lacks_read t o f x H s (λ g. differ g tt) y a b
last_key_step v lacks_write t o f x H s e y a b = quiet lacks_write t o f x H s (λ g. differ g tt) y a b

pub last_key : (v : Version) (H : List Record) → Legal v H → (o f : ℕ) → LastKey H o f ((after v H).plain o f)
unfolding start
last_key v [] l o f = never refl (never_start o f)
last_key v (r ∷ H) l o f = last_key_step v r.kind r.thread r.object r.field r.value H (after v H) (invariant v H l.0).next_key
    (last_key v H l.0) o f
