-- Ports: two records are paired exactly when the earlier feeds a port (a thread, a monitor, a volatile field) that the later draws from. The ports of a
-- plain field's accesses and of its writes are fed and never drawn from: what reaches them is what a write, and a read, must have heard.
-- Assumes nothing.
use Prim.Native.Nat.{ℕ}
use mathlib.Core.Path.{◌≡◌, refl, sym, ◌∙◌, ap}
use mathlib.Core.Logic.{◌⊎◌, inl, inr}
use lib.Dec.{T}
use Rattle.format.specs.Version.{Version, v1}
use Rattle.log_records.specs.Record.{acquire, release, readv, writev, fork, join, Record, is_plain}
use Rattle.log_order.specs.Pairs.{Pair, monitor, volatile, same_thread, forked, joined, forked_joined}
use Rattle.log_order.specs.Accesses.{is_write}

pub data Port : Type 0 where
  of_thread : ℕ → Port
  of_monitor : ℕ → Port
  of_volatile : ℕ → ℕ → Port
  of_accesses : ℕ → ℕ → Port
  of_writes : ℕ → ℕ → Port

-- the ports that a record feeds
abbrev pub Feeds : Version → Record → Port → Type 0
Feeds v r (of_thread q) = (r.thread ≡ q) ⊎ ((r.kind ≡ fork) × (r.field ≡ q))
Feeds v r (of_monitor o) = (r.kind ≡ release) × (r.object ≡ o)
Feeds v r (of_volatile o f) = (v ≡ v1) × (r.kind ≡ writev) × (r.object ≡ o) × (r.field ≡ f)
Feeds v r (of_accesses o f) = T (is_plain r.kind) × (r.object ≡ o) × (r.field ≡ f)
Feeds v r (of_writes o f) = T (is_write r.kind) × (r.object ≡ o) × (r.field ≡ f)

-- the ports that a record draws from
abbrev pub Draws : Version → Record → Port → Type 0
Draws v r (of_thread q) = (r.thread ≡ q) ⊎ ((r.kind ≡ join) × (r.field ≡ q))
Draws v r (of_monitor o) = (r.kind ≡ acquire) × (r.object ≡ o)
Draws v r (of_volatile o f) = (v ≡ v1) × (r.kind ≡ readv) × (r.object ≡ o) × (r.field ≡ f)
Draws v r (of_accesses o f) = ⊥
Draws v r (of_writes o f) = ⊥

pub pair→port : {v : Version} {r s : Record} → Pair v r s → (p : Port) × Feeds v r p × Draws v s p
pair→port {s = s} (monitor a b e) = (of_monitor s.object, (a, e), (b, refl))
pair→port {s = s} (volatile c a b e g) = (of_volatile s.object s.field, (c, a, e, g), (c, b, refl, refl))
pair→port {s = s} (same_thread e) = (of_thread s.thread, inl e, inl refl)
pair→port {s = s} (forked a e) = (of_thread s.thread, inr (a, e), inl refl)
pair→port {s = s} (joined b e) = (of_thread s.field, inl e, inr (b, refl))
pair→port {s = s} (forked_joined a b e) = (of_thread s.field, inr (a, e), inr (b, refl))

pub port→pair : {v : Version} {r s : Record} (p : Port) → Feeds v r p → Draws v s p → Pair v r s
port→pair (of_thread q) (inl e) (inl g) = same_thread (e ∙ sym g)
port→pair (of_thread q) (inl e) (inr (b, g)) = joined b (e ∙ sym g)
port→pair (of_thread q) (inr (a, e)) (inl g) = forked a (e ∙ sym g)
port→pair (of_thread q) (inr (a, e)) (inr (b, g)) = forked_joined a b (e ∙ sym g)
port→pair (of_monitor o) (a, e) (b, g) = monitor a b (e ∙ sym g)
port→pair (of_volatile o f) (c, a, e, e') (_, b, g, g') = volatile c a b (e ∙ sym g) (e' ∙ sym g')
port→pair (of_accesses o f) a b = absurd b
port→pair (of_writes o f) a b = absurd b

-- a record that is no join, acquire or volatile read draws from its own thread only
pub draws_own : (v : Version) (r : Record) → (r.kind ≡ join → ⊥) → (r.kind ≡ acquire → ⊥) → (r.kind ≡ readv → ⊥) → (q : Port) → Draws v r q
    → q ≡ of_thread r.thread
draws_own v r a b c (of_thread q) (inl e) = ap of_thread (sym e)
draws_own v r a b c (of_thread q) (inr (e, _)) = absurd (a e)
draws_own v r a b c (of_monitor o) (e, _) = absurd (b e)
draws_own v r a b c (of_volatile o f) (_, e, _, _) = absurd (c e)
draws_own v r a b c (of_accesses o f) e = absurd e
draws_own v r a b c (of_writes o f) e = absurd e

pub plain_draws_own : (v : Version) (r : Record) → T (is_plain r.kind) → (q : Port) → Draws v r q → q ≡ of_thread r.thread
plain_draws_own v r a = draws_own v r (λ e. rw e at a) (λ e. rw e at a) (λ e. rw e at a)
