-- The rows of threads, monitors and volatile fields, and those that a record hears and tells. Assumes nothing.
use Prim.Native.Nat.{ℕ, ◌+◌, ◌*◌, ◌<◌}
use native.Mathlib.Omega.{arith}
use mathlib.Core.Path.{◌≡◌, refl, sym, ap}
use mathlib.Core.Bool.{Bool, true, false, ◌&&◌, cond}
use mathlib.Core.Logic.{◌⊎◌, inl, inr}
use mathlib.Core.Option.{Option, some, none}
use lib.Dec.{eqb}
use Rattle.format.specs.Version.{Version, v0, v1, version_of}
use Rattle.log_records.specs.Record.{Kind, new, read, write, readv, writev, acquire, release, fork, join, lacks_read, lacks_write, Record, entry}
use Rattle.log_records.specs.Packed.{kind_of}
use Rattle.log_records.proofs.KindNumbers.{by_kind}
use Rattle.log_order.proofs.Ports.{Port, of_thread, of_monitor, of_volatile, of_accesses, of_writes, Feeds}
use Rattle.log_conflicts.proofs.Clock.{second, second_port}

-- the row of a port that a record can draw from
abbrev pub row_of : Port → ℕ
row_of (of_thread q) = q
row_of (of_monitor o) = 32 + o
row_of (of_volatile o f) = 64 + o * 32 + f
row_of (of_accesses o f) = 0
row_of (of_writes o f) = 0

-- such a port, of columns of five bits
pub data Link : Port → Type 0 where
  thread : {q : ℕ} → q < 32 → Link (of_thread q)
  monitor : {o : ℕ} → o < 32 → Link (of_monitor o)
  volatile : {o f : ℕ} → o < 32 → f < 32 → Link (of_volatile o f)

pub link_below : {p : Port} → Link p → row_of p < 1088
link_below (thread a) = omega arith
link_below (monitor a) = omega arith
link_below (volatile a b) = omega arith

-- it has its row alone
pub row_once : {p q : Port} → Link p → Link q → row_of p ≡ row_of q → p ≡ q
row_once (thread a) (thread b) e = ap of_thread e
row_once (thread a) (monitor b) e = absurd (omega arith)
row_once (thread a) (volatile b c) e = absurd (omega arith)
row_once (monitor a) (thread b) e = absurd (omega arith)
row_once (monitor {o = o} a) (monitor {o = q} b) e = ap of_monitor (omega arith)
row_once (monitor a) (volatile b c) e = absurd (omega arith)
row_once (volatile a b) (thread c) e = absurd (omega arith)
row_once (volatile a b) (monitor c) e = absurd (omega arith)
row_once (volatile {o = o} {f = f} a b) (volatile {o = q} {f = g} c d) e = let x : o ≡ q = omega arith in let y : f ≡ g = omega arith in rw (x, y)

-- ---- the ports of a record

-- a second port, or the thread's
abbrev pub port_or : ℕ → Option Port → Port
port_or t none = of_thread t
port_or t (some p) = p

-- the port that a record draws from besides its thread's
abbrev pub source_port : Version → Record → Port
source_port v r = port_or r.thread (second v r)

-- the port that a record feeds besides its thread's
abbrev fed_port : Version → Kind → ℕ → ℕ → Option Port
fed_port v new o f = none
fed_port v read o f = none
fed_port v write o f = none
fed_port v0 readv o f = none
fed_port v1 readv o f = none
fed_port v0 writev o f = none
fed_port v1 writev o f = some (of_volatile o f)
fed_port v acquire o f = none
fed_port v release o f = some (of_monitor o)
fed_port v fork o f = some (of_thread f)
fed_port v join o f = none
fed_port v lacks_read o f = none
fed_port v lacks_write o f = none

abbrev pub target_port : Version → Record → Port
target_port v r = port_or r.thread (fed_port v r.kind r.object r.field)

-- ---- the rows that the choices make are theirs

module _ (t o f : ℕ) where
  abbrev Heard : Bool → ℕ → Type 0
  Heard d k =
      cond (eqb k 6) (32 + o) (cond (eqb k 4 && d) (64 + o * 32 + f) (cond (eqb k 9) f t)) ≡ row_of (port_or t (second_port (cond d v1 v0) (kind_of k) o f))

  heard_row : (d : Bool) (k : ℕ) → 0 < k → k < 12 → Heard d k
  unfolding kind_of
  heard_row true k a b = by_kind (Heard true) refl refl refl refl refl refl refl refl refl refl refl k a (omega arith)
  heard_row false k a b = by_kind (Heard false) refl refl refl refl refl refl refl refl refl refl refl k a (omega arith)

  abbrev Told : Bool → ℕ → Type 0
  Told d k = cond (eqb k 7) (32 + o) (cond (eqb k 5 && d) (64 + o * 32 + f) (cond (eqb k 8) f t)) ≡ row_of (port_or t (fed_port (cond d v1 v0) (kind_of k) o f))

  told_row : (d : Bool) (k : ℕ) → 0 < k → k < 12 → Told d k
  unfolding kind_of
  told_row true k a b = by_kind (Told true) refl refl refl refl refl refl refl refl refl refl refl k a (omega arith)
  told_row false k a b = by_kind (Told false) refl refl refl refl refl refl refl refl refl refl refl k a (omega arith)

  pub heard_choice : (n k : ℕ) → 0 < k → k < 12
      → cond (eqb k 6) (32 + o) (cond (eqb k 4 && eqb n 1) (64 + o * 32 + f) (cond (eqb k 9) f t)) ≡ row_of (port_or t (second_port (version_of n) (kind_of k) o f))
  unfolding version_of
  heard_choice n k a b = heard_row (eqb n 1) k a b

  pub told_choice : (n k : ℕ) → 0 < k → k < 12
      → cond (eqb k 7) (32 + o) (cond (eqb k 5 && eqb n 1) (64 + o * 32 + f) (cond (eqb k 8) f t)) ≡ row_of (port_or t (fed_port (version_of n) (kind_of k) o f))
  unfolding version_of
  told_choice n k a b = told_row (eqb n 1) k a b

-- ---- they are ports with a row

-- a record of columns of five bits
pub record Fits (r : Record) : Type 0 where
  pub thread_fits : r.thread < 8
  pub object_fits : r.object < 32
  pub field_fits : r.field < 32

source_by : (v : Version) (k : Kind) (t o f : ℕ) → t < 32 → o < 32 → f < 32 → Link (port_or t (second_port v k o f))
source_by v new t o f a b c = thread a
source_by v read t o f a b c = thread a
source_by v write t o f a b c = thread a
source_by v0 readv t o f a b c = thread a
source_by v1 readv t o f a b c = volatile b c
source_by v0 writev t o f a b c = thread a
source_by v1 writev t o f a b c = thread a
source_by v acquire t o f a b c = monitor b
source_by v release t o f a b c = thread a
source_by v fork t o f a b c = thread a
source_by v join t o f a b c = thread c
source_by v lacks_read t o f a b c = thread a
source_by v lacks_write t o f a b c = thread a

pub source_link : (v : Version) (r : Record) → Fits r → Link (source_port v r)
source_link v r w = source_by v r.kind r.thread r.object r.field (omega (arith, w.thread_fits)) w.object_fits w.field_fits

target_by : (v : Version) (k : Kind) (t o f : ℕ) → t < 32 → o < 32 → f < 32 → Link (port_or t (fed_port v k o f))
target_by v new t o f a b c = thread a
target_by v read t o f a b c = thread a
target_by v write t o f a b c = thread a
target_by v0 readv t o f a b c = thread a
target_by v1 readv t o f a b c = thread a
target_by v0 writev t o f a b c = thread a
target_by v1 writev t o f a b c = volatile b c
target_by v acquire t o f a b c = thread a
target_by v release t o f a b c = monitor b
target_by v fork t o f a b c = thread c
target_by v join t o f a b c = thread a
target_by v lacks_read t o f a b c = thread a
target_by v lacks_write t o f a b c = thread a

pub target_link : (v : Version) (r : Record) → Fits r → Link (target_port v r)
target_link v r w = target_by v r.kind r.thread r.object r.field (omega (arith, w.thread_fits)) w.object_fits w.field_fits

-- ---- what a record feeds

feeds_by : (v : Version) (k : Kind) (t o f x : ℕ) → Feeds v (entry k t o f x) (port_or t (fed_port v k o f))
feeds_by v new t o f x = inl refl
feeds_by v read t o f x = inl refl
feeds_by v write t o f x = inl refl
feeds_by v0 readv t o f x = inl refl
feeds_by v1 readv t o f x = inl refl
feeds_by v0 writev t o f x = inl refl
feeds_by v1 writev t o f x = (refl, refl, refl, refl)
feeds_by v acquire t o f x = inl refl
feeds_by v release t o f x = (refl, refl)
feeds_by v fork t o f x = inr (refl, refl)
feeds_by v join t o f x = inl refl
feeds_by v lacks_read t o f x = inl refl
feeds_by v lacks_write t o f x = inl refl

pub target_feeds : (v : Version) (r : Record) → Feeds v r (target_port v r)
target_feeds v r = feeds_by v r.kind r.thread r.object r.field r.value

-- and besides its thread's no other with a row
pub fed_one_of : (v : Version) (r : Record) {p : Port} → Link p → Feeds v r p → (p ≡ of_thread r.thread) ⊎ (p ≡ target_port v r)
fed_one_of v r (thread h) (inl e) = inl (ap of_thread (sym e))
fed_one_of v r (thread h) (inr (e, g)) = inr (rw (e, g))
fed_one_of v r (monitor h) (e, g) = inr (rw (e, g))
fed_one_of v r (volatile h k) (c, e, g, l) = inr (rw (c, e, g, l))
