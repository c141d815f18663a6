-- The flags of the ports: a thread's, a monitor's, a volatile field's, each its own. Assumes nothing.
use Prim.Native.Nat.{ℕ, ◌<◌}
use native.Mathlib.Omega.{arith}
use mathlib.Core.Path.{◌≡◌, refl, ap, ap₂}
use mathlib.Core.Bool.{cond}
use lib.Dec.{eqb}
use Rattle.format.proofs.Ranges.{by_range}
use Rattle.log_records.specs.Record.{Kind, Record}
use Rattle.log_records.specs.Packed.{kind_of}
use Rattle.log_order.proofs.Ports.{Port, of_thread, of_monitor, of_volatile, of_accesses, of_writes}
use Rattle.log_marking.specs.Inner.Rows.{monitor_row, field_row}

-- a port that has a flag, and which it is; those of plain accesses have none, since nothing draws from them
abbrev pub Valid : Port → Type 0
Valid (of_thread q) = q < 32
Valid (of_monitor o) = o < 32
Valid (of_volatile o f) = (o < 32) × (f < 32)
Valid (of_accesses o f) = ⊥
Valid (of_writes o f) = ⊥

abbrev pub row_of : Port → ℕ
row_of (of_thread q) = q
row_of (of_monitor o) = monitor_row o
row_of (of_volatile o f) = field_row o f
row_of (of_accesses o f) = 0
row_of (of_writes o f) = 0

pub row_below : (p : Port) → Valid p → row_of p < 1088
row_below (of_thread q) v = omega arith
row_below (of_monitor o) v = omega arith
row_below (of_volatile o f) (v, w) = omega arith
row_below (of_accesses o f) v = absurd v
row_below (of_writes o f) v = absurd v

-- no two have one flag
pub row_once : (p q : Port) → Valid p → Valid q → row_of p ≡ row_of q → p ≡ q
row_once (of_thread a) (of_thread b) v w e = ap of_thread e
row_once (of_thread a) (of_monitor o) v w e = absurd (omega arith)
row_once (of_thread a) (of_volatile o f) v w e = absurd (omega arith)
row_once (of_monitor o) (of_thread b) v w e = absurd (omega arith)
row_once (of_monitor o) (of_monitor o') v w e = ap of_monitor (omega arith)
row_once (of_monitor o) (of_volatile o' f) v w e = absurd (omega arith)
row_once (of_volatile o f) (of_thread b) v w e = absurd (omega arith)
row_once (of_volatile o f) (of_monitor o') v w e = absurd (omega arith)
row_once (of_volatile o f) (of_volatile o' f') (v, v') (w, w') e = ap₂ of_volatile (omega arith) (omega arith)
row_once (of_accesses o f) q v w e = absurd v
row_once (of_writes o f) q v w e = absurd v
row_once (of_thread a) (of_accesses o f) v w e = absurd w
row_once (of_thread a) (of_writes o f) v w e = absurd w
row_once (of_monitor a) (of_accesses o f) v w e = absurd w
row_once (of_monitor a) (of_writes o f) v w e = absurd w
row_once (of_volatile a b) (of_accesses o f) v w e = absurd w
row_once (of_volatile a b) (of_writes o f) v w e = absurd w

-- ---- the ports of a record besides its thread's, or its thread's

abbrev pub drawn_by : Kind → ℕ → ℕ → ℕ → Port
drawn_by Kind.new t o f = of_thread t
drawn_by Kind.read t o f = of_thread t
drawn_by Kind.write t o f = of_thread t
drawn_by Kind.readv t o f = of_volatile o f
drawn_by Kind.writev t o f = of_thread t
drawn_by Kind.acquire t o f = of_monitor o
drawn_by Kind.release t o f = of_thread t
drawn_by Kind.fork t o f = of_thread t
drawn_by Kind.join t o f = of_thread f
drawn_by Kind.lacks_read t o f = of_thread t
drawn_by Kind.lacks_write t o f = of_thread t

abbrev pub drawn_port : Record → Port
drawn_port r = drawn_by r.kind r.thread r.object r.field

abbrev pub fed_by : Kind → ℕ → ℕ → ℕ → Port
fed_by Kind.new t o f = of_thread t
fed_by Kind.read t o f = of_thread t
fed_by Kind.write t o f = of_thread t
fed_by Kind.readv t o f = of_thread t
fed_by Kind.writev t o f = of_volatile o f
fed_by Kind.acquire t o f = of_thread t
fed_by Kind.release t o f = of_monitor o
fed_by Kind.fork t o f = of_thread f
fed_by Kind.join t o f = of_thread t
fed_by Kind.lacks_read t o f = of_thread t
fed_by Kind.lacks_write t o f = of_thread t

abbrev pub fed_port : Record → Port
fed_port r = fed_by r.kind r.thread r.object r.field

-- they have flags, of columns of so many bits
pub drawn_valid : (k : Kind) (t o f : ℕ) → t < 8 → o < 32 → f < 32 → Valid (drawn_by k t o f)
drawn_valid Kind.new t o f a b c = omega arith
drawn_valid Kind.read t o f a b c = omega arith
drawn_valid Kind.write t o f a b c = omega arith
drawn_valid Kind.readv t o f a b c = (b, c)
drawn_valid Kind.writev t o f a b c = omega arith
drawn_valid Kind.acquire t o f a b c = b
drawn_valid Kind.release t o f a b c = omega arith
drawn_valid Kind.fork t o f a b c = omega arith
drawn_valid Kind.join t o f a b c = c
drawn_valid Kind.lacks_read t o f a b c = omega arith
drawn_valid Kind.lacks_write t o f a b c = omega arith

pub fed_valid : (k : Kind) (t o f : ℕ) → t < 8 → o < 32 → f < 32 → Valid (fed_by k t o f)
fed_valid Kind.new t o f a b c = omega arith
fed_valid Kind.read t o f a b c = omega arith
fed_valid Kind.write t o f a b c = omega arith
fed_valid Kind.readv t o f a b c = omega arith
fed_valid Kind.writev t o f a b c = (b, c)
fed_valid Kind.acquire t o f a b c = omega arith
fed_valid Kind.release t o f a b c = b
fed_valid Kind.fork t o f a b c = c
fed_valid Kind.join t o f a b c = omega arith
fed_valid Kind.lacks_read t o f a b c = omega arith
fed_valid Kind.lacks_write t o f a b c = omega arith

-- ---- the choices make their flags

module _ (t o f : ℕ) where
  abbrev Drawn : ℕ → Type 0
  Drawn k = cond (eqb k 6) (monitor_row o) (cond (eqb k 4) (field_row o f) (cond (eqb k 9) f t)) ≡ row_of (drawn_by (kind_of k) t o f)

  pub drawn_row_lem : (k : ℕ) → k < 16 → Drawn k
  unfolding kind_of
  drawn_row_lem = by_range Drawn 0 16 ((k : ℕ) → k < 16 → Drawn k) (λ all k h. all k (omega arith) h) refl refl refl refl refl refl refl refl refl refl refl refl
      refl refl refl refl

  abbrev Fed : ℕ → Type 0
  Fed k = cond (eqb k 7) (monitor_row o) (cond (eqb k 5) (field_row o f) (cond (eqb k 8) f t)) ≡ row_of (fed_by (kind_of k) t o f)

  pub fed_row_lem : (k : ℕ) → k < 16 → Fed k
  unfolding kind_of
  fed_row_lem = by_range Fed 0 16 ((k : ℕ) → k < 16 → Fed k) (λ all k h. all k (omega arith) h) refl refl refl refl refl refl refl refl refl refl refl refl refl
      refl refl refl
