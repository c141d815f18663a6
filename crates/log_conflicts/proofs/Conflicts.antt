-- Conflicting accesses, by the clocks: whether the next record of a log conflicts with an earlier one that has no chain to it. Logs newest first.
-- Assumes nothing.
use Prim.Native.Nat.{ℕ, zero, suc, ◌<◌}
use mathlib.Core.Path.{◌≡◌, refl, ap, subst}
use mathlib.Core.Bool.{Bool, true, false, ◌||◌}
use mathlib.Core.List.{List}
use mathlib.Core.Logic.{◌⊎◌, inl, inr}
use lib.Dec.{T, ltb, leb→le, le→leb}
use mir.Facts.{or_yes}
use native.Mathlib.Omega.{arith}
use native.Mathlib.Decide.{ℕ_discrete}
use Rattle.format.specs.Version.{Version}
use Rattle.log_records.specs.Record.{Kind, new, read, write, readv, writev, acquire, release, fork, join, lacks_read, lacks_write, Record, is_plain}
use Rattle.log_order.specs.Accesses.{is_write}
use Rattle.log_conflicts.specs.Conflicts.{Conflict}
use Rattle.log_order.proofs.Tests.{or←}
use Rattle.log_order.proofs.Newest.{At}
use Rattle.log_order.proofs.Ports.{Port, of_thread, of_accesses, of_writes, Feeds}
use Rattle.log_order.proofs.Flow.{Reach}
use Rattle.log_conflicts.proofs.Clock.{clock}
use Rattle.log_conflicts.proofs.Heard.{Missed, behind→missed, missed→behind}

-- some number below n passes
abbrev pub any : ℕ → (ℕ → Bool) → Bool
any zero g = false
any (suc n) g = any n g || g n

pub any→ : (n : ℕ) (g : ℕ → Bool) → T (any n g) → (u : ℕ) × T (g u)
any→ zero g h = absurd h
any→ (suc n) g h = go (or_yes (any n g) (g n) h) (any→ n g)
  where
    go : T (any n g) ⊎ T (g n) → (T (any n g) → (u : ℕ) × T (g u)) → (u : ℕ) × T (g u)
    go (inl x) ih = ih x
    go (inr x) ih = (n, x)

pub any← : (n : ℕ) (g : ℕ → Bool) (u : ℕ) → u < n → T (g u) → T (any n g)
any← zero g u b h = absurd (omega arith)
any← (suc n) g u b h = go (ℕ_discrete u n) (any← n g u)
  where
    go : Dec (u ≡ n) → (u < n → T (g u) → T (any n g)) → T (any n g || g n)
    go (yes e) ih = or← (any n g) (g n) (inr (rw e at h))
    go (no e) ih = or← (any n g) (g n) (inl (ih (omega arith) h))

-- ---- the port that a record is held against

-- a write must have heard the accesses of its field, a read the writes; any other record only itself
abbrev pub held_by : (writes plain : Bool) (t o f : ℕ) → Port
held_by true p t o f = of_accesses o f
held_by false true t o f = of_writes o f
held_by false false t o f = of_thread t

abbrev pub held : Record → Port
held r = held_by (is_write r.kind) (is_plain r.kind) r.thread r.object r.field

-- r's thread has not heard all of thread u that reaches it
abbrev pub behind : Version → List Record → Record → ℕ → Bool
behind v H r u = ltb (clock v H (of_thread r.thread) u) (clock v H (held r) u)

-- the next record r conflicts with a record of H that does not reach it
abbrev pub clashes : Version → List Record → Record → Bool
clashes v H r = any 8 (behind v H r)

-- threads are below 8
abbrev pub Eight : List Record → Type 0
Eight H = (i : ℕ) (w : Record) → At H i w → w.thread < 8

pub record Clash (v : Version) (H : List Record) (r : Record) : Type 0 where
  pub index : ℕ
  pub other : Record
  pub at_index : At H index other
  pub conflict : Conflict other r
  pub no_reach : Reach v index H (of_thread r.thread) → ⊥

-- ---- kinds

pub write_plain : (κ : Kind) → T (is_write κ) → T (is_plain κ)
write_plain new h = absurd h
write_plain read h = absurd h
write_plain write h = tt
write_plain readv h = absurd h
write_plain writev h = absurd h
write_plain acquire h = absurd h
write_plain release h = absurd h
write_plain fork h = absurd h
write_plain join h = absurd h
write_plain lacks_read h = absurd h
write_plain lacks_write h = tt

-- a record that is no access is held against its own thread
pub not_plain_held : (κ : Kind) (t o f : ℕ) → is_plain κ ≡ false → held_by (is_write κ) (is_plain κ) t o f ≡ of_thread t
not_plain_held κ t o f e = rw e (go (is_write κ) refl)
  where
    go : (w : Bool) → is_write κ ≡ w → held_by w false t o f ≡ of_thread t
    go true q = absurd (subst T e (write_plain κ (rw q tt)))
    go false q = refl

-- ---- what feeds that port is what conflicts

pub held_conflict : (v : Version) (w r : Record) → T (is_plain r.kind) → Feeds v w (held r) → Conflict w r
held_conflict v w r p = by (is_write r.kind) (is_plain r.kind) refl refl
  where
    by : (a b : Bool) → is_write r.kind ≡ a → is_plain r.kind ≡ b → Feeds v w (held_by a b r.thread r.object r.field) → Conflict w r
    by true b e g (h, x, y) = record { earlier_plain = h; later_plain = p; same_object = x; same_field = y; one_writes = inr (rw e tt) }
    by false true e g (h, x, y) =
        record { earlier_plain = write_plain w.kind h; later_plain = p; same_object = x; same_field = y; one_writes = inl h }
    by false false e g f = absurd (subst T g p)

pub conflict_held : (v : Version) (w r : Record) → Conflict w r → Feeds v w (held r)
conflict_held v w r c = by (is_write r.kind) (is_plain r.kind) refl refl
  where
    writes : is_write r.kind ≡ false → T (is_write w.kind) ⊎ T (is_write r.kind) → T (is_write w.kind)
    writes e (inl x) = x
    writes e (inr x) = absurd (subst T e x)

    by : (a b : Bool) → is_write r.kind ≡ a → is_plain r.kind ≡ b → Feeds v w (held_by a b r.thread r.object r.field)
    by true b e g = (c.earlier_plain, c.same_object, c.same_field)
    by false true e g = (writes e c.one_writes, c.same_object, c.same_field)
    by false false e g = absurd (subst T g c.later_plain)

-- ---- the test decides

-- what is behind is no record's own thread
held_plain : (v : Version) (H : List Record) (r : Record) (u : ℕ) → clock v H (of_thread r.thread) u < clock v H (held r) u → T (is_plain r.kind)
held_plain v H r u k = go (is_plain r.kind) refl
  where
    go : (d : Bool) → is_plain r.kind ≡ d → T (is_plain r.kind)
    go true e = rw e tt
    go false e =
        let own : clock v H (held r) u ≡ clock v H (of_thread r.thread) u
        = ap (λ (p : Port). clock v H p u) (not_plain_held r.kind r.thread r.object r.field e) in
        absurd (omega arith)

module _ (v : Version) (H : List Record) (r : Record) where
  abbrev Own : ℕ → ℕ
  Own u = clock v H (of_thread r.thread) u

  pub clashes→ : T (clashes v H r) → Clash v H r
  clashes→ h =
      let d = any→ 8 (behind v H r) h in
      let less : Own d.0 < clock v H (held r) d.0 = leb→le (suc (Own d.0)) (clock v H (held r) d.0) d.1 in
      let m = behind→missed v H r.thread (held r) d.0 less in
      record {
        index = m.index;
        other = m.feeder;
        at_index = m.at_index;
        conflict = held_conflict v m.feeder r (held_plain v H r d.0 less) m.feeds;
        no_reach = m.no_reach;
      }

  pub clashes← : Eight H → Clash v H r → T (clashes v H r)
  clashes← ei c =
      any← 8 (behind v H r) c.other.thread (ei c.index c.other c.at_index)
      (le→leb (suc (Own c.other.thread)) (clock v H (held r) c.other.thread) (missed→behind v H r.thread (held r) missed))
    where
      missed : Missed v H r.thread (held r)
      missed = record {
        index = c.index;
        feeder = c.other;
        at_index = c.at_index;
        feeds = conflict_held v c.other r c.conflict;
        no_reach = c.no_reach;
      }
