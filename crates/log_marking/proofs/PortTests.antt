-- The pass's tests by the two ports that a record feeds and the two that it draws from. Assumes nothing.
use Prim.Native.Nat.{ℕ}
use mathlib.Core.Path.{◌≡◌, refl, sym, ap, subst as along}
use mathlib.Core.Bool.{Bool, true, false, ◌||◌}
use mathlib.Core.Logic.{◌⊎◌, inl, inr}
use lib.Dec.{T}
use mir.Facts.{or_yes}
use Rattle.format.specs.Version.{v1}
use Rattle.log_records.specs.Record.{Kind, Record, entry}
use Rattle.log_order.proofs.Tests.{or←}
use Rattle.log_order.proofs.Ports.{Port, of_thread, of_monitor, of_volatile, of_accesses, of_writes, Feeds, Draws}
use Rattle.side_by_side.proofs.Marks.{Wanted, Drawable, draws, draws→, draws←, fed, fed→, fed←}
use Rattle.log_marking.proofs.PortRows.{drawn_by, drawn_port, fed_by, fed_port}

-- ---- the ports

drawn_draws : (k : Kind) (t o f x : ℕ) → Draws v1 (entry k t o f x) (drawn_by k t o f)
drawn_draws Kind.new t o f x = inl refl
drawn_draws Kind.read t o f x = inl refl
drawn_draws Kind.write t o f x = inl refl
drawn_draws Kind.readv t o f x = (refl, refl, refl, refl)
drawn_draws Kind.writev t o f x = inl refl
drawn_draws Kind.acquire t o f x = (refl, refl)
drawn_draws Kind.release t o f x = inl refl
drawn_draws Kind.fork t o f x = inl refl
drawn_draws Kind.join t o f x = inr (refl, refl)
drawn_draws Kind.lacks_read t o f x = inl refl
drawn_draws Kind.lacks_write t o f x = inl refl

drawn_so : (r : Record) (p : Port) → Draws v1 r p → (p ≡ of_thread r.thread) ⊎ (p ≡ drawn_port r)
drawn_so r (of_thread q) (inl e) = inl (ap of_thread (sym e))
drawn_so r (of_thread q) (inr (e, g)) = inr (rw (e, g))
drawn_so r (of_monitor o) (e, g) = inr (rw (e, g))
drawn_so r (of_volatile o f) (c, e, g, h) = inr (rw (e, g, h))
drawn_so r (of_accesses o f) d = absurd d
drawn_so r (of_writes o f) d = absurd d

fed_feeds : (k : Kind) (t o f x : ℕ) → Drawable (fed_by k t o f) × Feeds v1 (entry k t o f x) (fed_by k t o f)
fed_feeds Kind.new t o f x = (tt, inl refl)
fed_feeds Kind.read t o f x = (tt, inl refl)
fed_feeds Kind.write t o f x = (tt, inl refl)
fed_feeds Kind.readv t o f x = (tt, inl refl)
fed_feeds Kind.writev t o f x = (tt, (refl, refl, refl, refl))
fed_feeds Kind.acquire t o f x = (tt, inl refl)
fed_feeds Kind.release t o f x = (tt, (refl, refl))
fed_feeds Kind.fork t o f x = (tt, inr (refl, refl))
fed_feeds Kind.join t o f x = (tt, inl refl)
fed_feeds Kind.lacks_read t o f x = (tt, inl refl)
fed_feeds Kind.lacks_write t o f x = (tt, inl refl)

fed_so : (r : Record) (p : Port) → Drawable p → Feeds v1 r p → (p ≡ of_thread r.thread) ⊎ (p ≡ fed_port r)
fed_so r (of_thread q) d (inl e) = inl (ap of_thread (sym e))
fed_so r (of_thread q) d (inr (e, g)) = inr (rw (e, g))
fed_so r (of_monitor o) d (e, g) = inr (rw (e, g))
fed_so r (of_volatile o f) d (c, e, g, h) = inr (rw (e, g, h))
fed_so r (of_accesses o f) d h = absurd d
fed_so r (of_writes o f) d h = absurd d

-- ---- the tests

bools : (a b : Bool) → (T a → T b) → (T b → T a) → a ≡ b
bools true true f g = refl
bools true false f g = absurd (f tt)
bools false true f g = absurd (g tt)
bools false false f g = refl

pub fed_ports : (w : Wanted) (r : Record) → fed w r ≡ (w (of_thread r.thread) || w (fed_port r))
fed_ports w r = bools (fed w r) (w (of_thread r.thread) || w (fed_port r)) there hither
  where
    there : T (fed w r) → T (w (of_thread r.thread) || w (fed_port r))
    there h = let d = fed→ w r h in or← (w (of_thread r.thread)) (w (fed_port r)) (go d.0 d.3 (fed_so r d.0 d.1 d.2))
      where
        go : (p : Port) → T (w p) → (p ≡ of_thread r.thread) ⊎ (p ≡ fed_port r) → T (w (of_thread r.thread)) ⊎ T (w (fed_port r))
        go p x (inl e) = inl (along (λ (z : Port). T (w z)) e x)
        go p x (inr e) = inr (along (λ (z : Port). T (w z)) e x)

    hither : T (w (of_thread r.thread) || w (fed_port r)) → T (fed w r)
    hither h = go (or_yes (w (of_thread r.thread)) (w (fed_port r)) h)
      where
        go : T (w (of_thread r.thread)) ⊎ T (w (fed_port r)) → T (fed w r)
        go (inl x) = fed← w r (of_thread r.thread) tt (inl refl) x
        go (inr x) = let d = fed_feeds r.kind r.thread r.object r.field r.value in fed← w r (fed_port r) d.0 d.1 x

yes_is : (b : Bool) → T b → b ≡ true
yes_is true h = refl
yes_is false h = absurd h

no_is : (b : Bool) → (T b → ⊥) → b ≡ false
no_is true h = absurd (h tt)
no_is false h = refl

pub draws_own : (r : Record) → draws r (of_thread r.thread) ≡ true
draws_own r = yes_is _ (draws← r (of_thread r.thread) (inl refl))

pub draws_drawn : (r : Record) → draws r (drawn_port r) ≡ true
draws_drawn r = yes_is _ (draws← r (drawn_port r) (drawn_draws r.kind r.thread r.object r.field r.value))

pub draws_no : (r : Record) (p : Port) → (p ≡ of_thread r.thread → ⊥) → (p ≡ drawn_port r → ⊥) → draws r p ≡ false
draws_no r p a b = no_is _ (λ h. go (drawn_so r p (draws→ r p h)))
  where
    go : (p ≡ of_thread r.thread) ⊎ (p ≡ drawn_port r) → ⊥
    go (inl e) = a e
    go (inr e) = b e
