-- Clocks: for each port and each thread, how many of the thread's records reach the port. Logs newest first. Assumes nothing.
use Prim.Native.Nat.{ℕ, suc, ◌≤◌, max}
use mathlib.Core.Path.{◌≡◌, refl, ◌∙◌, subst, ap}
use mathlib.Core.Bool.{Bool, true, false, ◌||◌, ◌&&◌, cond}
use mathlib.Core.List.{List, [], ◌∷◌}
use mathlib.Core.Option.{Option, none, some}
use mathlib.Core.Logic.{◌⊎◌, inl, inr}
use lib.Dec.{T, eqb, eqb→eq}
use mir.Facts.{and_yes, yes_and, or_yes, yes_eqb}
use native.Mathlib.Omega.{arith}
use Rattle.format.specs.Version.{Version, v0, v1}
use Rattle.log_records.specs.Record.{Kind, new, read, write, readv, writev, acquire, release, fork, join, lacks_read, lacks_write, Record, entry, is_plain}
use Rattle.log_order.specs.Accesses.{is_write}
use Rattle.log_order.proofs.Tests.{or←, cond_true, cond_false, same_kind, same_kind→, same_kind←}
use Rattle.log_order.proofs.Ports.{Port, of_thread, of_monitor, of_volatile, of_accesses, of_writes, Feeds, Draws}

-- how many records thread u has
abbrev pub count : List Record → ℕ → ℕ
count [] u = 0
count (r ∷ H) u = cond (eqb r.thread u) (suc (count H u)) (count H u)

abbrev pub volatile_orders : Version → Bool
volatile_orders v0 = false
volatile_orders v1 = true

-- the record feeds the port
abbrev pub feeds : Version → Record → Port → Bool
feeds v r (of_thread q) = eqb r.thread q || (same_kind r.kind fork && eqb r.field q)
feeds v r (of_monitor o) = same_kind r.kind release && eqb r.object o
feeds v r (of_volatile o f) = volatile_orders v && same_kind r.kind writev && eqb r.object o && eqb r.field f
feeds v r (of_accesses o f) = is_plain r.kind && eqb r.object o && eqb r.field f
feeds v r (of_writes o f) = is_write r.kind && eqb r.object o && eqb r.field f

-- the port that a record draws from besides its thread's
abbrev pub second_port : Version → Kind → ℕ → ℕ → Option Port
second_port v new o f = none
second_port v read o f = none
second_port v write o f = none
second_port v0 readv o f = none
second_port v1 readv o f = some (of_volatile o f)
second_port v0 writev o f = none
second_port v1 writev o f = none
second_port v acquire o f = some (of_monitor o)
second_port v release o f = none
second_port v fork o f = none
second_port v join o f = some (of_thread f)
second_port v lacks_read o f = none
second_port v lacks_write o f = none

abbrev pub second : Version → Record → Option Port
second v r = second_port v r.kind r.object r.field

abbrev pub reading : (Port → ℕ → ℕ) → Option Port → ℕ → ℕ
reading c none u = 0
reading c (some q) u = c q u

-- what the record's thread then has of thread u, by the clocks c and counts n before the record
abbrev pub gather : Version → (Port → ℕ → ℕ) → (ℕ → ℕ) → Record → ℕ → ℕ
gather v c n r u = cond (eqb r.thread u) (suc (n u)) (max (c (of_thread r.thread) u) (reading c (second v r) u))

abbrev pub clock : Version → List Record → Port → ℕ → ℕ
clock v [] p u = 0
clock v (r ∷ H) p u = cond (feeds v r p) (max (clock v H p u) (gather v (clock v H) (count H) r u)) (clock v H p u)

-- ---- the tests mean what they should

orders→ : (v : Version) → T (volatile_orders v) → v ≡ v1
orders→ v0 h = absurd h
orders→ v1 h = refl

orders← : (v : Version) → v ≡ v1 → T (volatile_orders v)
orders← v e = rw e tt

at_place→ : (a : Bool) (r : Record) (o f : ℕ) → T (a && eqb r.object o && eqb r.field f) → T a × (r.object ≡ o) × (r.field ≡ f)
at_place→ a r o f h =
    let d = and_yes (a && eqb r.object o) (eqb r.field f) h in
    let e = and_yes a (eqb r.object o) d.0 in
    (e.0, eqb→eq r.object o e.1, eqb→eq r.field f d.1)

at_place← : (a : Bool) (r : Record) (o f : ℕ) → T a × (r.object ≡ o) × (r.field ≡ f) → T (a && eqb r.object o && eqb r.field f)
at_place← a r o f (h, e, g) = yes_and (a && eqb r.object o) (eqb r.field f) (yes_and a (eqb r.object o) h (yes_eqb e)) (yes_eqb g)

pub feeds→ : (v : Version) (r : Record) (p : Port) → T (feeds v r p) → Feeds v r p
feeds→ v r (of_thread q) h = go (or_yes (eqb r.thread q) (same_kind r.kind fork && eqb r.field q) h)
  where
    go : T (eqb r.thread q) ⊎ T (same_kind r.kind fork && eqb r.field q) → Feeds v r (of_thread q)
    go (inl e) = inl (eqb→eq r.thread q e)
    go (inr e) = let d = and_yes (same_kind r.kind fork) (eqb r.field q) e in inr (same_kind→ r.kind fork d.0, eqb→eq r.field q d.1)
feeds→ v r (of_monitor o) h =
    let d = and_yes (same_kind r.kind release) (eqb r.object o) h in
    (same_kind→ r.kind release d.0, eqb→eq r.object o d.1)
feeds→ v r (of_volatile o f) h =
    let d = and_yes (volatile_orders v && same_kind r.kind writev && eqb r.object o) (eqb r.field f) h in
    let e = and_yes (volatile_orders v && same_kind r.kind writev) (eqb r.object o) d.0 in
    let g = and_yes (volatile_orders v) (same_kind r.kind writev) e.0 in
    (orders→ v g.0, same_kind→ r.kind writev g.1, eqb→eq r.object o e.1, eqb→eq r.field f d.1)
feeds→ v r (of_accesses o f) h = at_place→ (is_plain r.kind) r o f h
feeds→ v r (of_writes o f) h = at_place→ (is_write r.kind) r o f h

pub feeds← : (v : Version) (r : Record) (p : Port) → Feeds v r p → T (feeds v r p)
feeds← v r (of_thread q) (inl e) = or← (eqb r.thread q) (same_kind r.kind fork && eqb r.field q) (inl (yes_eqb e))
feeds← v r (of_thread q) (inr (e, g)) =
    or← (eqb r.thread q) (same_kind r.kind fork && eqb r.field q)
    (inr (yes_and (same_kind r.kind fork) (eqb r.field q) (same_kind← r.kind fork e) (yes_eqb g)))
feeds← v r (of_monitor o) (e, g) = yes_and (same_kind r.kind release) (eqb r.object o) (same_kind← r.kind release e) (yes_eqb g)
feeds← v r (of_volatile o f) (c, e, g, h) =
    yes_and (volatile_orders v && same_kind r.kind writev && eqb r.object o) (eqb r.field f)
    (yes_and (volatile_orders v && same_kind r.kind writev) (eqb r.object o)
    (yes_and (volatile_orders v) (same_kind r.kind writev) (orders← v c) (same_kind← r.kind writev e)) (yes_eqb g))
    (yes_eqb h)
feeds← v r (of_accesses o f) h = at_place← (is_plain r.kind) r o f h
feeds← v r (of_writes o f) h = at_place← (is_write r.kind) r o f h

pub draws→ : (v : Version) (r : Record) (q : Port) → Draws v r q → (of_thread r.thread ≡ q) ⊎ (second v r ≡ some q)
draws→ v r (of_thread q) (inl e) = inl (ap of_thread e)
draws→ v r (of_thread q) (inr (e, g)) = inr (rw (e, g))
draws→ v r (of_monitor o) (e, g) = inr (rw (e, g))
draws→ v r (of_volatile o f) (c, e, g, h) = inr (rw (c, e, g, h))
draws→ v r (of_accesses o f) e = absurd e
draws→ v r (of_writes o f) e = absurd e

-- what a second port is, if there is one
abbrev Drawn : Version → Record → Option Port → Type 0
Drawn v r none = Unit {0}
Drawn v r (some q) = Draws v r q

drawn : (v : Version) (κ : Kind) (t o f x : ℕ) → Drawn v (entry κ t o f x) (second_port v κ o f)
drawn v new t o f x = tt
drawn v read t o f x = tt
drawn v write t o f x = tt
drawn v0 readv t o f x = tt
drawn v1 readv t o f x = (refl, refl, refl, refl)
drawn v0 writev t o f x = tt
drawn v1 writev t o f x = tt
drawn v acquire t o f x = (refl, refl)
drawn v release t o f x = tt
drawn v fork t o f x = tt
drawn v join t o f x = inr (refl, refl)
drawn v lacks_read t o f x = tt
drawn v lacks_write t o f x = tt

pub second_draws : (v : Version) (r : Record) (q : Port) → second v r ≡ some q → Draws v r q
second_draws v r q e = subst (λ (m : Option Port). Drawn v r m) e (drawn v r.kind r.thread r.object r.field r.value)

-- ---- one record, port by port

bound_step : (b c : Bool) (C A B n : ℕ) → C ≤ n → A ≤ n → B ≤ n → cond b (max C (cond c (suc n) (max A B))) C ≤ cond c (suc n) n
bound_step true true C A B n x y z = omega arith
bound_step true false C A B n x y z = omega arith
bound_step false true C A B n x y z = omega arith
bound_step false false C A B n x y z = omega arith

reading_bound : (c : Port → ℕ → ℕ) (u n : ℕ) → ((q : Port) → c q u ≤ n) → (m : Option Port) → reading c m u ≤ n
reading_bound c u n h none = omega arith
reading_bound c u n h (some q) = h q

pub clock_bound : (v : Version) (H : List Record) (p : Port) (u : ℕ) → clock v H p u ≤ count H u
clock_bound v [] p u = omega arith
clock_bound v (r ∷ H) p u =
    bound_step (feeds v r p) (eqb r.thread u) (clock v H p u) (clock v H (of_thread r.thread) u) (reading (clock v H) (second v r) u) (count H u)
    (clock_bound v H p u) (clock_bound v H (of_thread r.thread) u) (reading_bound (clock v H) u (count H u) (λ q. clock_bound v H q u) (second v r))

pub clock_fed : (v : Version) (r : Record) (H : List Record) (p : Port) (u : ℕ) → Feeds v r p
    → clock v (r ∷ H) p u ≡ max (clock v H p u) (gather v (clock v H) (count H) r u)
clock_fed v r H p u o = cond_true (feeds v r p) (max (clock v H p u) (gather v (clock v H) (count H) r u)) (clock v H p u) (feeds← v r p o)

pub clock_unfed : (v : Version) (r : Record) (H : List Record) (p : Port) (u : ℕ) → (Feeds v r p → ⊥) → clock v (r ∷ H) p u ≡ clock v H p u
clock_unfed v r H p u n = cond_false (feeds v r p) (max (clock v H p u) (gather v (clock v H) (count H) r u)) (clock v H p u) (λ h. n (feeds→ v r p h))

own_max : (c : Bool) (A B n : ℕ) → A ≤ n → max A (cond c (suc n) (max A B)) ≡ cond c (suc n) (max A B)
own_max true A B n h = omega arith
own_max false A B n h = omega arith

-- the clock of the record's own thread
pub clock_own : (v : Version) (r : Record) (H : List Record) (u : ℕ) → clock v (r ∷ H) (of_thread r.thread) u ≡ gather v (clock v H) (count H) r u
clock_own v r H u = clock_fed v r H (of_thread r.thread) u (inl refl)
    ∙ own_max (eqb r.thread u) (clock v H (of_thread r.thread) u) (reading (clock v H) (second v r) u) (count H u)
    (clock_bound v H (of_thread r.thread) u)
