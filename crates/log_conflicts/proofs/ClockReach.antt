-- A record reaches a port exactly when the port's clock of the record's thread has come to it, in any log. Logs newest first. Assumes nothing.
use Prim.Native.Nat.{ℕ, suc, ◌<◌, ◌≤◌, max}
use mathlib.Core.Path.{◌≡◌, refl}
use mathlib.Core.Bool.{Bool, true, false, cond}
use mathlib.Core.List.{List, ◌∷◌}
use mathlib.Core.Option.{Option, none, some}
use mathlib.Core.Logic.{◌⊎◌, inl, inr}
use lib.ListN.{length}
use lib.Dec.{T, eqb, eqb→eq}
use mir.Facts.{yes_eqb}
use native.Mathlib.Omega.{arith}
use native.Mathlib.Decide.{dec_le}
use Rattle.format.specs.Version.{Version}
use Rattle.log_records.specs.Record.{Record}
use Rattle.log_order.proofs.Ports.{Port, of_thread, Feeds, Draws}
use Rattle.log_order.proofs.Flow.{Reach, kept, made, passed, reach_below}
use Rattle.log_conflicts.proofs.Clock.{count, feeds, second, reading, gather, clock, feeds→, feeds←, draws→, second_draws, clock_bound}

-- record i is the c-th of thread u, from 1
pub data Nth : List Record → ℕ → ℕ → ℕ → Type 0 where
  newest : {r : Record} {H : List Record} {i u c : ℕ} → r.thread ≡ u → i ≡ length H → c ≡ suc (count H u) → Nth (r ∷ H) i u c
  older : {r : Record} {H : List Record} {i u c : ℕ} → Nth H i u c → Nth (r ∷ H) i u c

pub nth_below : {H : List Record} {i u c : ℕ} → Nth H i u c → i < length H
nth_below (newest a e g) = omega arith
nth_below (older y) = let b = nth_below y in omega arith

pub nth_positive : {H : List Record} {i u c : ℕ} → Nth H i u c → 0 < c
nth_positive (newest a e g) = omega arith
nth_positive (older y) = nth_positive y

-- a record reaches its own thread
pub own_reach : (v : Version) {H : List Record} {i u c : ℕ} → Nth H i u c → Reach v i H (of_thread u)
own_reach v (newest a e g) = made e (inl a)
own_reach v (older y) = kept (own_reach v y)

-- ---- one step's arithmetic: C the port's clock, A the thread's own, B the second port's, n the thread's count

up_own : (b c : Bool) (C D n : ℕ) → T b → T c → suc n ≤ cond b (max C (cond c (suc n) D)) C
up_own true true C D n x y = omega arith
up_own true false C D n x y = absurd y
up_own false c C D n x y = absurd x

up_kept : (b : Bool) (m C G : ℕ) → m ≤ C → m ≤ cond b (max C G) C
up_kept true m C G h = omega arith
up_kept false m C G h = h

up_passed : (b c : Bool) (m C A B n : ℕ) → T b → (m ≤ A) ⊎ (m ≤ B) → m ≤ n → m ≤ cond b (max C (cond c (suc n) (max A B))) C
up_passed true true m C A B n x h k = omega arith
up_passed true false m C A B n x (inl h) k = omega arith
up_passed true false m C A B n x (inr h) k = omega arith
up_passed false c m C A B n x h k = absurd x

down_own : (b : Bool) (C G n : ℕ) → C ≤ n → suc n ≤ cond b (max C G) C → T b
down_own true C G n x h = tt
down_own false C G n x h = omega arith

-- where a clock's value m came from
data Came (m C A B : ℕ) (b c : Bool) : Type 0 where
  before : m ≤ C → Came m C A B b c
  itself : T b → T c → Came m C A B b c
  first : T b → m ≤ A → Came m C A B b c
  second_port_lem : T b → m ≤ B → Came m C A B b c

came : (b c : Bool) (m C A B n : ℕ) → m ≤ cond b (max C (cond c (suc n) (max A B))) C → Came m C A B b c
came false c m C A B n h = before h
came true true m C A B n h = itself tt tt
came true false m C A B n h = go (dec_le m C) (dec_le m A)
  where
    go : Dec (m ≤ C) → Dec (m ≤ A) → Came m C A B true false
    go (yes x) d = before x
    go (no x) (yes y) = first tt y
    go (no x) (no y) = second_port_lem tt (omega arith)

-- ---- clocks decide what reaches a port

heard : (v : Version) (r : Record) (H : List Record) (q : Port) (u c : ℕ) → Draws v r q → c ≤ clock v H q u
    → (c ≤ clock v H (of_thread r.thread) u) ⊎ (c ≤ reading (clock v H) (second v r) u)
heard v r H q u c n h = go (draws→ v r q n)
  where
    go : (of_thread r.thread ≡ q) ⊎ (second v r ≡ some q) → (c ≤ clock v H (of_thread r.thread) u) ⊎ (c ≤ reading (clock v H) (second v r) u)
    go (inl e) = inl (rw e h)
    go (inr e) = inr (rw e h)

pub reach→clock : (v : Version) {H : List Record} {i u c : ℕ} {p : Port} → Nth H i u c → Reach v i H p → c ≤ clock v H p u
reach→clock v (newest a e g) (kept x) = let b = reach_below x in absurd (omega arith)
reach→clock v {u = u} {p = p} (newest {r = r} {H = H} a e g) (made _ o) =
    rw g (up_own (feeds v r p) (eqb r.thread u) (clock v H p u) (max (clock v H (of_thread r.thread) u) (reading (clock v H) (second v r) u)) (count H u)
    (feeds← v r p o) (yes_eqb a))
reach→clock v (newest a e g) (passed n x o) = let b = reach_below x in absurd (omega arith)
reach→clock v {u = u} {c = c} {p = p} (older {r = r} {H = H} y) (kept x) =
    up_kept (feeds v r p) c (clock v H p u) (gather v (clock v H) (count H) r u) (reach→clock v y x)
reach→clock v (older y) (made e o) = let b = nth_below y in absurd (omega arith)
reach→clock v {u = u} {c = c} {p = p} (older {r = r} {H = H} y) (passed {q = q} n x o) =
    let h : c ≤ clock v H q u = reach→clock v y x in
    let k : c ≤ count H u = omega (arith, clock_bound v H q u) in
    up_passed (feeds v r p) (eqb r.thread u) c (clock v H p u) (clock v H (of_thread r.thread) u) (reading (clock v H) (second v r) u) (count H u)
    (feeds← v r p o) (heard v r H q u c n h) k

pub clock→reach : (v : Version) {H : List Record} {i u c : ℕ} (p : Port) → Nth H i u c → c ≤ clock v H p u → Reach v i H p
clock→reach v {u = u} p (newest {r = r} {H = H} a e g) h =
    made e (feeds→ v r p (down_own (feeds v r p) (clock v H p u) (gather v (clock v H) (count H) r u) (count H u) (clock_bound v H p u) (rw g at h)))
clock→reach v {i = i} {u = u} {c = c} p (older {r = r} {H = H} y) h =
    go (came (feeds v r p) (eqb r.thread u) c (clock v H p u) A B (count H u) h) (λ q. clock→reach v q y)
  where
    A : ℕ
    A = clock v H (of_thread r.thread) u

    B : ℕ
    B = reading (clock v H) (second v r) u

    from : (m : Option Port) → second v r ≡ m → Feeds v r p → ((q : Port) → c ≤ clock v H q u → Reach v i H q) → c ≤ reading (clock v H) m u
        → Reach v i (r ∷ H) p
    from none e o ih k = let z = nth_positive y in absurd (omega arith)
    from (some q) e o ih k = passed {q = q} (second_draws v r q e) (ih q k) o

    go : Came c (clock v H p u) A B (feeds v r p) (eqb r.thread u) → ((q : Port) → c ≤ clock v H q u → Reach v i H q) → Reach v i (r ∷ H) p
    go (before k) ih = kept (ih p k)
    go (itself b d) ih = passed {q = of_thread u} (inl (eqb→eq r.thread u d)) (own_reach v y) (feeds→ v r p b)
    go (first b k) ih = passed {q = of_thread r.thread} (inl refl) (ih (of_thread r.thread) k) (feeds→ v r p b)
    go (second_port_lem b k) ih = from (second v r) refl (feeds→ v r p b) ih k
