-- For each port and each thread, the newest of the thread's records that reaches the port. Logs newest first. Assumes nothing.
use Prim.Native.Nat.{ℕ, suc, ◌<◌, ◌≤◌, max}
use native.Mathlib.Omega.{arith}
use native.Mathlib.Decide.{dec_le}
use mathlib.Core.Path.{◌≡◌, refl}
use mathlib.Core.Bool.{Bool, true, false, cond}
use mathlib.Core.List.{List, [], ◌∷◌}
use mathlib.Core.Logic.{◌⊎◌, inl, inr}
use mathlib.Core.Option.{Option, none, some}
use lib.Dec.{T, eqb, eqb→eq, eqb_refl}
use lib.ListN.{length}
use Rattle.format.specs.Version.{Version}
use Rattle.log_records.specs.Record.{Record}
use Rattle.log_order.proofs.Newest.{At, here, back, at_below}
use Rattle.log_order.proofs.Ports.{Port, of_thread, Draws}
use Rattle.log_order.proofs.Flow.{Reach, kept, made, passed, reach_below}
use Rattle.log_conflicts.proofs.Clock.{feeds, second, reading, gather, feeds→, feeds←, draws→, second_draws}

-- 1 more than the index of the newest record of thread u that reaches the port, or 0
abbrev pub mark : Version → List Record → Port → ℕ → ℕ
mark v [] p u = 0
mark v (r ∷ H) p u = cond (feeds v r p) (max (mark v H p u) (gather v (mark v H) (λ w. length H) r u)) (mark v H p u)

-- the same of what a new record draws from
abbrev pub heard : Version → List Record → Record → ℕ → ℕ
heard v H r u = max (mark v H (of_thread r.thread) u) (reading (mark v H) (second v r) u)

-- ---- one record's arithmetic: C the port's mark, D what the record has heard, n the count of records

bound_step : (b c : Bool) (C D n : ℕ) → C ≤ n → D ≤ n → cond b (max C (cond c (suc n) D)) C ≤ suc n
bound_step true true C D n x y = omega arith
bound_step true false C D n x y = omega arith
bound_step false c C D n x y = omega arith

up_own : (b c : Bool) (C D n : ℕ) → T b → T c → suc n ≤ cond b (max C (cond c (suc n) D)) C
up_own true true C D n x y = omega arith
up_own true false C D n x y = absurd y
up_own false c C D n x y = absurd x

up_kept : (b : Bool) (m C G : ℕ) → m ≤ C → m ≤ cond b (max C G) C
up_kept true m C G h = omega arith
up_kept false m C G h = h

up_passed : (b c : Bool) (m C D n : ℕ) → T b → m ≤ D → m ≤ n → m ≤ cond b (max C (cond c (suc n) D)) C
up_passed true true m C D n x h k = omega arith
up_passed true false m C D n x h k = omega arith
up_passed false c m C D n x h k = absurd x

down_own : (b : Bool) (C G n : ℕ) → C ≤ n → suc n ≤ cond b (max C G) C → T b
down_own true C G n x h = tt
down_own false C G n x h = omega arith

-- where a mark's value m came from
data Came (m C D : ℕ) (b c : Bool) : Type 0 where
  before : m ≤ C → Came m C D b c
  itself : T b → T c → Came m C D b c
  passed_on_lem : T b → m ≤ D → Came m C D b c

came : (b c : Bool) (m C D n : ℕ) → m ≤ cond b (max C (cond c (suc n) D)) C → Came m C D b c
came false c m C D n h = before h
came true true m C D n h = itself tt tt
came true false m C D n h = go (dec_le m C)
  where
    go : Dec (m ≤ C) → Came m C D true false
    go (yes x) = before x
    go (no x) = passed_on_lem tt (omega arith)

reading_bound : (c : Port → ℕ → ℕ) (u n : ℕ) → ((q : Port) → c q u ≤ n) → (m : Option Port) → reading c m u ≤ n
reading_bound c u n h none = omega arith
reading_bound c u n h (some q) = h q

pub mark_bound : (v : Version) (H : List Record) (p : Port) (u : ℕ) → mark v H p u ≤ length H
mark_bound v [] p u = omega arith
mark_bound v (r ∷ H) p u =
    let y : heard v H r u ≤ length H
    = omega (arith, mark_bound v H (of_thread r.thread) u, reading_bound (mark v H) u (length H) (λ q. mark_bound v H q u) (second v r)) in
    bound_step (feeds v r p) (eqb r.thread u) (mark v H p u) (heard v H r u) (length H) (mark_bound v H p u) y

pub heard_bound : (v : Version) (H : List Record) (r : Record) (u : ℕ) → heard v H r u ≤ length H
heard_bound v H r u = omega (arith, mark_bound v H (of_thread r.thread) u, reading_bound (mark v H) u (length H) (λ q. mark_bound v H q u) (second v r))

-- ---- marks decide what reaches a port

-- a record reaches its own thread
own_reach : (v : Version) {H : List Record} {i : ℕ} {w : Record} → At H i w → Reach v i H (of_thread w.thread)
own_reach v (here e) = made e (inl refl)
own_reach v (back h) = kept (own_reach v h)

-- what is heard of a port that the record draws from
pub drawn_heard : (v : Version) (r : Record) (H : List Record) (q : Port) (u m : ℕ) → Draws v r q → m ≤ mark v H q u → m ≤ heard v H r u
drawn_heard v r H q u m n h = go (draws→ v r q n)
  where
    go : (of_thread r.thread ≡ q) ⊎ (second v r ≡ some q) → m ≤ heard v H r u
    go (inl e) = let k : m ≤ mark v H (of_thread r.thread) u = rw e h in omega arith
    go (inr e) = let k : m ≤ reading (mark v H) (second v r) u = rw e h in omega arith

-- and the other way round: a port that the record draws from has what is heard
pub record Source (v : Version) (r : Record) (H : List Record) (u m : ℕ) : Type 0 where
  pub port : Port
  pub draws : Draws v r port
  pub has : m ≤ mark v H port u

pub heard_source : (v : Version) (r : Record) (H : List Record) (u m : ℕ) → 0 < m → m ≤ heard v H r u → Source v r H u m
heard_source v r H u m z h = go (dec_le m (mark v H (of_thread r.thread) u))
  where
    from : (o : Option Port) → second v r ≡ o → m ≤ reading (mark v H) o u → Source v r H u m
    from none e k = absurd (omega arith)
    from (some q) e k = record { port = q; draws = second_draws v r q e; has = k }

    go : Dec (m ≤ mark v H (of_thread r.thread) u) → Source v r H u m
    go (yes k) = record { port = of_thread r.thread; draws = inl refl; has = k }
    go (no k) = from (second v r) refl (omega arith)

pub reach→mark : (v : Version) {H : List Record} {i : ℕ} {w : Record} {p : Port} → At H i w → Reach v i H p → suc i ≤ mark v H p w.thread
reach→mark v (here e) (kept x) = let b = reach_below x in absurd (omega arith)
reach→mark v {p = p} (here {H = H} {r = r} e) (made _ o) =
    rw e (up_own (feeds v r p) (eqb r.thread r.thread) (mark v H p r.thread) (heard v H r r.thread) (length H) (feeds← v r p o)
    (eqb_refl r.thread))
reach→mark v (here e) (passed n x o) = let b = reach_below x in absurd (omega arith)
reach→mark v {i = i} {w = w} {p = p} (back {H = H} {s = s} h) (kept x) =
    up_kept (feeds v s p) (suc i) (mark v H p w.thread) (gather v (mark v H) (λ k. length H) s w.thread) (reach→mark v h x)
reach→mark v (back h) (made e o) = let b = at_below h in absurd (omega arith)
reach→mark v {i = i} {w = w} {p = p} (back {H = H} {s = s} h) (passed {q = q} n x o) =
    let k : i < length H = at_below h in
    up_passed (feeds v s p) (eqb s.thread w.thread) (suc i) (mark v H p w.thread) (heard v H s w.thread) (length H) (feeds← v s p o)
    (drawn_heard v s H q w.thread (suc i) n (reach→mark v h x)) (omega arith)

pub mark→reach : (v : Version) {H : List Record} {i : ℕ} {w : Record} (p : Port) → At H i w → suc i ≤ mark v H p w.thread → Reach v i H p
mark→reach v p (here {H = H} {r = r} e) h =
    made e (feeds→ v r p (down_own (feeds v r p) (mark v H p r.thread) (gather v (mark v H) (λ k. length H) r r.thread) (length H)
    (mark_bound v H p r.thread) (rw e at h)))
mark→reach v {i = i} {w = w} p (back {H = H} {s = s} a) h =
    go (came (feeds v s p) (eqb s.thread w.thread) (suc i) (mark v H p w.thread) (heard v H s w.thread) (length H) h) (λ q. mark→reach v q a)
  where
    go : Came (suc i) (mark v H p w.thread) (heard v H s w.thread) (feeds v s p) (eqb s.thread w.thread)
        → ((q : Port) → suc i ≤ mark v H q w.thread → Reach v i H q) → Reach v i (s ∷ H) p
    go (before k) ih = kept (ih p k)
    go (itself b d) ih = passed {q = of_thread w.thread} (inl (eqb→eq s.thread w.thread d)) (own_reach v a) (feeds→ v s p b)
    go (passed_on_lem b k) ih = let d = heard_source v s H w.thread (suc i) (omega arith) k in
        passed {q = d.port} d.draws (ih d.port d.has) (feeds→ v s p b)

-- ---- a mark is a record's

-- record m is of thread u
pub record OfThread (H : List Record) (u m : ℕ) : Type 0 where
  pub by : Record
  pub at : At H m by
  pub of_thread : by.thread ≡ u

older : {H : List Record} {u m : ℕ} (s : Record) → OfThread H u m → OfThread (s ∷ H) u m
older s d = record { by = d.by; at = back d.at; of_thread = d.of_thread }

data Made (m C D n : ℕ) (c : Bool) : Type 0 where
  before : C ≡ suc m → Made m C D n c
  itself : T c → m ≡ n → Made m C D n c
  passed_on_lem : D ≡ suc m → Made m C D n c

made_by : (b c : Bool) (m C D n : ℕ) → cond b (max C (cond c (suc n) D)) C ≡ suc m → C ≤ n → Made m C D n c
made_by false c m C D n h k = before h
made_by true true m C D n h k = itself tt (omega arith)
made_by true false m C D n h k = go (dec_le (suc m) C)
  where
    go : Dec (suc m ≤ C) → Made m C D n false
    go (yes x) = before (omega arith)
    go (no x) = passed_on_lem (omega arith)

heard_by : (v : Version) (r : Record) (H : List Record) (u m : ℕ) → ((q : Port) → mark v H q u ≡ suc m → OfThread H u m) → heard v H r u ≡ suc m
    → OfThread H u m
heard_by v r H u m of d = from (second v r) d (dec_le (suc m) (mark v H (of_thread r.thread) u))
  where
    from : (o : Option Port) → max (mark v H (of_thread r.thread) u) (reading (mark v H) o u) ≡ suc m → Dec (suc m ≤ mark v H (of_thread r.thread) u)
        → OfThread H u m
    from o d (yes k) = of (of_thread r.thread) (back_down o d k)
      where
        back_down : (o : Option Port) → max (mark v H (of_thread r.thread) u) (reading (mark v H) o u) ≡ suc m → suc m ≤ mark v H (of_thread r.thread) u
            → mark v H (of_thread r.thread) u ≡ suc m
        back_down o d k = omega arith
    from none d (no k) = absurd (omega arith)
    from (some q) d (no k) = of q (omega arith)

pub mark_of : (v : Version) (H : List Record) (p : Port) (u m : ℕ) → mark v H p u ≡ suc m → OfThread H u m
mark_of v [] p u m e = absurd (omega arith)
mark_of v (r ∷ H) p u m e =
    go (made_by (feeds v r p) (eqb r.thread u) m (mark v H p u) (heard v H r u) (length H) e (mark_bound v H p u)) (λ q. mark_of v H q u m)
  where
    go : Made m (mark v H p u) (heard v H r u) (length H) (eqb r.thread u) → ((q : Port) → mark v H q u ≡ suc m → OfThread H u m) → OfThread (r ∷ H) u m
    go (before k) of = older r (of p k)
    go (itself c k) of = record { by = r; at = here k; of_thread = eqb→eq r.thread u c }
    go (passed_on_lem k) of = older r (heard_by v r H u m of k)

pub heard_of_lem : (v : Version) (r : Record) (H : List Record) (u m : ℕ) → heard v H r u ≡ suc m → OfThread H u m
heard_of_lem v r H u m e = heard_by v r H u m (λ q. mark_of v H q u m) e
