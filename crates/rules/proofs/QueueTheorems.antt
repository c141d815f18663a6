-- The theorems of the queues (document 02, E3), of the states that executions of well-formed programs come to: the places of a queue are 1 to its length, each
-- once; notify wakes the one that has waited longest, and no other; notify all wakes every one; nothing else wakes anyone; the woken wait for the monitor; who
-- waits again stands behind those who wait. Assumes nothing.
use Prim.Native.Nat.{ℕ, zero, suc, pred, ◌<◌, ◌≤◌}
use native.Mathlib.Omega.{arith}
use native.Mathlib.Decide.{ℕ_discrete}
use mathlib.Core.Path.{◌≡◌, refl, sym, ap, ◌∙◌, subst as along}
use mathlib.Core.Bool.{Bool, true, false, cond, true≢false}
use mathlib.Core.List.{List, map}
use mathlib.Core.Logic.{◌↔◌}
use mathlib.Core.Option.{Option, some, none}
use lib.Dec.{eqb}
use lib.ListN.{length, get_elem?}
use Rattle.run_keys.specs.Keys.{is_empty}
use Rattle.plan_packed.specs.Syntax.{Signal, Expression, Program, literal}
use Rattle.plan_packed.specs.Check.{refusal}
use Rattle.plan_packed.specs.Trees.{program_of}
use Rattle.plan_packed.proofs.WellFormed.{WellFormedProgram}
use Rattle.plan_packed.proofs.Decoded.{well_formed}
use Rattle.log_records.specs.Record.{Record}
use Rattle.rules.specs.Context.{Context, plug, focus, top, here, Redex, redex_expression}
use Rattle.rules.specs.Queue.{Place, awake, queue_length, last_place, moved_up}
use Rattle.rules.specs.State.{Cell, cell, Thread, State, start, monitor, change_at, become, store_monitor, enqueue, signalled, places_of}
use Rattle.rules.specs.Rules.{Rule, e_notify, e_notifyall, Moves}
use Rattle.rules.specs.Step.{for_monitor, for_notify, Stuck, not_held, no_rule, sticks, does, Move, AttemptOf, Attempt, moves, signal_move, signal_act, act}
use Rattle.rules.specs.Step.{around}
use Rattle.rules.specs.Step.{attempt_at, attempt_by, attempt}
use Rattle.rules.specs.Room.{Blocked, MONITOR-HELD, UNFINISHED, NO-FIELD-TO-READ, NO-FIELD-TO-WRITE, NO-THREAD, NOT-NOTIFIED, NOT-FREE, NOT-HELD}
use Rattle.rules.specs.Room.{PassedOver, ABSENT, FINISHED, BLOCKED}
use Rattle.rules.specs.Run.{Run}
use Rattle.rules.specs.Execution.{Execution}
use Rattle.rules.specs.Waking.{Awaits, Woken, Signals, last_wait, Longest, holders, InLine, Queueing}
use Rattle.rules.proofs.FocusPlug.{found}
use Rattle.rules.proofs.Placed.{Good}
use Rattle.rules.proofs.StateLaws.{added_old, change_same, change_other, inside, monitor_there}
use Rattle.rules.proofs.Invariant.{Inv}
use Rattle.rules.proofs.Equivalence.{complete}
use Rattle.rules.proofs.Executed.{Reachable, reachable_start, reachable_move, reachable_after, plan_executes}
use Rattle.rules.proofs.QueueLaws.{In, all, within, alone, holder, Holder, moved_number, moved_other, moved_object, mapped, mapped_at}
use Rattle.rules.proofs.Queues.{place_of, places_taken, places_moved, become_places, Requeues, keeps, joined, queues, wakes, wakes_all, requeues}
use Rattle.rules.proofs.Queues.{HeldIn, stands_still, Queues, queues_move, mover_at, Kept, kept_queues}

-- ---- (a) THE PLACES OF A QUEUE ARE 1 TO ITS LENGTH, EACH ONCE

pub in_line : {g : Program} {ps : List ℕ} {r : Run} → Execution g start ps r → InLine r.final
in_line {r = r} x = record { each_once = once; none_behind = past; waits_there = λ p t h n. Q.attends p t h n }
  where
    Q : Queues r.final
    Q = (kept_queues x).queues

    once : (o n : ℕ) → 0 < n → n ≤ queue_length o (places_of r.final) → holders o n (places_of r.final) ≡ 1
    once o zero h k = absurd (omega arith)
    once o (suc n) h k = Q.line.once o n k

    past : (o n : ℕ) → queue_length o (places_of r.final) < n → holders o n (places_of r.final) ≡ 0
    past o zero h = absurd (omega arith)
    past o (suc n) h = Q.line.empty o n (omega arith)

-- ---- who waits is who has a place

-- thread p has a place in the queue of o
abbrev Queued : List Place → ℕ → ℕ → Type 0
Queued ws o p = (w : Place) × (get_elem? ws p ≡ some w) × In o w

-- the redex of a thread that waits to be notified, and its number
waits_here : (s : State) (t : Thread) (o : ℕ) {e : Expression} {a : Attempt} → Blocked s t e a → a ≡ AttemptOf.waiting (for_notify o)
    → (e ≡ Expression.waiting o) × (t.place.number ≡ 0 → ⊥)
waits_here s t o (MONITOR-HELD h n) q = absurd (true≢false cc)
waits_here s t o (UNFINISHED h n) q = absurd (true≢false cc)
waits_here s t o (NO-FIELD-TO-READ h) q = absurd (true≢false cc)
waits_here s t o (NO-FIELD-TO-WRITE h) q = absurd (true≢false cc)
waits_here s t o (NO-THREAD h) q = absurd (true≢false cc)
waits_here s t o (NOT-NOTIFIED {o = a} n h) q = let e : a ≡ o = cc in (ap Expression.waiting e, n)
waits_here s t o (NOT-FREE z h) q = absurd (true≢false cc)
waits_here s t o (NOT-HELD h n) q = absurd (true≢false cc)

queued_of : (s : State) → Queues s → (o p : ℕ) {a : Attempt} → PassedOver s p a → a ≡ AttemptOf.waiting (for_notify o) → Queued (places_of s) o p
unfolding redex_expression
queued_of s Q o p (ABSENT h) q = absurd (true≢false cc)
queued_of s Q o p (FINISHED h e) q = absurd (true≢false cc)
queued_of s Q o p (BLOCKED K {t} {e} ht he b) q =
    let w = waits_here s t o b q in
    let k = Q.attends p t ht w.1 in
    let f : here K (Redex.waiting o) ≡ here k.0 (Redex.waiting t.place.object) =
    sym (found K (Redex.waiting o)) ∙ ap (λ (x : Expression). focus top (plug K x)) (sym w.0) ∙ ap (focus top) (sym he ∙ k.1)
    ∙ found k.0 (Redex.waiting t.place.object) in
    let i : o ≡ t.place.object = cc in
    (t.place, mapped_at (λ (x : Thread). x.place) s.threads p t ht, (i, positive t.place.number w.1))
  where
    positive : (n : ℕ) → (n ≡ 0 → ⊥) → 0 < n
    positive zero h = absurd (h refl)
    positive (suc n) h = omega arith

awaits_queued : (s : State) → Queues s → (o p : ℕ) → Awaits s o p → Queued (places_of s) o p
awaits_queued s Q o p h = queued_of s Q o p h refl

queued_awaits : (g : Program) (s : State) → Inv g s → Queues s → (o p : ℕ) → Queued (places_of s) o p → Awaits s o p
unfolding redex_expression
queued_awaits g s I Q o p (w, h, i) =
    let m = mapped (λ (x : Thread). x.place) s.threads p w h in
    let t = m.0 in
    let n : t.place.number ≡ 0 → ⊥ = λ z. omega (arith, z, ap (λ (x : Place). x.number) m.2, i.1) in
    let k = Q.attends p t m.1 n in
    let e : t.place.object ≡ o = ap (λ (x : Place). x.object) m.2 ∙ sym i.0 in
    let he : t.expression ≡ plug k.0 (Expression.waiting o) = k.1 ∙ ap (λ (a : ℕ). plug k.0 (Expression.waiting a)) e in
    let d = along (Good g (length s.objects)) (ap (focus top) he ∙ found k.0 (Redex.waiting o)) (I.each p t m.1).good in
    let c = monitor_there s o d.1 in
    BLOCKED k.0 m.1 he (NOT-NOTIFIED {u = c.0.value} {W = c.0.keys} n c.1)

-- ---- (c) NOTHING ELSE WAKES ANYONE

still_queued : {ws : List Place} {p : ℕ} {H : ℕ → Type 0} {R : Rule} {ws' : List Place} → Requeues ws p H R ws' → (R ≡ e_notify → ⊥) → (R ≡ e_notifyall → ⊥)
    → (w : Place) → get_elem? ws p ≡ some w → w.number ≡ 0 → (o q : ℕ) → Queued ws o q → Queued ws' o q
still_queued (keeps k) n n' w h z o q i = i
still_queued {ws} joined n n' w h z o q (v, hv, i) = (v, added_old ws awake q (inside ws q v hv) ∙ hv, i)
still_queued {ws} {p} (queues a) n n' w h z o q (v, hv, i) = (v, change_other ws p _ q other ∙ hv, i)
  where
    other : p ≡ q → ⊥
    other d =
        let k : some w ≡ some v = sym h ∙ ap (get_elem? ws) d ∙ hv in
        let e : w ≡ v = cc in
        omega (arith, i.1, z, ap (λ (x : Place). x.number) e)
still_queued (wakes a m) n n' w h z o q i = absurd (n refl)
still_queued (wakes_all a m) n n' w h z o q i = absurd (n' refl)

on_object : (f : ℕ → ℕ) (ws : List Place) (H : ℕ → Type 0) (a : ℕ) → H a → (o q : ℕ) (v : Place) → get_elem? ws q ≡ some v → In o v
    → (Queued (map (moved_up f a) ws) o q → ⊥) → Dec (a ≡ o) → H o
on_object f ws H a m o q v hv i n (yes e) = rw e at m
on_object f ws H a m o q v hv i n (no e) =
    let d : a ≡ v.object → ⊥ = λ k. e (k ∙ sym i.0) in
    absurd (n (
      moved_up f a v,
      mapped_at (moved_up f a) ws q v hv,
      (i.0 ∙ sym (moved_object f a v), along (λ (n : ℕ). 0 < n) (sym (moved_other f a v d)) i.1),
    ))

-- whoever a move wakes waited on an object whose monitor is held after it
woken_held : {ws : List Place} {p : ℕ} {H : ℕ → Type 0} {R : Rule} {ws' : List Place} → Requeues ws p H R ws' → (w : Place) → get_elem? ws p ≡ some w
    → w.number ≡ 0
    → (o q : ℕ) → Queued ws o q → (Queued ws' o q → ⊥) → H o
woken_held (keeps k) w h z o q i n = absurd (n i)
woken_held {ws} {p} {H} joined w h z o q i n = absurd (n (still_queued {ws = ws} {p = p} {H = H} joined (λ e. true≢false cc) (λ e. true≢false cc) w h z o q i))
woken_held {ws} {p} {H} (queues a) w h z o q i n =
    absurd (n (still_queued {ws = ws} {p = p} {H = H} (queues a) (λ e. true≢false cc) (λ e. true≢false cc) w h z o q i))
woken_held {ws} {H = H} (wakes a m) w h z o q (v, hv, i) n = on_object pred ws H a m o q v hv i n (ℕ_discrete a o)
woken_held {ws} {H = H} (wakes_all a m) w h z o q (v, hv, i) n = on_object all ws H a m o q v hv i n (ℕ_discrete a o)

-- ---- what a signal does to the places

same_state : (a b : Move) → moves a ≡ moves b → a.state ≡ b.state
same_state a b h = let e : a ≡ b = cc in ap (λ (y : Move). y.state) e

module _ (g : Program) (s : State) (p : ℕ) {R : Rule} {e : Option Record} {s' : State} (m : Moves g s p R e s') (o : ℕ) where
  abbrev M : Move
  M = record { rule = R; entry = e; state = s' }

  -- the move is the signal's
  by_signal : (k : Signal) (h : Signals s p k o) → around s p h.0 (signal_move s p h.1 o k) ≡ moves M
  unfolding attempt act around redex_expression signal_act
  by_signal k (K, t, ht, he) =
      held (monitor s o) (sym (ap (attempt_by g s p) ht ∙ ap (λ (x : Expression). attempt_at g s p t (focus top x)) he
      ∙ ap (attempt_at g s p t) (found K (Redex.signal k o))) ∙ complete g s p m)
    where
      not_stuck : (y : Stuck) → around s p K (sticks y) ≡ moves M → ⊥
      not_stuck y h = true≢false cc

      held : (c : Option Cell) → around s p K (signal_act s p t k o c) ≡ moves M → around s p K (signal_move s p t o k) ≡ moves M
      held none h = absurd (not_stuck no_rule h)
      held (some c) h = tested (is_empty c.keys) (eqb c.value t.self) h
        where
          tested : (a b : Bool) → around s p K (cond a (cond b (signal_move s p t o k) (sticks (not_held o))) (sticks (not_held o))) ≡ moves M
              → around s p K (signal_move s p t o k) ≡ moves M
          tested true true h = h
          tested true false h = absurd (not_stuck (not_held o) h)
          tested false b h = absurd (not_stuck (not_held o) h)

  after_notify : Signals s p Signal.notify o → places_of s' ≡ map (moved_up pred o) (places_of s)
  unfolding signal_move around signalled
  after_notify h =
      let q : become (signalled pred s o) p (plug h.0 (literal 0)) ≡ s' = same_state _ M (by_signal Signal.notify h) in
      ap places_of (sym q) ∙ become_places (signalled pred s o) p (plug h.0 (literal 0)) ∙ places_moved s.threads _ (moved_up pred o) (λ x. refl)

  after_notify_all : Signals s p Signal.notify_all o → places_of s' ≡ map (moved_up all o) (places_of s)
  unfolding signal_move around signalled
  after_notify_all h =
      let q : become (signalled all s o) p (plug h.0 (literal 0)) ≡ s' = same_state _ M (by_signal Signal.notify_all h) in
      ap places_of (sym q) ∙ become_places (signalled all s o) p (plug h.0 (literal 0)) ∙ places_moved s.threads _ (moved_up all o) (λ x. refl)

  after_wait : Signals s p Signal.wait o → places_of s' ≡ change_at (places_of s) p (λ x. last_place o (places_of s))
  unfolding signal_move around enqueue store_monitor
  after_wait h =
      let s₁ = enqueue (store_monitor s o (cell h.1.keys 0)) p o in
      let q : become s₁ p (plug h.0 (Expression.waiting o)) ≡ s' = same_state _ M (by_signal Signal.wait h) in
      ap places_of (sym q) ∙ become_places s₁ p (plug h.0 (Expression.waiting o)) ∙ places_taken s.threads p _ (last_place o (places_of s)) (λ x. refl)

-- ---- where executions of a well-formed program come to

module _ (g : Program) (P : WellFormedProgram g) {ps : List ℕ} {r : Run} (x : Execution g start ps r) where
  abbrev s : State
  s = r.final

  abbrev ws : List Place
  ws = places_of s

  K : Kept s (last_wait x)
  K = kept_queues x

  Q : Queues s
  Q = K.queues

  I : Reachable g s
  I = reachable_after g P (reachable_start g P) x

  awaits : (o q : ℕ) → Queued ws o q → Awaits s o q
  awaits o q h = queued_awaits g s I.invariant Q o q h

  queued : (o q : ℕ) → Awaits s o q → Queued ws o q
  queued o q h = awaits_queued s Q o q h

  lower_earlier : (o p q : ℕ) (t u : Thread) → get_elem? s.threads p ≡ some t → get_elem? s.threads q ≡ some u → Awaits s o p → Awaits s o q
      → t.place.number < u.place.number
      → (i : ℕ) × (j : ℕ) × (last_wait x p ≡ some i) × (last_wait x q ≡ some j) × (i < j)
  lower_earlier o p q t u ht hu hp hq l =
      let v = queued o p hp in
      let w = queued o q hq in
      let a : some t.place ≡ some v.0 = sym (mapped_at place_of s.threads p t ht) ∙ v.1 in
      let b : some u.place ≡ some w.0 = sym (mapped_at place_of s.threads q u hu) ∙ w.1 in
      let c : t.place ≡ v.0 = cc in
      let d : u.place ≡ w.0 = cc in
      let i = K.ordered.made p v.0 v.1 v.2.1 in
      let j = K.ordered.made q w.0 w.1 w.2.1 in
      let k : v.0.number < w.0.number = rw (c, d) at l in
      (i.0, j.0, i.1, j.1, K.ordered.order o p q v.0 w.0 v.1 w.1 v.2 w.2 k i.0 j.0 i.1 j.1)

  -- the first of a queue has waited longest
  first_longest : (o q : ℕ) (w : Place) → get_elem? ws q ≡ some w → In o w → w.number ≡ 1 → Longest x o q
  first_longest o q w h i e =
      let f = K.ordered.made q w h i.1 in
      record { waits = awaits o q (w, h, i); since = f.0; its_wait = f.1; others_later = later f.0 f.1 }
    where
      later : (n : ℕ) → last_wait x q ≡ some n → (p : ℕ) → Awaits s o p → (q ≡ p → ⊥) → (m : ℕ) × (last_wait x p ≡ some m) × (n < m)
      later n hn p a d =
          let v = queued o p a in
          let j = K.ordered.made p v.0 v.1 v.2.1 in (
            j.0,
            j.1,
            K.ordered.order o q p w v.0 h v.1 i v.2 (further v.0 v.1 v.2 (ℕ_discrete w.number v.0.number)) n j.0 hn
                j.1,
          )
        where
          further : (v : Place) → get_elem? ws p ≡ some v → In o v → Dec (w.number ≡ v.number) → w.number < v.number
          further v hv iv (yes z) = absurd (d (alone ws Q.line o q p w v h hv i iv z))
          further v hv iv (no z) = let b = iv.1 in omega arith

  -- where anyone waits, there is a first
  first : (o q : ℕ) → Awaits s o q → Holder o 1 ws
  first o q a =
      let v = queued o q a in
      let b = within ws Q.line o q v.0 v.1 v.2 in
      holder o 1 ws (omega (arith, Q.line.once o 0 (let c = v.2.1 in omega arith)))

  some_longest : (o q : ℕ) → Awaits s o q → (p : ℕ) × Longest x o p
  some_longest o q a = let f = first o q a in (f.0, first_longest o f.0 f.1 f.2 (f.3, omega (arith, f.4)) (sym f.4))

  -- who has waited longest is the first
  longest_first : (o q : ℕ) → Longest x o q → (w : Place) × (get_elem? ws q ≡ some w) × In o w × (w.number ≡ 1)
  longest_first o q L = let v = queued o q L.waits in (v.0, v.1, v.2, one v.0 v.1 v.2 (ℕ_discrete 1 v.0.number))
    where
      one : (w : Place) → get_elem? ws q ≡ some w → In o w → Dec (1 ≡ w.number) → w.number ≡ 1
      one w h i (yes z) = sym z
      one w h i (no z) =
          let f = first o q L.waits in
          let v = f.1 in
          let iv : In o v = (f.3, omega (arith, f.4)) in
          let d : q ≡ f.0 → ⊥ = λ c. z (f.4 ∙ ap (λ (y : Place). y.number) (same_place w v (sym h ∙ ap (get_elem? ws) c ∙ f.2))) in
          let j = L.others_later f.0 (awaits o f.0 (v, f.2, iv)) (λ c. d c) in
          let l : v.number < w.number = let b = i.1 in let c = f.4 in omega arith in
          let k = K.ordered.order o f.0 q v w f.2 h iv i l j.0 L.since j.1 L.its_wait in
          absurd (omega (arith, k, j.2))
        where
          same_place : (a b : Place) → some a ≡ some b → b ≡ a
          same_place a b e = cc

  module _ (p : ℕ) (R : Rule) (e : Option Record) (s' : State) (m : Moves g s p R e s') where
    Q' : Queues s'
    Q' = queues_move g s p Q m

    I' : Inv g s'
    I' = (reachable_move g P s p I m).invariant

    awaits' : (o q : ℕ) → Queued (places_of s') o q → Awaits s' o q
    awaits' o q h = queued_awaits g s' I' Q' o q h

    queued' : (o q : ℕ) → Awaits s' o q → Queued (places_of s') o q
    queued' o q h = awaits_queued s' Q' o q h

    nothing_else_wakes : (R ≡ e_notify → ⊥) → (R ≡ e_notifyall → ⊥) → (o q : ℕ) → Awaits s o q → Awaits s' o q
    nothing_else_wakes n n' o q h = let w = mover_at g s p Q m in awaits' o q (still_queued (requeues m) n n' w.0 w.1 w.2 o q (queued o q h))

    woken_kept_out : (o q : ℕ) → Woken s s' o q → PassedOver s' q (AttemptOf.waiting (for_monitor o))
    woken_kept_out o q (a, n) = kept_out (queued o q a) (ℕ_discrete p q)
      where
        kept_out : Queued ws o q → Dec (p ≡ q) → PassedOver s' q (AttemptOf.waiting (for_monitor o))
        kept_out (w, hw, i) (yes d) =
            let y = mover_at g s p Q m in
            let k : some y.0 ≡ some w = sym y.1 ∙ ap (get_elem? ws) d ∙ hw in
            let j : y.0 ≡ w = cc in
            absurd (omega (arith, y.2, i.1, ap (λ (z : Place). z.number) j))
        kept_out (w, hw, i) (no d) =
            let y = mover_at g s p Q m in
            let held = woken_held (requeues m) y.0 y.1 y.2 o q (w, hw, i) (λ k. n (awaits' o q k)) in
            let v = mapped place_of s.threads q w hw in
            let k = Q.attends q v.0 v.1 (λ z. omega (arith, z, i.1, ap (λ (z : Place). z.number) v.2)) in
            let u = stands_still m q v.0 d v.1 in
            let he : u.0.expression ≡ plug k.0 (Expression.waiting o) =
            u.2 ∙ k.1 ∙ ap (λ (b : ℕ). plug k.0 (Expression.waiting b)) (ap (λ (z : Place). z.object) v.2 ∙ sym i.0) in
            notified k.0 u.0 u.1 he held (ℕ_discrete u.0.place.number 0)
          where
            notified : (C : Context) (u : Thread) → get_elem? s'.threads q ≡ some u → u.expression ≡ plug C (Expression.waiting o) → HeldIn s' o
                → Dec (u.place.number ≡ 0)
                → PassedOver s' q (AttemptOf.waiting (for_monitor o))
            notified C u hu he held (yes z) = BLOCKED C hu he (NOT-FREE z held.1)
            notified C u hu he held (no z) = absurd (n (BLOCKED C hu he (NOT-NOTIFIED z held.1)))

    -- the places on o move up
    module _ (h : ℕ → ℕ) (o : ℕ) (moved : places_of s' ≡ map (moved_up h o) ws) where
      now_at : (q : ℕ) (w : Place) → get_elem? ws q ≡ some w → get_elem? (places_of s') q ≡ some (moved_up h o w)
      now_at q w hw = ap (λ (l : List Place). get_elem? l q) moved ∙ mapped_at (moved_up h o) ws q w hw

      -- those of other queues stay
      beside : (a q : ℕ) → (o ≡ a → ⊥) → Awaits s a q → Awaits s' a q
      beside a q d k =
          let v = queued a q k in
          let n : o ≡ v.0.object → ⊥ = λ z. d (z ∙ sym v.2.0) in
          awaits' a q (
            moved_up h o v.0,
            now_at q v.0 v.1,
            (v.2.0 ∙ sym (moved_object h o v.0), along (λ (n : ℕ). 0 < n) (sym (moved_other h o v.0 n)) v.2.1),
          )

      -- one whose number becomes 0 is woken, and no other
      woken : (q : ℕ) (w : Place) → get_elem? ws q ≡ some w → In o w → h w.number ≡ 0 → Awaits s' o q → ⊥
      woken q w hw i z k =
          let v = queued' o q k in
          let b : some (moved_up h o w) ≡ some v.0 = sym (now_at q w hw) ∙ v.1 in
          let c : moved_up h o w ≡ v.0 = cc in
          omega (arith, v.2.1, ap (λ (y : Place). y.number) c, moved_number h o w i.0, z)

      waits_on : (q : ℕ) (w : Place) → get_elem? ws q ≡ some w → In o w → 0 < h w.number → Awaits s' o q
      waits_on q w hw i z =
          awaits' o q (moved_up h o w, now_at q w hw, (i.0 ∙ sym (moved_object h o w), along (λ (n : ℕ). 0 < n) (sym (moved_number h o w i.0)) z))

    notify_wakes : (o : ℕ) → Signals s p Signal.notify o → (a q : ℕ) → Woken s s' a q ↔ ((a ≡ o) × Longest x o q)
    notify_wakes o h a q = (there, back)
      where
        moved : places_of s' ≡ map (moved_up pred o) ws
        moved = after_notify g s p m o h

        first_only : (w : Place) → get_elem? ws q ≡ some w → In o w → (Awaits s' o q → ⊥) → (n : ℕ) → w.number ≡ n → w.number ≡ 1
        first_only w hw i k zero z = absurd (omega (arith, i.1, z))
        first_only w hw i k (suc zero) z = z
        first_only w hw i k (suc (suc n)) z = absurd (k (waits_on pred o moved q w hw i (rw z (omega arith))))

        longest : Awaits s o q → (Awaits s' o q → ⊥) → Longest x o q
        longest b k = let v = queued o q b in first_longest o q v.0 v.1 v.2 (first_only v.0 v.1 v.2 k v.0.number refl)

        there : Woken s s' a q → (a ≡ o) × Longest x o q
        there (b, k) = go (ℕ_discrete o a)
          where
            go : Dec (o ≡ a) → (a ≡ o) × Longest x o q
            go (yes d) = (sym d, longest (rw d b) (rw d k))
            go (no d) = absurd (k (beside pred o moved a q d b))

        back : (a ≡ o) × Longest x o q → Woken s s' a q
        back (d, L) = let f = longest_first o q L in rw d (L.waits, woken pred o moved q f.0 f.1 f.2 (ap pred f.3))

    notify_all_wakes : (o : ℕ) → Signals s p Signal.notify_all o → (a q : ℕ) → Woken s s' a q ↔ ((a ≡ o) × Awaits s o q)
    notify_all_wakes o h a q = (there, back)
      where
        moved : places_of s' ≡ map (moved_up all o) ws
        moved = after_notify_all g s p m o h

        there : Woken s s' a q → (a ≡ o) × Awaits s o q
        there (b, k) = go (ℕ_discrete o a)
          where
            go : Dec (o ≡ a) → (a ≡ o) × Awaits s o q
            go (yes d) = (sym d, rw d b)
            go (no d) = absurd (k (beside all o moved a q d b))

        back : (a ≡ o) × Awaits s o q → Woken s s' a q
        back (d, b) = let v = queued o q b in rw d (b, woken all o moved q v.0 v.1 v.2 refl)

    waits_behind : (o : ℕ) → Signals s p Signal.wait o
        → Awaits s' o p × ((q : ℕ) (t u : Thread) → Awaits s o q → get_elem? s'.threads p ≡ some t → get_elem? s'.threads q ≡ some u
        → u.place.number < t.place.number)
    unfolding last_place
    waits_behind o h = (awaits' o p (last_place o ws, now, (refl, omega arith)), before)
      where
        moved : places_of s' ≡ change_at ws p (λ y. last_place o ws)
        moved = after_wait g s p m o h

        now : get_elem? (places_of s') p ≡ some (last_place o ws)
        now = let w = mover_at g s p Q m in ap (λ (l : List Place). get_elem? l p) moved ∙ change_same ws p (λ y. last_place o ws) w.0 w.1

        before : (q : ℕ) (t u : Thread) → Awaits s o q → get_elem? s'.threads p ≡ some t → get_elem? s'.threads q ≡ some u
            → u.place.number < t.place.number
        before q t u a ht hu =
            let v = queued o q a in
            let w = mover_at g s p Q m in
            let d : p ≡ q → ⊥ = λ c. not_mover w.0 v.0 (sym w.1 ∙ ap (get_elem? ws) c ∙ v.1) w.2 v.2.1 in
            let b : some u.place ≡ some v.0 = sym (mapped_at place_of s'.threads q u hu) ∙ ap (λ (l : List Place). get_elem? l q) moved
            ∙ change_other ws p _ q d ∙ v.1 in
            let c : some t.place ≡ some (last_place o ws) = sym (mapped_at place_of s'.threads p t ht) ∙ now in
            let y : u.place ≡ v.0 = cc in
            let z : t.place ≡ last_place o ws = cc in
            omega (arith, within ws Q.line o q v.0 v.1 v.2, ap (λ (k : Place). k.number) y, ap (λ (k : Place). k.number) z)
          where
            not_mover : (a b : Place) → some a ≡ some b → a.number ≡ 0 → 0 < b.number → ⊥
            not_mover a b k z l = let j : a ≡ b = cc in omega (arith, z, l, ap (λ (y : Place). y.number) j)

  pub queueing : Queueing x
  queueing = record {
    line = in_line x;
    lower_earlier = lower_earlier;
    some_longest = some_longest;
    notify_wakes = λ p R e s' m. notify_wakes p R e s' m;
    notify_all_wakes = λ p R e s' m. notify_all_wakes p R e s' m;
    nothing_else_wakes = λ p R e s' m. nothing_else_wakes p R e s' m;
    woken_kept_out = λ p R e s' m. woken_kept_out p R e s' m;
    waits_behind = λ p R e s' m. waits_behind p R e s' m;
  }

-- of every run of an accepted plan
pub plan_queueing : (b : List ℕ) (h : refusal b ≡ none) (ps : List ℕ) → Queueing (plan_executes b h ps)
plan_queueing b h ps = queueing (program_of b) (well_formed b h) (plan_executes b h ps)
