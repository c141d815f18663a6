-- In a state that keeps the invariant no thread is stuck but for document 01's reasons; the start keeps it. Assumes nothing.
use Prim.Native.Nat.{ℕ, zero, suc, ◌<◌}
use native.Mathlib.Omega.{arith}
use mathlib.Core.Path.{◌≡◌, refl, subst as along}
use mathlib.Core.Bool.{Bool, true, false, cond, true≢false}
use mathlib.Core.List.{List, []}
use mathlib.Core.Logic.{inl, inr}
use mathlib.Core.Option.{Option, some, none}
use lib.ListN.{length, get_elem?}
use lib.Dec.{eqb}
use borrow.Author.Tests.{eq-eqb}
use Rattle.run_keys.specs.Keys.{singleton, is_empty, subset}
use Rattle.plan_packed.specs.Syntax.{Signal, Expression, Arguments, Program}
use Rattle.rules.specs.Context.{Context, Focus, focus, top, value, here, hereᶜ, as_literal, Redex}
use Rattle.rules.specs.Queue.{awake}
use Rattle.rules.specs.State.{Cell, Thread, State, start, fresh, fresh_object, lookup, monitor, thread_of, Numbered}
use Rattle.rules.specs.Rules.{is_volatile}
use Rattle.rules.specs.Step.{Stuck, not_thread, missing_field, not_held, no_rule, Act, waits, sticks, lacks, does, call_act, read_act, write_act, join_act}
use Rattle.rules.specs.Step.{join_value, synch_act, hold_act, signal_move, signal_act, wake_act, act, AttemptOf, Attempt, around, attempt_at, attempt_by, attempt}
use Rattle.plan_packed.proofs.WellFormed.{WellFormedProgram, Callable}
use Rattle.rules.proofs.Placed.{Good, Ready, holds, held, pending, GivesUp, GivenUp}
use Rattle.rules.proofs.StateLaws.{monitor_there}
use Rattle.rules.proofs.Invariant.{In, held_by, Sound, Inv}
use Rattle.rules.proofs.Equivalence.{Unless}

-- not stuck for want of a rule
abbrev Known : Stuck → Type 0
Known (missing_field o f) = Unit {0}
Known (not_thread o) = Unit {0}
Known (not_held o) = Unit {0}
Known no_rule = ⊥

abbrev Fine : Act → Type 0
Fine (waits w) = Unit {0}
Fine (sticks r) = Known r
Fine (lacks r) = Unit {0}
Fine (does R r s e) = Unit {0}

abbrev pub Ruled : Attempt → Type 0
Ruled AttemptOf.absent = Unit {0}
Ruled (AttemptOf.finished v) = Unit {0}
Ruled (AttemptOf.waiting w) = Unit {0}
Ruled (AttemptOf.stuck r) = Known r
Ruled (AttemptOf.lacking r) = Unit {0}
Ruled (AttemptOf.moves m) = Unit {0}

pub unless_ruled : (r : Stuck) (A : Type 0) → Ruled (AttemptOf.stuck r) → Unless r A → A
unless_ruled (missing_field o f) A k h = h
unless_ruled (not_thread o) A k h = h
unless_ruled (not_held o) A k h = h
unless_ruled no_rule A k h = absurd k

either : (b : Bool) (x y : Act) → Fine x → Fine y → Fine (cond b x y)
either true x y h k = h
either false x y h k = k

module _ (g : Program) (s : State) (I : Inv g s) (p : ℕ) (t : Thread) (ht : get_elem? s.threads p ≡ some t) where
  fine_read : (o f : ℕ) (c : Option Cell) → Fine (read_act g s p t o f c)
  unfolding read_act
  fine_read o f none = tt
  fine_read o f (some c) = either (is_volatile g f) _ _ tt (either (subset c.keys t.keys) _ _ tt tt)

  fine_write : (o f v : ℕ) (c : Option Cell) → Fine (write_act g s p t o f v c)
  unfolding write_act
  fine_write o f v none = tt
  fine_write o f v (some c) = either (is_volatile g f) _ _ tt (either (subset c.keys t.keys) _ _ tt tt)

  fine_join₂ : (o : ℕ) (q : Numbered) (v : Option ℕ) → Fine (join_value s p o q v)
  unfolding join_value
  fine_join₂ o q none = tt
  fine_join₂ o q (some v) = tt

  fine_join : (o : ℕ) (q : Option (Numbered)) → Fine (join_act s p o q)
  unfolding join_act
  fine_join o none = tt
  fine_join o (some q) = fine_join₂ o q (as_literal q.thread.expression)

  fine_synch : (o : ℕ) (e : Expression) → o < length s.objects → Fine (synch_act s p t o e (monitor s o))
  unfolding synch_act
  fine_synch o e h = let m = monitor_there s o h in rw m.1 (either (is_empty m.0.keys) _ _ (either (eqb m.0.value t.self) _ _ tt tt) tt)

  fine_call : (m : ℕ) (os : List ℕ) → Callable g m (length os) → Fine (call_act s (get_elem? g.procedures m) os)
  unfolding call_act
  fine_call m os c = rw (c.1, eq-eqb c.0.parameters (length os) c.2) tt

  fine_hold : (o v : ℕ) → monitor s o ≡ some (held_by t) → Fine (hold_act s p t o v (monitor s o))
  unfolding hold_act is_empty
  fine_hold o v h = rw (h, eq-eqb t.self t.self refl) tt

  fine_move : (k : Signal) (o : ℕ) → Fine (signal_move s p t o k)
  unfolding signal_move
  fine_move Signal.wait o = tt
  fine_move Signal.notify o = tt
  fine_move Signal.notify_all o = tt

  fine_signal : (k : Signal) (o : ℕ) → o < length s.objects → Fine (signal_act s p t k o (monitor s o))
  unfolding signal_act
  fine_signal k o h = let m =
      monitor_there s o h in rw m.1 (either (is_empty m.0.keys) _ _ (either (eqb m.0.value t.self) _ _ (fine_move k o) tt) tt)

  fine_wake : (o n : ℕ) → o < length s.objects → Fine (wake_act s p t o n (monitor s o))
  unfolding wake_act
  fine_wake o zero h = let m = monitor_there s o h in rw m.1 (either (is_empty m.0.keys) _ _ tt tt)
  fine_wake o (suc n) h = let m = monitor_there s o h in rw m.1 tt

  fine : (x : Redex) → Ready g (length s.objects) x → ((o : ℕ) → In o (held x []) → monitor s o ≡ some (held_by t)) → Fine (act g s p t x)
  unfolding act
  fine (Redex.variable x) r h = r
  fine (Redex.new fs) r h = tt
  fine (Redex.read o f) r h = fine_read o f (lookup s o f)
  fine (Redex.write o f v) r h = fine_write o f v (lookup s o f)
  fine (Redex.let_in x o e) r h = tt
  fine (Redex.if b e e') r h = tt
  fine (Redex.while c e) r h = tt
  fine (Redex.call m os) r h = fine_call m os r.0
  fine (Redex.fork e) r h = tt
  fine (Redex.join o) r h = fine_join o (thread_of 0 s.threads o)
  fine (Redex.synch o e) r h = fine_synch o e r.0
  fine (Redex.hold o v) r h = fine_hold o v (h o (inl refl))
  fine (Redex.signal k o) r h = fine_signal k o r
  fine (Redex.waiting o) r h = fine_wake o t.place.number r

  fine_around : (K : Context) (a : Act) → Fine a → Ruled (around s p K a)
  unfolding around
  fine_around K (waits w) h = tt
  fine_around K (sticks r) h = h
  fine_around K (lacks r) h = tt
  fine_around K (does R r s' e) h = tt

  -- what the part itself owes is part of what the thread owes
  own_part : (x : Redex) (os : List ℕ) (o : ℕ) → In o (held x []) → In o (held x os)
  own_part (Redex.variable x) os o i = absurd i
  own_part (Redex.new fs) os o i = absurd i
  own_part (Redex.read a f) os o i = absurd i
  own_part (Redex.write a f v) os o i = absurd i
  own_part (Redex.let_in x a e) os o i = absurd i
  own_part (Redex.if b e e') os o i = absurd i
  own_part (Redex.while c e) os o i = absurd i
  own_part (Redex.call m vs) os o i = absurd i
  own_part (Redex.fork e) os o i = absurd i
  own_part (Redex.join a) os o i = absurd i
  own_part (Redex.synch a e) os o i = absurd i
  own_part (Redex.hold a v) os o (inl e) = inl e
  own_part (Redex.hold a v) os o (inr i) = absurd i
  own_part (Redex.signal k a) os o i = absurd i
  own_part (Redex.waiting a) os o i = absurd i

  own_kept : (x : Redex) (o : ℕ) → In o (held x []) → GivesUp x o → ⊥
  own_kept (Redex.variable x) o i z = z
  own_kept (Redex.new fs) o i z = z
  own_kept (Redex.read a f) o i z = z
  own_kept (Redex.write a f v) o i z = z
  own_kept (Redex.let_in x a e) o i z = z
  own_kept (Redex.if b e e') o i z = z
  own_kept (Redex.while c e) o i z = z
  own_kept (Redex.call m vs) o i z = z
  own_kept (Redex.fork e) o i z = z
  own_kept (Redex.join a) o i z = z
  own_kept (Redex.synch a e) o i z = z
  own_kept (Redex.hold a v) o i z = z
  own_kept (Redex.signal k a) o i z = z
  own_kept (Redex.waiting a) o i z = i

  fine_at : (F : Focus) → Good g (length s.objects) F → ((o : ℕ) → In o (holds F) → (GivenUp F o → ⊥) → monitor s o ≡ some (held_by t))
      → Ruled (attempt_at g s p t F)
  unfolding attempt_at
  fine_at (value o) h k = tt
  fine_at (here K x) h k = fine_around K (act g s p t x) (fine x h.1 (λ o i. k o (own_part x (pending K) o i) (own_kept x o i)))
  fine_at (hereᶜ K x) h k = tt

pub ruled : (g : Program) (s : State) → Inv g s → (p : ℕ) → Ruled (attempt g s p)
unfolding attempt attempt_by
ruled g s I p = go (get_elem? s.threads p) refl
  where
    go : (t : Option Thread) → get_elem? s.threads p ≡ t → Ruled (attempt_by g s p t)
    go none h = tt
    go (some t) h = let d = I.each p t h in fine_at g s I p t h (focus top t.expression) d.good d.held

-- ---- the start

pub inv_start : (g : Program) → WellFormedProgram g → Inv g start
unfolding start focus lookup monitor fresh_object
inv_start g P = record {
  null_there = omega arith;
  each = λ p t h. one p t h;
  apart = λ p q t u h k e. two p q t u h k;
  cells = λ o f c h. three o f c h;
  owners = λ o c h. four o c h;
}
  where
    one : (p : ℕ) (t : Thread) → get_elem? start.threads p ≡ some t → Sound g start t
    one zero t h =
        let e : record { self = 0; expression = Expression.call 0 Arguments.end; keys = singleton 0; learnt = 0; place = awake } ≡ t = cc in
        along (Sound g start) e (record { good = (tt, (P.main, tt)); self_there = omega arith; held = λ o i n. absurd i; once = tt })
    one (suc p) t h = absurd (true≢false cc)

    two : (p q : ℕ) (t u : Thread) → get_elem? start.threads p ≡ some t → get_elem? start.threads q ≡ some u → p ≡ q
    two zero zero t u h k = refl
    two zero (suc q) t u h k = absurd (true≢false cc)
    two (suc p) q t u h k = absurd (true≢false cc)

    three : (o f : ℕ) (c : Cell) → lookup start o f ≡ some c → c.value < 1
    three zero f c h = absurd (true≢false cc)
    three (suc o) f c h = absurd (true≢false cc)

    four : (o : ℕ) (c : Cell) → monitor start o ≡ some c → c.value < 1
    four zero c h = let e : fresh ≡ c = cc in along (λ (z : Cell). z.value < 1) e (omega arith)
    four (suc o) c h = absurd (true≢false cc)
