-- What a thread's state names has a small number: objects and values are below 32, fields below 32. Assumes nothing.
use Prim.Native.Nat.{ℕ, zero, suc, ◌<◌}
use native.Mathlib.Omega.{arith}
use mathlib.Core.Path.{◌≡◌, refl}
use mathlib.Core.Bool.{Bool, true, false, cond}
use mathlib.Core.List.{List}
use mathlib.Core.Option.{Option, some, none}
use lib.Dec.{eqb}
use lib.ListN.{length, get_elem?}
use Rattle.run_keys.specs.Keys.{subset, is_empty}
use Rattle.plan_packed.specs.Syntax.{Signal, Program, Procedure, Expression}
use Rattle.rules.specs.Context.{Context, Redex, Focus, value, here, hereᶜ, focus, top, as_literal}
use Rattle.rules.specs.State.{Cell, Thread, State, Numbered, lookup, monitor, thread_of}
use Rattle.rules.specs.Rules.{is_volatile}
use Rattle.rules.specs.Step.{Act, waits, sticks, lacks, does, call_act, read_act, write_act, join_value, join_act, synch_act, hold_act, signal_move, signal_act}
use Rattle.rules.specs.Step.{wake_act, act, around, attempt_at, attempt_by, attempt}
use Rattle.rules.specs.Run.{status, statuses_from}
use Rattle.rules.proofs.Placed.{Ready, Good}
use Rattle.rules.proofs.Invariant.{Inv}
use Rattle.rules.proofs.TidyRuns.{Roomy}
use Rattle.abi_thread_bytes.specs.Inner.Small.{SmallWait, SmallStuck, SmallStatus}
use Rattle.abi_outcome.specs.Inner.Small.{AllSmall}

abbrev SmallAct : Act → Type 0
SmallAct (waits w) = SmallWait w
SmallAct (sticks r) = SmallStuck r
SmallAct (lacks r) = (r.object < 256) × (r.field < 256)
SmallAct (does R r s e) = Unit {0}

either : (b : Bool) (x y : Act) → SmallAct x → SmallAct y → SmallAct (cond b x y)
either true x y h k = h
either false x y h k = k

module _ (g : Program) (s : State) (z : Roomy s) (p : ℕ) (t : Thread) where
  below : (o : ℕ) → o < length s.objects → o < 256
  below o h = let a = z.objects32 in omega arith

  small_read : (o f : ℕ) → o < 256 → f < 256 → (c : Option Cell) → SmallAct (read_act g s p t o f c)
  unfolding read_act
  small_read o f a b none = (a, b)
  small_read o f a b (some c) = either (is_volatile g f) _ _ tt (either (subset c.keys t.keys) _ _ tt (a, b))

  small_write : (o f v : ℕ) → o < 256 → f < 256 → (c : Option Cell) → SmallAct (write_act g s p t o f v c)
  unfolding write_act
  small_write o f v a b none = (a, b)
  small_write o f v a b (some c) = either (is_volatile g f) _ _ tt (either (subset c.keys t.keys) _ _ tt (a, b))

  small_value : (o : ℕ) → o < 256 → (q : Numbered) (v : Option ℕ) → SmallAct (join_value s p o q v)
  unfolding join_value
  small_value o a q none = a
  small_value o a q (some v) = tt

  small_join : (o : ℕ) → o < 256 → (q : Option Numbered) → SmallAct (join_act s p o q)
  unfolding join_act
  small_join o a none = a
  small_join o a (some q) = small_value o a q (as_literal q.thread.expression)

  small_synch : (o : ℕ) (e : Expression) → o < 256 → (c : Option Cell) → SmallAct (synch_act s p t o e c)
  unfolding synch_act
  small_synch o e a none = tt
  small_synch o e a (some c) = either (is_empty c.keys) _ _ (either (eqb c.value t.self) _ _ tt a) tt

  small_call : (os : List ℕ) (d : Option Procedure) → SmallAct (call_act s d os)
  unfolding call_act
  small_call os none = tt
  small_call os (some d) = either (eqb d.parameters (length os)) _ _ tt tt

  small_hold : (o v : ℕ) (c : Option Cell) → SmallAct (hold_act s p t o v c)
  unfolding hold_act
  small_hold o v none = tt
  small_hold o v (some c) = either (is_empty c.keys) _ _ (either (eqb c.value t.self) _ _ tt tt) tt

  small_signal : (k : Signal) (o : ℕ) → o < 256 → (c : Option Cell) → SmallAct (signal_act s p t k o c)
  unfolding signal_act signal_move
  small_signal k o a none = tt
  small_signal k o a (some c) = either (is_empty c.keys) _ _ (either (eqb c.value t.self) _ _ (move k) a) a
    where
      move : (k : Signal) → SmallAct (signal_move s p t o k)
      move Signal.wait = tt
      move Signal.notify = tt
      move Signal.notify_all = tt

  small_wake : (o n : ℕ) → o < 256 → (c : Option Cell) → SmallAct (wake_act s p t o n c)
  unfolding wake_act
  small_wake o n a none = tt
  small_wake o (suc n) a (some c) = a
  small_wake o zero a (some c) = either (is_empty c.keys) _ _ a tt

  small_act : (x : Redex) → Ready g (length s.objects) x → SmallAct (act g s p t x)
  unfolding act
  small_act (Redex.variable x) r = tt
  small_act (Redex.new fs) r = tt
  small_act (Redex.read o f) r = small_read o f (below o r.2) (omega (arith, r.1)) (lookup s o f)
  small_act (Redex.write o f v) r = small_write o f v (below o r.2) (omega (arith, r.1)) (lookup s o f)
  small_act (Redex.let_in x o e) r = tt
  small_act (Redex.if b e e') r = tt
  small_act (Redex.while c e) r = tt
  small_act (Redex.call m os) r = small_call os (get_elem? g.procedures m)
  small_act (Redex.fork e) r = tt
  small_act (Redex.join o) r = small_join o (below o r) (thread_of 0 s.threads o)
  small_act (Redex.synch o e) r = small_synch o e (below o r.0) (monitor s o)
  small_act (Redex.hold o v) r = small_hold o v (monitor s o)
  small_act (Redex.signal k o) r = small_signal k o (below o r) (monitor s o)
  small_act (Redex.waiting o) r = small_wake o t.place.number (below o r) (monitor s o)

  small_around : (K : Context) (a : Act) → SmallAct a → SmallStatus (status (around s p K a))
  unfolding around status
  small_around K (waits w) h = h
  small_around K (sticks r) h = h
  small_around K (lacks r) h = h
  small_around K (does R r s' e) h = tt

  small_at : (F : Focus) → Good g (length s.objects) F → SmallStatus (status (attempt_at g s p t F))
  unfolding attempt_at status
  small_at (value o) h = below o h
  small_at (here K x) h = small_around K (act g s p t x) (small_act x h.1)
  small_at (hereᶜ K x) h = tt

module _ (g : Program) (s : State) (I : Inv g s) (z : Roomy s) where
  pub small_thread : (p : ℕ) → SmallStatus (status (attempt g s p))
  unfolding attempt attempt_by status
  small_thread p = go (get_elem? s.threads p) refl
    where
      go : (t : Option Thread) → get_elem? s.threads p ≡ t → SmallStatus (status (attempt_by g s p t))
      go none h = tt
      go (some t) h = small_at g s z p t (focus top t.expression) (I.each p t h).good

  pub small_threads : (p n : ℕ) → AllSmall (statuses_from g s p n)
  unfolding statuses_from
  small_threads p zero = tt
  small_threads p (suc n) = (small_thread p, small_threads (suc p) n)
