-- A run stays within its room, and its records are tidy and no more than its picks. Assumes nothing.
use Prim.Native.Nat.{ℕ, suc, ◌<◌, ◌≤◌}
use native.Mathlib.Omega.{arith}
use mathlib.Core.Path.{◌≡◌, refl, sym, subst as along}
use mathlib.Core.Bool.{false}
use mathlib.Core.List.{List, []}
use mathlib.Core.Option.{Option, some, none}
use lib.ListN.{length, get_elem?}
use lib.Dec.{eqb}
use borrow.Author.Tests.{ne_eqb, le-ltb}
use Rattle.run_keys.specs.Keys.{Keys, singleton, empty}
use Rattle.plan_packed.specs.Syntax.{Signal, Program, Expression}
use Rattle.rules.specs.Context.{Context, focus, top, plug, redex_expression, Redex}
use Rattle.rules.specs.State.{Cell, Thread, State, start, fresh_object, store, store_monitor, add_object, gain, become, add_thread, forked, use_key, enqueue}
use Rattle.rules.specs.State.{signalled}
use Rattle.log_records.specs.Record.{Record}
use Rattle.rules.specs.Rules.{Rule, passed_on, LacksHere, LACKS-READ, LACKS-WRITE, Lacks, LACKS, Converts, E-CALL, E-LET, E-IF, E-WHILE, E-NEW, E-READ}
use Rattle.rules.specs.Rules.{E-WRITE, E-READV, E-WRITEV, E-FORK, E-JOIN, E-RE-ENTER, E-ACQUIRE, E-RELEASE, E-WAIT, E-WAKE, E-NOTIFY, E-NOTIFYALL}
use Rattle.rules.specs.Rules.{Moves, EVAL, EVALᶜ}
use Rattle.rules.specs.Room.{Room, no_room_before, no_room_after, no_room_for}
use Rattle.rules.specs.Run.{Run, logged, stopped, after_pass, after_move, play, log}
use Rattle.plan_packed.proofs.WellFormed.{WellFormedProgram}
use Rattle.log_records.proofs.Tidy.{Tidy, AllTidy}
use Rattle.rules.proofs.Placed.{Good}
use Rattle.rules.proofs.Relocated.{Relocated, with_threads, relocated_length, enqueue_relocated, signalled_relocated}
use Rattle.rules.proofs.StateLaws.{inside, length_added, change_length, found_thread}
use Rattle.rules.proofs.Invariant.{Inv}
use Rattle.rules.proofs.Preserved.{placed}
use Rattle.rules.specs.Execution.{Execution, ends, passes, lacks_key_lem, no_room_lem, moves}
use Rattle.rules.proofs.Executed.{Reachable, reachable_start, reachable_move, play_executes}
use Rattle.format.proofs.RefusalLaws.{both_none}
use Rattle.rules.proofs.RoomLaws.{room_for}

-- within the room: 8 threads, 32 objects, keys 0 to 255
pub record Roomy (s : State) : Type 0 where
  pub threads8 : length s.threads ≤ 8
  pub objects32 : length s.objects ≤ 32
  pub keys256 : s.next_key ≤ 256

pub roomy_become : (s : State) (p : ℕ) (e : Expression) → Roomy s → Roomy (become s p e)
unfolding become
roomy_become s p e z =
    let a = z.threads8 in
    record {
      threads8 = omega
          (arith, change_length s.threads p (λ x. record { self = x.self; expression = e; keys = x.keys; learnt = x.learnt; place = x.place }));
      objects32 = z.objects32;
      keys256 = z.keys256;
    }

roomy_gain : (s : State) (p : ℕ) (W : Keys) (n : Keys → ℕ) → Roomy s → Roomy (gain s p W n)
unfolding gain
roomy_gain s p W n z =
    let a = z.threads8 in
    record { threads8 = along (λ (n : ℕ). n ≤ 8) (sym (change_length s.threads p _)) a; objects32 = z.objects32; keys256 = z.keys256 }

roomy_store : (s : State) (o f : ℕ) (c : Cell) → Roomy s → Roomy (store s o f c)
unfolding store
roomy_store s o f c z =
    let a = z.objects32 in
    record { threads8 = z.threads8; objects32 = along (λ (n : ℕ). n ≤ 32) (sym (change_length s.objects o _)) a; keys256 = z.keys256 }

roomy_lock : (s : State) (o : ℕ) (c : Cell) → Roomy s → Roomy (store_monitor s o c)
unfolding store_monitor
roomy_lock s o c z =
    let a = z.objects32 in
    record { threads8 = z.threads8; objects32 = along (λ (n : ℕ). n ≤ 32) (sym (change_length s.objects o _)) a; keys256 = z.keys256 }

-- places alone change
roomy_relocated : (s : State) (us : List Thread) → Relocated s.threads us → Roomy s → Roomy (with_threads s us)
roomy_relocated s us r z =
    let a = z.threads8 in
    record { threads8 = omega (arith, relocated_length s.threads us r); objects32 = z.objects32; keys256 = z.keys256 }

nonzero : (f : ℕ) → 0 < f → eqb f 0 ≡ false
nonzero f h = ne_eqb f 0 (λ e. omega arith)

abbrev TidyOr : Option Record → Type 0
TidyOr none = Unit {0}
TidyOr (some r) = Tidy r

module _ (g : Program) (s : State) (I : Inv g s) (z : Roomy s) (p : ℕ) (t : Thread) (ht : get_elem? s.threads p ≡ some t) (K : Context) where
  three : p < 8
  three = let a = z.threads8 in let b = inside s.threads p t ht in omega arith

  five : (o : ℕ) → o < length s.objects → o < 32
  five o h = let a = z.objects32 in omega arith

  -- room before the move is enough after it
  fits : {e : Expression} {R : Rule} {r : Option Record} {s' : State} {e' : Expression} → Converts g s p t e R r s' e' → no_room_before s R ≡ none → Roomy s'
  unfolding no_room_before use_key add_object add_thread enqueue signalled
  fits (E-CALL os hd hp) l = z
  fits E-LET l = z
  fits (E-IF b) l = z
  fits E-WHILE l = z
  fits (E-NEW {fs}) l =
      let b = (room_for 32 (length s.objects) Room.object none l).0 in
      record { threads8 = z.threads8; objects32 = omega (arith, length_added s.objects (fresh_object fs)); keys256 = z.keys256 }
  fits (E-READ w h k vol) l = z
  fits (E-WRITE w {o} {f} {u} {v} h k vol) l =
      let b = (room_for 256 s.next_key Room.key none l).0 in
      roomy_gain (store (use_key s) o f (record { keys = singleton s.next_key; value = v })) p (singleton s.next_key) _
      (roomy_store (use_key s) o f (record { keys = singleton s.next_key; value = v })
      (record { threads8 = z.threads8; objects32 = z.objects32; keys256 = omega arith }))
  fits (E-READV {W = W} h vol) l = roomy_gain s p (passed_on g.version W) _ z
  fits (E-WRITEV {o} {f} h vol) l = roomy_store s o f _ z
  fits (E-FORK {e}) l =
      let b = room_for 8 (length s.threads) Room.thread _ l in
      let d = (room_for 32 (length s.objects) Room.object none b.1).0 in
      let c = b.0 in
      record {
        threads8 = omega (arith, length_added s.threads (forked s t e));
        objects32 = omega (arith, length_added s.objects (fresh_object []));
        keys256 = z.keys256;
      }
  fits (E-JOIN {q = q} h l') l = roomy_gain s p q.thread.keys _ z
  fits (E-RE-ENTER h) l = z
  fits (E-ACQUIRE {o} {W = W} h n) l =
      roomy_gain (store_monitor s o (record { keys = empty; value = t.self })) p W _ (roomy_lock s o (record { keys = empty; value = t.self }) z)
  fits (E-RELEASE {o} h) l = roomy_lock s o (record { keys = t.keys; value = 0 }) z
  fits (E-WAIT {o} h) l =
      let s₁ = store_monitor s o (record { keys = t.keys; value = 0 }) in
      roomy_relocated s₁ _ (enqueue_relocated s₁ p o) (roomy_lock s o (record { keys = t.keys; value = 0 }) z)
  fits (E-WAKE {o} {W = W} n h m) l =
      roomy_gain (store_monitor s o (record { keys = empty; value = t.self })) p W _ (roomy_lock s o (record { keys = empty; value = t.self }) z)
  fits (E-NOTIFY {o} h) l = roomy_relocated s _ (signalled_relocated _ s o) z
  fits (E-NOTIFYALL {o} h) l = roomy_relocated s _ (signalled_relocated _ s o) z

  tidy : {e : Expression} {R : Rule} {r : Option Record} {s' : State} {e' : Expression} → Converts g s p t e R r s' e' → t.expression ≡ plug K e
      → no_room_before s R ≡ none → TidyOr r
  unfolding no_room_before redex_expression focus
  tidy (E-CALL os hd hp) he l = tt
  tidy E-LET he l = tt
  tidy (E-IF b) he l = tt
  tidy E-WHILE he l = tt
  tidy (E-NEW {fs}) he l =
      let b = (room_for 32 (length s.objects) Room.object none l).0 in
      record { thread_below = three; object_below = b; field_below = omega arith; value_below = omega arith; columns = refl }
  tidy (E-READ w {o} {f} {v} h k vol) he l =
      let q = (placed g s p t K I ht (Redex.read o f) he).1 in
      record { thread_below = three; object_below = five o q.2; field_below = q.1; value_below = five v (I.cells o f _ h); columns = nonzero f q.0 }
  tidy (E-WRITE w {o} {f} {u} {v} h k vol) he l =
      let q = (placed g s p t K I ht (Redex.write o f v) he).1 in
      record { thread_below = three; object_below = five o q.2; field_below = q.1; value_below = five v q.3; columns = nonzero f q.0 }
  tidy (E-READV {o} {f} {v} h vol) he l =
      let q = (placed g s p t K I ht (Redex.read o f) he).1 in
      record { thread_below = three; object_below = five o q.2; field_below = q.1; value_below = five v (I.cells o f _ h); columns = nonzero f q.0 }
  tidy (E-WRITEV {o} {f} {u} {v} h vol) he l =
      let q = (placed g s p t K I ht (Redex.write o f v) he).1 in
      record { thread_below = three; object_below = five o q.2; field_below = q.1; value_below = five v q.3; columns = nonzero f q.0 }
  tidy (E-FORK {e}) he l =
      let b = room_for 8 (length s.threads) Room.thread _ l in
      let d = (room_for 32 (length s.objects) Room.object none b.1).0 in
      let c = b.0 in
      record {
        thread_below = three;
        object_below = d;
        field_below = omega arith;
        value_below = omega arith;
        columns =
            rw (le-ltb 7 (length s.threads) (omega arith));
      }
  tidy (E-JOIN {o} {v} {q} h l') he l =
      let j = found_thread s.threads 0 o q h in
      let i = inside s.threads j.0 q.thread j.2 in
      let a = z.threads8 in
      let w : v < length s.objects = along (λ (e : Expression). Good g (length s.objects) (focus top e)) l' (I.each j.0 q.thread j.2).good in
      let n : q.number < 8 = omega (arith, j.1) in
      record {
        thread_below = three;
        object_below = five o (placed g s p t K I ht (Redex.join o) he).1;
        field_below = omega arith;
        value_below =
            five v w;
        columns = le-ltb 7 q.number (omega arith);
      }
  tidy (E-RE-ENTER h) he l = tt
  tidy (E-ACQUIRE {o} {u} {W} {e} h n) he l =
      record {
        thread_below = three;
        object_below = five o (placed g s p t K I ht (Redex.synch o e) he).1.0;
        field_below = omega arith;
        value_below =
            omega arith;
        columns = refl;
      }
  tidy (E-RELEASE {o} {v} h) he l =
      record {
        thread_below = three;
        object_below = five o (placed g s p t K I ht (Redex.hold o v) he).1.0;
        field_below = omega arith;
        value_below =
            omega arith;
        columns = refl;
      }
  tidy (E-WAIT {o} h) he l = record {
    thread_below = three;
    object_below = five o (placed g s p t K I ht (Redex.signal Signal.wait o) he).1;
    field_below =
        omega arith;
    value_below = omega arith;
    columns = refl;
  }
  tidy (E-WAKE {o} z h n) he l =
      record {
        thread_below = three;
        object_below = five o (placed g s p t K I ht (Redex.waiting o) he).1;
        field_below = omega arith;
        value_below =
            omega arith;
        columns = refl;
      }
  tidy (E-NOTIFY h) he l = tt
  tidy (E-NOTIFYALL h) he l = tt

  tidy_lacks : {e : Expression} {r : Record} → LacksHere g s p t e r → t.expression ≡ plug K e → Tidy r
  unfolding redex_expression
  tidy_lacks (LACKS-READ w {o} {f} h k vol) he =
      let q = (placed g s p t K I ht (Redex.read o f) he).1 in
      record { thread_below = three; object_below = five o q.2; field_below = q.1; value_below = omega arith; columns = rw (nonzero f q.0) }
  tidy_lacks (LACKS-WRITE w {o} {f} {v = x} h k vol) he =
      let q = (placed g s p t K I ht (Redex.write o f x) he).1 in
      record { thread_below = three; object_below = five o q.2; field_below = q.1; value_below = five x q.3; columns = nonzero f q.0 }

-- a pick's move
pub tidy_move : (g : Program) (s : State) → Inv g s → Roomy s → (p : ℕ) {R : Rule} {r : Option Record} {s' : State} → Moves g s p R r s'
    → no_room_for R s p s' ≡ none → Roomy s' × TidyOr r
unfolding no_room_for
tidy_move g s I z p (EVAL K {t} {e} {e'} {R} {r} {s'} ht he c) l =
    let b = (both_none (no_room_before s R) (no_room_after s p (become s' p (plug K e'))) l).0 in
    (roomy_become s' p (plug K e') (fits g s I z p t ht K c b), tidy g s I z p t ht K c he b)
tidy_move g s I z p (EVALᶜ K {t} ht he k) l = (roomy_become s p _ z, tt)

pub tidy_lacking : (g : Program) (s : State) → Inv g s → Roomy s → (p : ℕ) {r : Record} → Lacks g s p r → Tidy r
tidy_lacking g s I z p (LACKS K {t} ht he w) = tidy_lacks g s I z p t ht K w he

tidy_logged : (r : Option Record) (L : List Record) → TidyOr r → AllTidy L → AllTidy (logged r L)
unfolding logged
tidy_logged none L a b = b
tidy_logged (some r) L a b = (a, b)

longer : (r : Option Record) (L : List Record) → length (logged r L) ≤ suc (length L)
unfolding logged
longer none L = omega arith
longer (some r) L = omega arith

-- the room left, the records, and their number
pub record TidyRun (ps : List ℕ) (r : Run) : Type 0 where
  pub roomy : Roomy r.final
  pub all_tidy : AllTidy (log r)
  pub few : length (log r) ≤ length ps

tidy_execution : (g : Program) → WellFormedProgram g → {s : State} {ps : List ℕ} {r : Run} → Reachable g s → Roomy s → Execution g s ps r → TidyRun ps r
unfolding log stopped after_pass after_move
tidy_execution g P I z ends = record { roomy = z; all_tidy = tt; few = omega arith }
tidy_execution g P I z (passes h x) = let d = tidy_execution g P I z x in record { roomy = d.roomy; all_tidy = d.all_tidy; few = omega arith }
tidy_execution g P I z (lacks_key_lem {s} {p} h) = record { roomy = z; all_tidy = (tidy_lacking g s I.invariant z p h, tt); few = omega arith }
tidy_execution g P I z (no_room_lem h e) = record { roomy = z; all_tidy = tt; few = omega arith }
tidy_execution g P I z (moves {s} {p = p} {r = r} {e = e} h k x) =
    let n = tidy_move g s I.invariant z p h k in
    let d = tidy_execution g P (reachable_move g P s p I h) n.0 x in
    record { roomy = d.roomy; all_tidy = tidy_logged e (log r) n.1 d.all_tidy; few = omega (arith, longer e (log r)) }

-- every run's records are tidy, and there are no more of them than picks
pub tidy_play : (g : Program) → WellFormedProgram g → (ps : List ℕ) → TidyRun ps (play g ps)
unfolding start
tidy_play g P ps = tidy_execution g P (reachable_start g P) (record { threads8 = omega arith; objects32 = omega arith; keys256 = omega arith })
    (play_executes g P ps)
