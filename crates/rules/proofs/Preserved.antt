-- Every rule keeps the invariant. Assumes nothing.
use Prim.Native.Nat.{ℕ, ◌+◌, ◌<◌}
use native.Mathlib.Omega.{arith}
use native.Mathlib.Decide.{ℕ_discrete}
use mathlib.Core.Path.{◌≡◌, refl, sym, ap, ◌∙◌, subst as along}
use mathlib.Core.Bool.{Bool, true, false, true≢false, cond}
use mathlib.Core.List.{List, [], ◌∷◌}
use mathlib.Core.Logic.{inl, inr}
use mathlib.Core.Option.{Option, some}
use lib.ListN.{length, get_elem?}
use lib.Dec.{eqb}
use Rattle.run_keys.specs.Keys.{Keys, empty, singleton, union, is_empty}
use Rattle.plan_packed.specs.Syntax.{Signal, Expression, Condition, Arguments, literal, bind, bind_parameters, substitute, Program, Procedure, bool, sequence}
use Rattle.plan_packed.specs.Slots.{bound}
use Rattle.rules.specs.Context.{Context, Contextᶜ, Focus, focus, top, here, hold, plug, plugᶜ, Redex, Redexᶜ, redex_expression, redex_condition, literals}
use Rattle.rules.specs.State.{Cell, cell, Thread, State, fresh_object, lookup, monitor, store, store_monitor, add_object, gain, become, add_thread, forked}
use Rattle.rules.specs.State.{use_key, enqueue, signalled, thread_of, Numbered}
use Rattle.log_records.specs.Record.{Record}
use Rattle.rules.specs.Rules.{Rule, Converts, E-CALL, E-LET, E-IF, E-WHILE, E-NEW, E-READ, E-WRITE, E-READV, E-WRITEV, E-FORK, E-JOIN, E-RE-ENTER}
use Rattle.rules.specs.Rules.{E-ACQUIRE, E-RELEASE, E-WAIT, E-WAKE, E-NOTIFY, E-NOTIFYALL, Convertsᶜ, E-NOTNOTTRUE, E-ANDTRUE, E-ANDFALSE, E-EQUALTRUE}
use Rattle.rules.specs.Rules.{E-EQUALFALSE, Moves, EVAL, EVALᶜ}
use Rattle.plan_packed.proofs.WellFormed.{WellFormedProgram, unbound}
use Rattle.rules.proofs.Closing.{more, filled, covers_one, covers_params}
use Rattle.rules.proofs.Placed.{Landed, Text, Textᶜ, Around, Ready, Readyᶜ, Good, held, holds, pending, pendingᶜ, GivesUp, GivenUp, rise, riseᶜ}
use Rattle.rules.proofs.StateLaws.{inside, added_old, change_same, lock_same, lock_other, found_thread}
use Rattle.rules.proofs.Invariant.{In, Once, owed, held_by, Sound, Inv, inv_store, inv_key, inv_lock, length_new, inv_new, inv_gain, inv_become}
use Rattle.rules.proofs.Invariant.{inv_thread, inv_relocated}
use Rattle.rules.proofs.Relocated.{is_there, relocated_become, enqueue_relocated, signalled_relocated}
use Rattle.rules.proofs.FocusPlug.{found, foundᶜ}

-- the thread after a gain, whatever it counts
abbrev pub gained : Thread → Keys → (Keys → ℕ) → Thread
gained t W count = record { self = t.self; expression = t.expression; keys = union W t.keys; learnt = t.learnt + count t.keys; place = t.place }

-- where the mover stands, after what the rule did to the rest
pub gained_at : (s : State) (p : ℕ) (t : Thread) → get_elem? s.threads p ≡ some t → (s₁ : State) (W : Keys) (count : Keys → ℕ) → s₁.threads ≡ s.threads
    → get_elem? (gain s₁ p W count).threads p ≡ some (gained t W count)
unfolding gain
gained_at s p t ht s₁ W count e = change_same s₁.threads p _ t (rw e ht)

-- thread p, which is t, is about to move x in K
module _ (g : Program) (s : State) (p : ℕ) (t : Thread) (K : Context) (I : Inv g s) (at : get_elem? s.threads p ≡ some t) (x : Redex)
    (h : t.expression ≡ plug K (redex_expression x)) where
  pub seen : focus top t.expression ≡ here K x
  seen = ap (focus top) h ∙ found K x

  pub placed : Around g (length s.objects) K × Ready g (length s.objects) x
  placed = along (Good g (length s.objects)) seen (I.each p t at).good

  pub owes : owed t ≡ held x (pending K)
  owes = ap holds seen

  -- it has given up no monitor
  abbrev pub Keeping : Type 0
  Keeping = (o : ℕ) → GivesUp x o → ⊥

  pub owing : Keeping → (o : ℕ) → In o (held x (pending K)) → monitor s o ≡ some (held_by t)
  owing w o i = (I.each p t at).held o (rw owes i) (λ z. w o (rw seen at z))

  pub owing_once : Once (held x (pending K))
  owing_once = rw owes at (I.each p t at).once

  pub settle : Keeping → (e : Expression) → held x (pending K) ≡ pending K → Text g (length s.objects) e → Inv g (become s p (plug K e))
  settle w e q c =
      let l = rise g (length s.objects) K e placed.0 c in
      inv_become g s p (plug K e) t (pending K) I at l.good l.theirs (λ o i n. owing w o (rw q i)) (rw q at owing_once)

module _ (g : Program) (P : WellFormedProgram g) (s : State) (I : Inv g s) (p : ℕ) (t : Thread) (ht : get_elem? s.threads p ≡ some t) (K : Context) where
  abbrev N : ℕ
  N = length s.objects

  -- ---- what a rule leaves is text

  pub text_call : (m : ℕ) (os : List ℕ) (d : Procedure) → get_elem? g.procedures m ≡ some d → d.parameters ≡ length os
      → t.expression ≡ plug K (Expression.call m (literals os Arguments.end))
      → Text g N (substitute (bind_parameters os) d.body)
  unfolding redex_expression
  text_call m os d hd hp he =
      filled g N (bind_parameters os) _ unbound (covers_params N d.parameters os (placed g s p t K I ht (Redex.call m os) he).1.1 hp) d.body
      (more g 1 N I.null_there _ d.body (P.bodies m d hd))

  pub text_let : (x : Option ℕ) (o : ℕ) (e : Expression) → t.expression ≡ plug K (Expression.let_in x (literal o) e) → Text g N (substitute (bind x o) e)
  unfolding redex_expression bound
  text_let x o e he = let pl = placed g s p t K I ht (Redex.let_in x o e) he in filled g N (bind x o) _ unbound (covers_one N x o pl.1.0) e pl.1.1

  choose_text : (b : Bool) (e e' : Expression) → Text g N e → Text g N e' → Text g N (cond b e e')
  choose_text true e e' h k = h
  choose_text false e e' h k = k

  pub text_if : (b : Bool) (e e' : Expression) → t.expression ≡ plug K (Expression.if (bool b) e e') → Text g N (cond b e e')
  unfolding redex_expression
  text_if b e e' he = let pl = placed g s p t K I ht (Redex.if b e e') he in choose_text b e e' pl.1.0 pl.1.1

  pub text_while : (c : Condition) (e : Expression) → t.expression ≡ plug K (Expression.while c e)
      → Text g N (Expression.if c (sequence e (Expression.while c e)) (literal 0))
  unfolding redex_expression sequence bound
  text_while c e he = let pl = placed g s p t K I ht (Redex.while c e) he in (pl.1.0, (pl.1.1, (pl.1.0, pl.1.1)), I.null_there)

  -- the value of a thread that has become one
  pub value_there : (o v : ℕ) (q : Numbered) → thread_of 0 s.threads o ≡ some q → q.thread.expression ≡ literal v → v < N
  unfolding focus
  value_there o v q h l = let j =
      found_thread s.threads 0 o q h in along (λ (e : Expression). Good g N (focus top e)) l (I.each j.0 q.thread j.2).good

  -- ---- the rules

  -- no thread has to release a monitor that is free
  free_of : (o : ℕ) (c : Cell) → monitor s o ≡ some c → is_empty c.keys ≡ false → (q : ℕ) (u : Thread) → get_elem? s.threads q ≡ some u → In o (owed u)
      → (GivenUp (focus top u.expression) o → ⊥) → ⊥
  unfolding is_empty
  free_of o c m e q u hu i n =
      let k : some c ≡ some (held_by u) = sym m ∙ (I.each q u hu).held o i n in
      let j : c ≡ held_by u = cc in
      let z : false ≡ true = sym e ∙ ap (λ (y : Cell). eqb y.keys 0) j in
      true≢false cc

  kept_acquire : (o : ℕ) (e : Expression) (c : Cell) (W : Keys) (count : Keys → ℕ) → monitor s o ≡ some c → is_empty c.keys ≡ false
      → t.expression ≡ plug K (Expression.synch (literal o) e)
      → Inv g (become (gain (store_monitor s o (cell empty t.self)) p W count) p (plug K (Expression.hold o e)))
  unfolding redex_expression plug gain store_monitor monitor
  kept_acquire o e c W count m f he =
      inv_become g s₂ p (plug (hold K o) e) (gained t W count) (o ∷ pending K) I₂ at₂ landed.good landed.theirs (λ a i n. mine a i)
      (first, owing_once g s p t K I ht (Redex.synch o e) he)
    where
      s₁ : State
      s₁ = store_monitor s o (record { keys = empty; value = t.self })

      s₂ : State
      s₂ = gain s₁ p W count

      I₁ : Inv g s₁
      I₁ = inv_lock g s o (held_by t) c I m (I.each p t ht).self_there (free_of o c m f)

      I₂ : Inv g s₂
      I₂ = inv_gain g s₁ p W count t I₁ ht

      at₂ : get_elem? s₂.threads p ≡ some (gained t W count)
      at₂ = gained_at s p t ht s₁ W count refl

      pl : Around g (length s₂.objects) K × Ready g (length s₂.objects) (Redex.synch o e)
      pl = placed g s₂ p (gained t W count) K I₂ at₂ (Redex.synch o e) he

      landed : Landed g (length s₂.objects) (o ∷ pending K) (focus top (plug (hold K o) e))
      landed = rise g (length s₂.objects) (hold K o) e (pl.1.0, pl.0) pl.1.1

      first : In o (pending K) → ⊥
      first i = free_of o c m f p t ht (rw (owes g s p t K I ht (Redex.synch o e) he) i) (λ z. rw (seen g s p t K I ht (Redex.synch o e) he) at z)

      mine : (a : ℕ) → In a (o ∷ pending K) → monitor s₂ a ≡ some (held_by t)
      mine a (inl q) = rw q (lock_same s o (held_by t) c m)
      mine a (inr i) = lock_other s o (held_by t) a (λ q. first (rw q i)) ∙ owing g s p t K I ht (Redex.synch o e) he (λ o z. z) a i

  -- a move that gains some keys, whichever they are and however they count
  settle_gain : (W : Keys) (count : Keys → ℕ) (x : Redex) → ((o : ℕ) → GivesUp x o → ⊥) → (v : ℕ) → t.expression ≡ plug K (redex_expression x)
      → held x (pending K) ≡ pending K → v < N → Inv g (become (gain s p W count) p (plug K (literal v)))
  unfolding gain
  settle_gain W count x w v he q b =
      settle g (gain s p W count) p (gained t W count) K (inv_gain g s p W count t I ht) (gained_at s p t ht s W count refl) x he w (literal v) q b

  -- a plain write: a new key, stored and learnt
  kept_write : (o f v : ℕ) (c : Cell) (count : Keys → ℕ) → lookup s o f ≡ some c → t.expression ≡ plug K (redex_expression (Redex.write o f v))
      → Inv g (become (gain (store (use_key s) o f (cell (singleton s.next_key) v)) p (singleton s.next_key) count) p (plug K (literal v)))
  unfolding redex_expression store use_key lookup gain
  kept_write o f v c count h he =
      let s₁ = store (use_key s) o f (record { keys = singleton s.next_key; value = v }) in
      let I₁ = inv_store g (use_key s) o f (record { keys = singleton s.next_key; value = v }) _ (inv_key g s I) h
      (placed g s p t K I ht (Redex.write o f v) he).1.3 in
      let s₂ = gain s₁ p (singleton s.next_key) count in
      let t₂ = gained t (singleton s.next_key) count in
      let I₂ = inv_gain g s₁ p (singleton s.next_key) count t I₁ ht in
      let at₂ = gained_at s p t ht s₁ (singleton s.next_key) count refl in
      settle g s₂ p t₂ K I₂ at₂ (Redex.write o f v) he (λ o z. z) (literal v) refl (placed g s₂ p t₂ K I₂ at₂ (Redex.write o f v) he).1.3

  -- a write to a field, with whichever keys
  settle_write : (d : Cell) (o f : ℕ) (c : Cell) → lookup s o f ≡ some c → t.expression ≡ plug K (redex_expression (Redex.write o f d.value))
      → Inv g (become (store s o f d) p (plug K (literal d.value)))
  unfolding store
  settle_write d o f c h he =
      let I₁ = inv_store g s o f d c I h (placed g s p t K I ht (Redex.write o f d.value) he).1.3 in
      settle g (store s o f d) p t K I₁ ht (Redex.write o f d.value) he (λ o z. z) (literal d.value) refl
      (placed g (store s o f d) p t K I₁ ht (Redex.write o f d.value) he).1.3

  kept_release : (o v : ℕ) → monitor s o ≡ some (record { keys = empty; value = t.self }) → t.expression ≡ plug K (Expression.hold o (literal v))
      → Inv g (become (store_monitor s o (record { keys = t.keys; value = 0 })) p (plug K (literal v)))
  unfolding redex_expression store_monitor become
  kept_release o v m he = inv_lock g s₁ o (record { keys = t.keys; value = 0 }) (held_by t) I₁ m₁ I.null_there alone
    where
      s₁ : State
      s₁ = become s p (plug K (literal v))

      m₁ : monitor s₁ o ≡ some (held_by t)
      m₁ = unfold monitor in m

      pl : Around g N K × Ready g N (Redex.hold o v)
      pl = placed g s p t K I ht (Redex.hold o v) he

      once : Once (o ∷ pending K)
      once = owing_once g s p t K I ht (Redex.hold o v) he

      landed : Landed g N (pending K) (focus top (plug K (literal v)))
      landed = rise g N K (literal v) pl.0 pl.1.1

      I₁ : Inv g s₁
      I₁ = inv_become g s p (plug K (literal v)) t (pending K) I ht landed.good landed.theirs
          (λ a i n. owing g s p t K I ht (Redex.hold o v) he (λ o z. z) a (inr i)) once.1

      at₁ : get_elem? s₁.threads p ≡ some (record { self = t.self; expression = plug K (literal v); keys = t.keys; learnt = t.learnt; place = t.place })
      at₁ = change_same s.threads p _ t ht

      -- it was pending once
      alone : (q : ℕ) (u : Thread) → get_elem? s₁.threads q ≡ some u → In o (owed u) → (GivenUp (focus top u.expression) o → ⊥) → ⊥
      alone q u hu i n = go (ℕ_discrete p q)
        where
          here' : monitor s₁ o ≡ some (held_by u)
          here' = (I₁.each q u hu).held o i n

          go : Dec (p ≡ q) → ⊥
          go (yes e) =
              let k : some (record { self = t.self; expression = plug K (literal v); keys = t.keys; learnt = t.learnt; place = t.place }) ≡ some u =
              sym at₁ ∙ ap (λ (a : ℕ). get_elem? s₁.threads a) e ∙ hu in
              let j : record { self = t.self; expression = plug K (literal v); keys = t.keys; learnt = t.learnt; place = t.place } ≡ u = cc in
              once.0 (rw landed.theirs at (along (λ (w : Thread). In o (owed w)) (sym j) i))
          go (no e) =
              let k : some (held_by t) ≡ some (held_by u) = sym m₁ ∙ here' in
              let j : held_by t ≡ held_by u = cc in
              e (I₁.apart p q _ u at₁ hu (ap (λ (c : Cell). c.value) j))

  -- a wait leaves the monitor, which a hold has still to release, to others, whatever it stores there
  kept_wait : (o : ℕ) (c : Cell) → monitor s o ≡ some (held_by t) → t.expression ≡ plug K (Expression.signal Signal.wait (literal o)) → c.value < N
      → Inv g (become (enqueue (store_monitor s o c) p o) p (plug K (Expression.waiting o)))
  unfolding redex_expression store_monitor become enqueue
  kept_wait o c m he there =
      inv_relocated g (store_monitor s₁ o c) _ (relocated_become s.threads _ (enqueue_relocated (store_monitor s o c) p o) p (plug K (Expression.waiting o)))
      (inv_lock g s₁ o c (held_by t) I₁ m₁ there alone)
    where
      s₁ : State
      s₁ = become s p (plug K (Expression.waiting o))

      m₁ : monitor s₁ o ≡ some (held_by t)
      m₁ = unfold monitor in m

      pl : Around g N K × Ready g N (Redex.signal Signal.wait o)
      pl = placed g s p t K I ht (Redex.signal Signal.wait o) he

      now : focus top (plug K (Expression.waiting o)) ≡ here K (Redex.waiting o)
      now = found K (Redex.waiting o)

      I₁ : Inv g s₁
      I₁ = inv_become g s p (plug K (Expression.waiting o)) t (pending K) I ht (rw now (pl.0, pl.1)) (ap holds now)
          (λ a i k. owing g s p t K I ht (Redex.signal Signal.wait o) he (λ o z. z) a i) (owing_once g s p t K I ht (Redex.signal Signal.wait o) he)

      t₁ : Thread
      t₁ = record { self = t.self; expression = plug K (Expression.waiting o); keys = t.keys; learnt = t.learnt; place = t.place }

      at₁ : get_elem? s₁.threads p ≡ some t₁
      at₁ = change_same s.threads p _ t ht

      -- no other thread holds it, and this one has given it up
      alone : (q : ℕ) (u : Thread) → get_elem? s₁.threads q ≡ some u → In o (owed u) → (GivenUp (focus top u.expression) o → ⊥) → ⊥
      alone q u hu i k = go (ℕ_discrete p q)
        where
          go : Dec (p ≡ q) → ⊥
          go (yes e) =
              let f : some t₁ ≡ some u = sym at₁ ∙ ap (λ (a : ℕ). get_elem? s₁.threads a) e ∙ hu in
              let j : t₁ ≡ u = cc in
              along (λ (w : Thread). GivenUp (focus top w.expression) o → ⊥) (sym j) k (rw now refl)
          go (no e) =
              let f : some (held_by t) ≡ some (held_by u) = sym m₁ ∙ (I₁.each q u hu).held o i k in
              let j : held_by t ≡ held_by u = cc in
              e (I₁.apart p q _ u at₁ hu (ap (λ (c : Cell). c.value) j))

  -- a wake takes it again
  kept_wake : (o : ℕ) (c : Cell) (W : Keys) (count : Keys → ℕ) → monitor s o ≡ some c → is_empty c.keys ≡ false
      → t.expression ≡ plug K (Expression.waiting o)
      → Inv g (become (gain (store_monitor s o (cell empty t.self)) p W count) p (plug K (literal 0)))
  unfolding redex_expression gain store_monitor monitor
  kept_wake o c W count m f he =
      inv_become g s₂ p (plug K (literal 0)) (gained t W count) (pending K) I₂ at₂ landed.good landed.theirs (λ a i n. mine a i (ℕ_discrete o a))
      (owing_once g s p t K I ht (Redex.waiting o) he)
    where
      s₁ : State
      s₁ = store_monitor s o (held_by t)

      s₂ : State
      s₂ = gain s₁ p W count

      I₁ : Inv g s₁
      I₁ = inv_lock g s o (held_by t) c I m (I.each p t ht).self_there (free_of o c m f)

      I₂ : Inv g s₂
      I₂ = inv_gain g s₁ p W count t I₁ ht

      at₂ : get_elem? s₂.threads p ≡ some (gained t W count)
      at₂ = gained_at s p t ht s₁ W count refl

      pl : Around g (length s₂.objects) K × Ready g (length s₂.objects) (Redex.waiting o)
      pl = placed g s₂ p (gained t W count) K I₂ at₂ (Redex.waiting o) he

      landed : Landed g (length s₂.objects) (pending K) (focus top (plug K (literal 0)))
      landed = rise g (length s₂.objects) K (literal 0) pl.0 I₂.null_there

      mine : (a : ℕ) → In a (pending K) → Dec (o ≡ a) → monitor s₂ a ≡ some (held_by t)
      mine a i (yes q) = rw (← q) (lock_same s o (held_by t) c m)
      mine a i (no q) =
          lock_other s o (held_by t) a q
          ∙ (I.each p t ht).held a (rw (owes g s p t K I ht (Redex.waiting o) he) i) (λ z. q (sym (rw (seen g s p t K I ht (Redex.waiting o) he) at z)))

  -- a notify changes places alone
  kept_signal : (h : ℕ → ℕ) (k : Signal) (o : ℕ) → t.expression ≡ plug K (redex_expression (Redex.signal k o))
      → Inv g (become (signalled h s o) p (plug K (literal 0)))
  unfolding signalled
  kept_signal h k o he =
      let w = is_there s.threads _ (signalled_relocated h s o) p t ht in
      settle g (signalled h s o) p _ K (inv_relocated g s _ (signalled_relocated h s o) I) w.1 (Redex.signal k o) he (λ o z. z) (literal 0) refl
      I.null_there

  kept_fork : (e : Expression) → t.expression ≡ plug K (Expression.fork e)
      → Inv g (become (add_thread (add_object s (fresh_object [])) (forked s t e)) p (plug K (literal (length s.objects))))
  unfolding redex_expression add_thread add_object plug
  kept_fork e he = settle g s₂ p t K I₂ at₂ (Redex.fork e) he (λ o z. z) (literal N) refl more_there
    where
      s₁ : State
      s₁ = add_object s (fresh_object [])

      u : Thread
      u = forked s t e

      s₂ : State
      s₂ = add_thread s₁ u

      I₁ : Inv g s₁
      I₁ = inv_new g s [] I

      more_there : N < length s₁.objects
      more_there = omega (arith, length_new s [])

      new : Sound g s₁ u
      new =
          let l = rise g (length s₁.objects) top e tt (placed g s₁ p t K I₁ ht (Redex.fork e) he).1 in
          record {
            good = l.good;
            self_there = more_there;
            held = λ o i n. absurd (none_owed l o i);
            once = one_none l;
          }
        where
          none_owed : Landed g (length s₁.objects) [] (focus top (plug top e)) → (o : ℕ) → In o (owed u) → ⊥
          none_owed l o i = rw l.theirs at i

          one_none : Landed g (length s₁.objects) [] (focus top (plug top e)) → Once (owed u)
          one_none l = rw l.theirs tt

      fresh_self : (q : ℕ) (w : Thread) → get_elem? s₁.threads q ≡ some w → w.self ≡ N → ⊥
      fresh_self q w hw e = let b = (I.each q w hw).self_there in omega arith

      I₂ : Inv g s₂
      I₂ = inv_thread g s₁ u I₁ new fresh_self

      at₂ : get_elem? s₂.threads p ≡ some t
      at₂ = added_old s.threads u p (inside s.threads p t ht) ∙ ht

  pub kept : {e : Expression} {R : Rule} {r : Option Record} {s' : State} {e' : Expression} → Converts g s p t e R r s' e' → t.expression ≡ plug K e
      → Inv g (become s' p (plug K e'))
  unfolding redex_expression store use_key add_object lookup
  kept (E-CALL {m} os {d} hd hp) he = settle g s p t K I ht (Redex.call m os) he (λ o z. z) _ refl (text_call m os d hd hp he)
  kept (E-LET {x} {o} {e}) he = settle g s p t K I ht (Redex.let_in x o e) he (λ o z. z) _ refl (text_let x o e he)
  kept (E-IF b {e} {e'}) he = settle g s p t K I ht (Redex.if b e e') he (λ o z. z) _ refl (text_if b e e' he)
  kept (E-WHILE {c} {e}) he = settle g s p t K I ht (Redex.while c e) he (λ o z. z) _ refl (text_while c e he)
  kept (E-NEW {fs}) he =
      settle g (add_object s (fresh_object fs)) p t K (inv_new g s fs I) ht (Redex.new fs) he (λ o z. z) (literal N) refl (omega (arith, length_new s fs))
  kept (E-READ w {o} {f} {v} h k vol) he = settle g s p t K I ht (Redex.read o f) he (λ o z. z) (literal v) refl (I.cells o f _ h)
  kept (E-WRITE w {o} {f} {u} {v} h k vol) he = kept_write o f v _ _ h he
  kept (E-READV {o} {f} {v} h vol) he = settle_gain _ _ (Redex.read o f) (λ o z. z) v he refl (I.cells o f _ h)
  kept (E-WRITEV {o} {f} h vol) he = settle_write _ o f _ h he
  kept (E-FORK {e}) he = kept_fork e he
  kept (E-JOIN {o} {v} {q} h l) he = settle_gain _ _ (Redex.join o) (λ o z. z) v he refl (value_there o v q h l)
  kept (E-RE-ENTER {o} {e} h) he = settle g s p t K I ht (Redex.synch o e) he (λ o z. z) e refl (placed g s p t K I ht (Redex.synch o e) he).1.1
  kept (E-ACQUIRE {o} {u} {W} {e} h n) he = kept_acquire o e (cell W u) _ _ h n he
  kept (E-RELEASE {o} {v} h) he = kept_release o v h he
  kept (E-WAIT {o} h) he = kept_wait o _ h he (omega (arith, I.null_there, (I.each p t ht).self_there))
  kept (E-WAKE {o} {u} {W} z h n) he = kept_wake o (cell W u) _ _ h n he
  kept (E-NOTIFY {o} h) he = kept_signal _ Signal.notify o he
  kept (E-NOTIFYALL {o} h) he = kept_signal _ Signal.notify_all o he

module _ (g : Program) (s : State) (I : Inv g s) (p : ℕ) (t : Thread) (ht : get_elem? s.threads p ≡ some t) (K : Contextᶜ) where
  settleᶜ : (x : Redexᶜ) (b : Condition) → t.expression ≡ plugᶜ K (redex_condition x) → (Readyᶜ g (length s.objects) x → Textᶜ g (length s.objects) b)
      → Inv g (become s p (plugᶜ K b))
  settleᶜ x b h c =
      let seen' = ap (focus top) h ∙ foundᶜ K x in
      let d = I.each p t ht in
      let pl = along (Good g (length s.objects)) seen' d.good in
      let l = riseᶜ g (length s.objects) K b pl.0 (c pl.1) in
      inv_become g s p (plugᶜ K b) t (pendingᶜ K) I ht l.good l.theirs
      (λ o i n. d.held o (rw seen' i) (λ z. rw seen' at z)) (along (λ (F : Focus). Once (holds F)) seen' d.once)

  pub keptᶜ : {c : Condition} {R : Rule} {c' : Condition} → Convertsᶜ c R c' → t.expression ≡ plugᶜ K c → Inv g (become s p (plugᶜ K c'))
  unfolding redex_condition bool
  keptᶜ E-NOTNOTTRUE he = settleᶜ Redexᶜ.not_false Condition.truth he (λ r. tt)
  keptᶜ (E-ANDTRUE {c}) he = settleᶜ (Redexᶜ.and true c) c he (λ r. r)
  keptᶜ (E-ANDFALSE {c}) he = settleᶜ (Redexᶜ.and false c) (Condition.not Condition.truth) he (λ r. tt)
  keptᶜ (E-EQUALTRUE {o} {o'} h) he = settleᶜ (Redexᶜ.equal o o') Condition.truth he (λ r. tt)
  keptᶜ (E-EQUALFALSE {o} {o'} h) he = settleᶜ (Redexᶜ.equal o o') (Condition.not Condition.truth) he (λ r. tt)

-- a move keeps the invariant
pub keeps : (g : Program) → WellFormedProgram g → (s : State) → Inv g s → (p : ℕ) {R : Rule} {r : Option Record} {s' : State} → Moves g s p R r s' → Inv g s'
keeps g P s I p (EVAL K {t} ht he c) = kept g P s I p t ht K c he
keeps g P s I p (EVALᶜ K {t} ht he c) = keptᶜ g s I p t ht K c he
