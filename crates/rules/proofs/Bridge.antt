-- Every rule acts on the keys as its record says by the plan's version, and writes a record that the key machine can write. Assumes nothing.
use Prim.Native.Nat.{ℕ}
use native.Mathlib.Omega.{arith}
use mathlib.Core.Path.{◌≡◌, refl, sym, ap, ap₂, ◌∙◌, subst as along}
use mathlib.Core.Bool.{Bool, true, false, ◌||◌, or_comm}
use mathlib.Core.List.{List, [], ◌∷◌}
use mathlib.Core.Logic.{◌⊎◌, inl, inr}
use mathlib.Core.Option.{Option, some, none}
use lib.ListN.{length, get_elem?}
use lib.Dec.{T, eqb}
use Rattle.run_keys.specs.Keys.{Keys, empty, singleton, union, holds, is_empty}
use Rattle.run_keys.proofs.KeyLaws.{holds_union, union_empty, holds_singleton, singleton_injective, some_key, no_key}
use Rattle.plan_packed.specs.Syntax.{Expression, Program}
use Rattle.rules.specs.Context.{plug, plugᶜ}
use Rattle.rules.specs.State.{Cell, cell, Thread, State, fresh, fresh_object, lookup, monitor, store, store_monitor, add_object, gain, become, add_thread}
use Rattle.rules.specs.State.{forked, use_key, enqueue, signalled, thread_of, Numbered}
use Rattle.log_records.specs.Record.{Kind, Record, entry}
use Rattle.format.specs.Version.{Version, v0, v1}
use Rattle.log_order.proofs.Ports.{of_thread}
use Rattle.log_order.proofs.KeySets.{KeySet, union as unionSet, learn as learnKey}
use Rattle.log_order.proofs.KeyMachine.{KeyState, act, after, Legal, monitor_taken, plain_keyed}
use Rattle.log_order.proofs.Known.{known_zero}
use Rattle.log_order.proofs.Invariant.{invariant}
use Rattle.rules.specs.Rules.{Rule, is_volatile, passed_on, Converts, E-CALL, E-LET, E-IF, E-WHILE, E-NEW, E-READ, E-WRITE, E-READV, E-WRITEV, E-FORK}
use Rattle.rules.specs.Rules.{E-JOIN, E-RE-ENTER, E-ACQUIRE, E-RELEASE, E-WAIT, E-WAKE, E-NOTIFY, E-NOTIFYALL, Moves, EVAL, EVALᶜ}
use Rattle.rules.specs.Run.{logged}
use Rattle.rules.proofs.Relocated.{is_there, relocated_become, enqueue_relocated, signalled_relocated}
use Rattle.rules.proofs.StateLaws.{inside, added_old, found_thread, new_monitors}
use Rattle.rules.proofs.Invariant.{Inv, held_by}
use Rattle.rules.proofs.Preserved.{gained, gained_at}
use Rattle.rules.proofs.KeyBridge.{Agrees, keys_of, agrees_become, agrees_gain, agrees_keyed, agrees_told, agrees_valued, agrees_unheard, agrees_seized}
use Rattle.rules.proofs.KeyBridge.{agrees_freed, agrees_new, agrees_started, agrees_relocated}

-- the sets after the log, and a legal log
pub record Kept (g : Program) (s : State) (H : List Record) : Type 0 where
  pub agrees : Agrees g s (after g.version H)
  pub legal : Legal g.version H

module _ (g : Program) (s : State) (I : Inv g s) (p : ℕ) (t : Thread) (ht : get_elem? s.threads p ≡ some t) (H : List Record) (J : Kept g s H) where
  abbrev κ : KeyState
  κ = after g.version H

  abbrev A : Agrees g s κ
  A = J.agrees

  here_now : T (κ.present p)
  here_now = A.present p t ht

  -- the mover's set, and one more
  plus : (b : KeySet) (W : Keys) → ((k : ℕ) → b k ≡ holds W k) → (k : ℕ) → unionSet (κ.knows p) b k ≡ holds (union W t.keys) k
  unfolding unionSet
  plus b W h k = ap₂ ◌||◌ (A.knows p t ht k) (h k) ∙ or_comm (holds t.keys k) (holds W k) ∙ sym (holds_union W t.keys k)

  -- a plain field's one key
  pub its_key : (o f : ℕ) (c : Cell) → lookup s o f ≡ some c → is_volatile g f ≡ false → c.keys ≡ singleton (κ.plain o f)
  its_key o f c h v = sym (ap keys_of h) ∙ A.plain o f v

  -- the key that a plain access asks for is the key machine's
  pub same_key : (w o f v : ℕ) → lookup s o f ≡ some (cell (singleton w) v) → is_volatile g f ≡ false → w ≡ κ.plain o f
  same_key w o f v h vol = singleton_injective w (κ.plain o f) (its_key o f (cell (singleton w) v) h vol)

  pub tested : (w o f v : ℕ) → lookup s o f ≡ some (cell (singleton w) v) → is_volatile g f ≡ false → holds t.keys w ≡ κ.knows p (κ.plain o f)
  tested w o f v h vol = ap (holds t.keys) (same_key w o f v h vol) ∙ sym (A.knows p t ht (κ.plain o f))

  known : (w o f v : ℕ) → lookup s o f ≡ some (cell (singleton w) v) → is_volatile g f ≡ false → holds t.keys w ≡ true → T (κ.knows p (κ.plain o f))
  known w o f v h vol k = rw (sym (tested w o f v h vol) ∙ k) tt

  kept_write : (w o f u v : ℕ) (e : Expression) (count : Keys → ℕ) → lookup s o f ≡ some (cell (singleton w) u) → is_volatile g f ≡ false
      → holds t.keys w ≡ true
      → Kept g (become (gain (store (use_key s) o f (record { keys = singleton s.next_key; value = v })) p (singleton s.next_key) count) p e)
      (entry Kind.write p o f v ∷ H)
  unfolding store use_key
  kept_write w o f u v e count h vol k = record {
    agrees = agrees_become g (gain s₁ p (singleton s.next_key) count) _ p e (gained t (singleton s.next_key) count)
        (gained_at s p t ht s₁ (singleton s.next_key) count refl)
        (agrees_gain g s₁ (plain_keyed o f κ) p (singleton s.next_key) count t (learnKey κ.next (κ.knows p)) ht new
        (agrees_keyed g s κ A o f d (cell (singleton w) u) h vol refl));
    legal = (J.legal, here_now, known w o f u h vol k);
  }
    where
      d : Cell
      d = record { keys = singleton s.next_key; value = v }

      s₁ : State
      s₁ = store (use_key s) o f d

      new : (k : ℕ) → learnKey κ.next (κ.knows p) k ≡ holds (union (singleton s.next_key) t.keys) k
      new k = unfold learnKey in
          (ap₂ ◌||◌ (ap (eqb k) A.next ∙ sym (holds_singleton s.next_key k)) (A.knows p t ht k)
          ∙ sym (holds_union (singleton s.next_key) t.keys k))

  kept_fork : (e e' : Expression)
      → Kept g (become (add_thread (add_object s (fresh_object [])) (forked s t e)) p e') (entry Kind.fork p (length s.objects) (length s.threads) 0 ∷ H)
  unfolding add_thread add_object
  kept_fork e e' = record {
    agrees = agrees_become g (add_thread s₁ u) _ p e' t (added_old s.threads u p (inside s.threads p t ht) ∙ ht)
        (agrees_started g s₁ κ u (κ.knows p) (agrees_new g s κ [] A) (λ k. A.knows p t ht k) free);
    legal = (J.legal, here_now, A.absent (length s.threads) (omega arith));
  }
    where
      u : Thread
      u = forked s t e

      s₁ : State
      s₁ = add_object s (fresh_object [])

      free : (o : ℕ) (c : Cell) → monitor s₁ o ≡ some c → is_empty c.keys ≡ true → c.value ≡ length s.objects → ⊥
      free o c m i v = go (new_monitors s [] o)
        where
          go : (monitor s₁ o ≡ monitor s o) ⊎ ((length s.objects ≡ o) × (monitor s o ≡ none) × (monitor s₁ o ≡ some fresh)) → ⊥
          go (inl h) = let b = I.owners o c (sym h ∙ m) in omega arith
          go (inr (_, _, h)) =
              let j : some fresh ≡ some c = sym h ∙ m in
              let y : fresh ≡ c = cc in
              no_key c.keys 0 i (along (λ (z : Cell). T (holds z.keys 0)) y first)
            where
              first : T (holds fresh.keys 0)
              first = unfold fresh holds in tt

  kept_join : (o v : ℕ) (q : Numbered) (e : Expression) (count : Keys → ℕ) → thread_of 0 s.threads o ≡ some q
      → Kept g (become (gain s p q.thread.keys count) p e) (entry Kind.join p o q.number v ∷ H)
  kept_join o v q e count h = record {
    agrees = agrees_become g (gain s p q.thread.keys count) _ p e (gained t q.thread.keys count) (gained_at s p t ht s q.thread.keys count refl)
        (agrees_gain g s κ p q.thread.keys count t (unionSet (κ.knows p) (κ.knows q.number)) ht
        (plus (κ.knows q.number) q.thread.keys (λ k. A.knows q.number q.thread there k)) A);
    legal = (J.legal, here_now, A.present q.number q.thread there);
  }
    where
      there : get_elem? s.threads q.number ≡ some q.thread
      there = let j = found_thread s.threads 0 o q h in let n : q.number ≡ j.0 = omega (arith, j.1) in ap (get_elem? s.threads) n ∙ j.2

  kept_acquire : (o : ℕ) (c : Cell) (e : Expression) (count : Keys → ℕ) → monitor s o ≡ some c → is_empty c.keys ≡ false
      → Kept g (become (gain (store_monitor s o (record { keys = empty; value = t.self })) p c.keys count) p e) (entry Kind.acquire p o 0 0 ∷ H)
  unfolding store_monitor
  kept_acquire o c e count m f = record {
    agrees = agrees_become g (gain s₁ p c.keys count) _ p e (gained t c.keys count) (gained_at s p t ht s₁ c.keys count refl)
        (agrees_gain g s₁ (monitor_taken o p κ) p c.keys count t (unionSet (κ.knows p) (κ.monitors o)) ht (plus (κ.monitors o) c.keys same)
        (agrees_seized g s κ A o (held_by t) c m p refl (λ q u hu v. I.apart p q t u ht hu v)));
    legal = (J.legal, here_now, ((some_key c.keys f).0, rw (same (some_key c.keys f).0) (some_key c.keys f).1));
  }
    where
      s₁ : State
      s₁ = store_monitor s o (held_by t)

      same : (k : ℕ) → κ.monitors o k ≡ holds c.keys k
      same k = A.monitors o k ∙ ap (λ (x : Option Cell). holds (keys_of x) k) m

  -- every thread knows key 0, so what a release stores is not empty
  pub full : is_empty t.keys ≡ false
  full = go (is_empty t.keys) refl
    where
      first : T (κ.knows p 0)
      first = ((invariant g.version H J.legal).threads_know p 0 here_now).1 (known_zero H (of_thread p))

      go : (b : Bool) → is_empty t.keys ≡ b → is_empty t.keys ≡ false
      go true e = absurd (no_key t.keys 0 e (rw (A.knows p t ht 0) at first))
      go false e = e

  kept_release : (o : ℕ) (e : Expression) → monitor s o ≡ some (record { keys = empty; value = t.self })
      → Kept g (become (store_monitor s o (record { keys = t.keys; value = 0 })) p e) (entry Kind.release p o 0 0 ∷ H)
  unfolding store_monitor is_empty
  kept_release o e m = record {
    agrees = agrees_become g (store_monitor s o d) _ p e t ht (agrees_freed g s κ A o d (held_by t) m full (κ.knows p) (λ k. A.knows p t ht k));
    legal = (
      J.legal,
      here_now,
      (λ k x. no_key 0 k refl (rw (A.monitors o k ∙ ap (λ (x : Option Cell). holds (keys_of x) k) m) at x), A.owner o (held_by t) m refl p t ht refl),
    );
  }
    where
      d : Cell
      d = record { keys = t.keys; value = 0 }

  quiet : (e : Expression) → Kept g (become s p e) H
  quiet e = record { agrees = agrees_become g s κ p e t ht A; legal = J.legal }

  -- a wait is a release, for the keys
  kept_wait : (o : ℕ) (e : Expression) → monitor s o ≡ some (held_by t)
      → Kept g (become (enqueue (store_monitor s o (cell t.keys 0)) p o) p e) (entry Kind.release p o 0 0 ∷ H)
  unfolding become enqueue store_monitor
  kept_wait o e m =
      let s₁ = store_monitor s o (cell t.keys 0) in
      let R = kept_release o e m in
      record { agrees = agrees_relocated g (become s₁ p e) _ _ (relocated_become s.threads _ (enqueue_relocated s₁ p o) p e) R.agrees; legal = R.legal }

  -- a notify moves no key
  kept_signal : (h : ℕ → ℕ) (o : ℕ) (e : Expression) → Kept g (become (signalled h s o) p e) H
  unfolding signalled
  kept_signal h o e =
      let w = is_there s.threads _ (signalled_relocated h s o) p t ht in
      record { agrees = agrees_become g (signalled h s o) κ p e _ w.1 (agrees_relocated g s κ _ (signalled_relocated h s o) A); legal = J.legal }

  -- a volatile read passes the field's keys, by the version
  passed : (n : Version) (o f v : ℕ) (W : Keys) (count : Keys → ℕ) → lookup s o f ≡ some (cell W v) → is_volatile g f ≡ true
      → Agrees g (gain s p (passed_on n W) count) (act n Kind.readv p o f κ)
  unfolding passed_on
  passed v0 o f v W count h vol = agrees_unheard g s κ p count t ht A
  passed v1 o f v W count h vol =
      agrees_gain g s κ p W count t (unionSet (κ.knows p) (κ.volatiles o f)) ht
      (plus (κ.volatiles o f) W (λ k. A.volatiles o f vol k ∙ ap (λ (x : Option Cell). holds (keys_of x) k) h)) A

  kept_readv : (o f v : ℕ) (W : Keys) (e : Expression) (count : Keys → ℕ) → lookup s o f ≡ some (cell W v) → is_volatile g f ≡ true
      → Kept g (become (gain s p (passed_on g.version W) count) p e) (entry Kind.readv p o f v ∷ H)
  kept_readv o f v W e count h vol = record {
    agrees = agrees_become g (gain s p (passed_on g.version W) count) _ p e (gained t (passed_on g.version W) count)
        (gained_at s p t ht s (passed_on g.version W) count refl) (passed g.version o f v W count h vol);
    legal = (J.legal, here_now, tt);
  }

  -- a volatile write passes the thread's keys, by the version
  told : (n : Version) (o f u v : ℕ) (W : Keys) → lookup s o f ≡ some (cell W u) → is_volatile g f ≡ true
      → Agrees g (store s o f (cell (union W (passed_on n t.keys)) v)) (act n Kind.writev p o f κ)
  unfolding passed_on
  told v0 o f u v W h vol = agrees_valued g s κ A o f (cell (union W empty) v) (cell W u) h vol (union_empty W)
  told v1 o f u v W h vol = agrees_told g s κ A o f (cell (union W t.keys) v) (cell W u) h vol (unionSet (κ.volatiles o f) (κ.knows p)) both
    where
      both : (k : ℕ) → unionSet (κ.volatiles o f) (κ.knows p) k ≡ holds (union W t.keys) k
      both k = unfold unionSet in
          (ap₂ ◌||◌ (A.volatiles o f vol k ∙ ap (λ (x : Option Cell). holds (keys_of x) k) h) (A.knows p t ht k) ∙ sym (holds_union W t.keys k))

  pub bridged : {e : Expression} {R : Rule} {r : Option Record} {s' : State} {e' : Expression} → Converts g s p t e R r s' e' → (w : Expression)
      → Kept g (become s' p w) (logged r H)
  unfolding logged store add_object
  bridged (E-CALL os hd hp) w = quiet w
  bridged E-LET w = quiet w
  bridged (E-IF b) w = quiet w
  bridged E-WHILE w = quiet w
  bridged (E-NEW {fs}) w =
      record { agrees = agrees_become g (add_object s (fresh_object fs)) κ p w t ht (agrees_new g s κ fs A); legal = (J.legal, here_now, tt) }
  bridged (E-READ x {o} {f} {v} h k vol) w = record { agrees = agrees_become g s κ p w t ht A; legal = (J.legal, here_now, known x o f v h vol k) }
  bridged (E-WRITE x {o} {f} {u} {v} h k vol) w = kept_write x o f u v w _ h vol k
  bridged (E-READV {o} {f} {v} {W} h vol) w = kept_readv o f v W w _ h vol
  bridged (E-WRITEV {o} {f} {u} {v} {W} h vol) w = record {
    agrees = agrees_become g (store s o f (cell (union W (passed_on g.version t.keys)) v)) _ p w t ht (told g.version o f u v W h vol);
    legal = (J.legal, here_now, tt);
  }
  bridged (E-FORK {e}) w = kept_fork e w
  bridged (E-JOIN {o} {v} {q} h l) w = kept_join o v q w _ h
  bridged (E-RE-ENTER h) w = quiet w
  bridged (E-ACQUIRE {o} {u} {W} {e} h n) w = kept_acquire o (cell W u) w _ h n
  bridged (E-RELEASE {o} {v} h) w = kept_release o w h
  bridged (E-WAIT {o} h) w = kept_wait o w h
  bridged (E-WAKE {o} {u} {W} z h n) w = kept_acquire o (cell W u) w _ h n
  bridged (E-NOTIFY {o} h) w = kept_signal _ o w
  bridged (E-NOTIFYALL {o} h) w = kept_signal _ o w

-- a move of a run, with its record
pub bridge : (g : Program) (s : State) → Inv g s → (p : ℕ) (H : List Record) → Kept g s H → {R : Rule} {r : Option Record} {s' : State} → Moves g s p R r s'
    → Kept g s' (logged r H)
unfolding logged
bridge g s I p H J (EVAL K {t} {e} {e'} ht he c) = bridged g s I p t ht H J c (plug K e')
bridge g s I p H J (EVALᶜ K {t} {c} {c'} ht he k) = quiet g s I p t ht H J (plugᶜ K c')
