-- A plain field holds one key, in every state of every run. Assumes nothing.
use Prim.Native.Nat.{ℕ}
use native.Mathlib.Decide.{ℕ_discrete}
use mathlib.Core.Path.{◌≡◌, refl, sym, ap, ◌∙◌, subst as along}
use mathlib.Core.Bool.{false, true≢false}
use mathlib.Core.List.{List, []}
use mathlib.Core.Logic.{◌⊎◌, inl, inr}
use mathlib.Core.Option.{Option, some, none}
use lib.ListN.{length}
use Rattle.run_keys.specs.Keys.{singleton, union}
use Rattle.plan_packed.specs.Syntax.{Expression, Program}
use Rattle.log_records.specs.Record.{Record}
use Rattle.rules.specs.State.{Cell, cell, Thread, State, fresh, fresh_object, lookup, store, store_monitor, add_object, gain, become, add_thread, use_key}
use Rattle.rules.specs.State.{enqueue, signalled, start}
use Rattle.rules.specs.Rules.{Rule, is_volatile, passed_on, Converts, E-CALL, E-LET, E-IF, E-WHILE, E-NEW, E-READ, E-WRITE, E-READV, E-WRITEV, E-FORK}
use Rattle.rules.specs.Rules.{E-JOIN, E-RE-ENTER, E-ACQUIRE, E-RELEASE, E-WAIT, E-WAKE, E-NOTIFY, E-NOTIFYALL, Moves, EVAL, EVALᶜ}
use Rattle.rules.proofs.StateLaws.{store_same, store_other, lock_lookup, new_lookup}

-- document 001, section 4: "For a normal field, W = {w}"
pub record OneKey (g : Program) (s : State) : Type 0 where
  pub its : (o f : ℕ) (c : Cell) → lookup s o f ≡ some c → is_volatile g f ≡ false → (w : ℕ) × (c.keys ≡ singleton w)

-- the cell of a plain field is ({w}, o)
pub its_cell : (g : Program) (s : State) → OneKey g s → (o f : ℕ) (c : Cell) → lookup s o f ≡ some c → is_volatile g f ≡ false
    → (w : ℕ) × (c.keys ≡ singleton w) × (lookup s o f ≡ some (cell (singleton w) c.value))
its_cell g s I o f c h v =
    let k = I.its o f c h v in
    (k.0, k.1, h ∙ (λ i. some (record { keys = k.1 i; value = c.value })))

pub one_key_start : (g : Program) → OneKey g start
unfolding start fresh_object lookup
one_key_start g = record { its = λ o f c h v. absurd (nowhere o f c h) }
  where
    nowhere : (o f : ℕ) (c : Cell) → lookup start o f ≡ some c → ⊥
    nowhere ℕ.zero f c h = true≢false cc
    nowhere (ℕ.suc o) f c h = true≢false cc

-- the same fields, the same keys
same_fields : (g : Program) (s s' : State) → ((o f : ℕ) → lookup s' o f ≡ lookup s o f) → OneKey g s → OneKey g s'
same_fields g s s' e I = record { its = λ o f c h v. I.its o f c (sym (e o f) ∙ h) v }

stored : (g : Program) (s : State) (o f : ℕ) (c d : Cell) → lookup s o f ≡ some d → (is_volatile g f ≡ false → (w : ℕ) × (c.keys ≡ singleton w))
    → OneKey g s → OneKey g (store s o f c)
stored g s o f c d h k I = record { its = λ o' f' c' h' v. go o' f' c' h' v (ℕ_discrete o o') (ℕ_discrete f f') }
  where
    go : (o' f' : ℕ) (c' : Cell) → lookup (store s o f c) o' f' ≡ some c' → is_volatile g f' ≡ false → Dec (o ≡ o') → Dec (f ≡ f')
        → (w : ℕ) × (c'.keys ≡ singleton w)
    go o' f' c' h' v (yes x) (yes y) =
        let q : some c ≡ some c' = sym (store_same s o f c d h) ∙ ap (λ (b : ℕ). lookup (store s o f c) o b) y ∙ ap (λ (a : ℕ). lookup (store s o f c) a f') x
        ∙ h' in
        let r : c ≡ c' = cc in
        along (λ (z : Cell). (w : ℕ) × (z.keys ≡ singleton w)) r (k (rw y v))
    go o' f' c' h' v (yes x) (no y) = I.its o' f' c' (sym (store_other s o f c o' f' (λ a b. y b)) ∙ h') v
    go o' f' c' h' v (no x) y = I.its o' f' c' (sym (store_other s o f c o' f' (λ a b. x a)) ∙ h') v

added : (g : Program) (s : State) (fs : List ℕ) → OneKey g s → OneKey g (add_object s (fresh_object fs))
added g s fs I = record { its = λ o f c h v. go o f c h v (new_lookup s fs o f) }
  where
    go : (o f : ℕ) (c : Cell) → lookup (add_object s (fresh_object fs)) o f ≡ some c → is_volatile g f ≡ false
        → (lookup (add_object s (fresh_object fs)) o f ≡ lookup s o f) ⊎
        ((length s.objects ≡ o) × (lookup s o f ≡ none) × (lookup (add_object s (fresh_object fs)) o f ≡ some fresh))
        → (w : ℕ) × (c.keys ≡ singleton w)
    go o f c h v (inl e) = I.its o f c (sym e ∙ h) v
    go o f c h v (inr (_, _, e)) =
        let q : some fresh ≡ some c = sym e ∙ h in
        let r : fresh ≡ c = cc in
        (0, ap (λ (z : Cell). z.keys) (sym r) ∙ unfold fresh in refl)

module _ (g : Program) (s : State) (p : ℕ) (t : Thread) (I : OneKey g s) where
  kept : {e : Expression} {R : Rule} {r : Option Record} {s' : State} {e' : Expression} → Converts g s p t e R r s' e' → OneKey g s'
  unfolding gain use_key add_thread enqueue signalled lookup
  kept (E-CALL os hd hp) = I
  kept E-LET = I
  kept (E-IF b) = I
  kept E-WHILE = I
  kept (E-NEW {fs}) = added g s fs I
  kept (E-READ w h k v) = I
  kept (E-WRITE w {o} {f} {u} {v} h k vol) =
      same_fields g (store (use_key s) o f (cell (singleton s.next_key) v)) _ (λ a b. refl)
      (stored g (use_key s) o f (cell (singleton s.next_key) v) (cell (singleton w) u) h (λ n. (s.next_key, refl))
      (same_fields g s (use_key s) (λ a b. refl) I))
  kept (E-READV h v) = same_fields g s _ (λ a b. refl) I
  kept (E-WRITEV {o} {f} {u} {v} {W} h vol) =
      stored g s o f (cell (union W (passed_on g.version t.keys)) v) (cell W u) h (λ n. absurd (true≢false (sym vol ∙ n))) I
  kept E-FORK = same_fields g (add_object s (fresh_object [])) _ (λ a b. refl) (added g s [] I)
  kept (E-JOIN h l) = same_fields g s _ (λ a b. refl) I
  kept (E-RE-ENTER h) = I
  kept (E-ACQUIRE {o} h n) =
      same_fields g (store_monitor s o (cell 0 t.self)) _ (λ a b. refl)
      (same_fields g s (store_monitor s o (cell 0 t.self)) (lock_lookup s o (cell 0 t.self)) I)
  kept (E-RELEASE {o} h) = same_fields g s (store_monitor s o (cell t.keys 0)) (lock_lookup s o (cell t.keys 0)) I
  kept (E-WAIT {o} h) =
      same_fields g (store_monitor s o (cell t.keys 0)) _ (λ a b. refl)
      (same_fields g s (store_monitor s o (cell t.keys 0)) (lock_lookup s o (cell t.keys 0)) I)
  kept (E-WAKE {o} z h n) =
      same_fields g (store_monitor s o (cell 0 t.self)) _ (λ a b. refl)
      (same_fields g s (store_monitor s o (cell 0 t.self)) (lock_lookup s o (cell 0 t.self)) I)
  kept (E-NOTIFY h) = same_fields g s _ (λ a b. refl) I
  kept (E-NOTIFYALL h) = same_fields g s _ (λ a b. refl) I

become_fields : (s : State) (p : ℕ) (e : Expression) (o f : ℕ) → lookup (become s p e) o f ≡ lookup s o f
unfolding become lookup
become_fields s p e o f = refl

-- every move keeps it
pub one_key_move : (g : Program) (s : State) (p : ℕ) → OneKey g s → {R : Rule} {r : Option Record} {s' : State} → Moves g s p R r s' → OneKey g s'
one_key_move g s p I (EVAL K {t} {s' = s'} ht he c) = same_fields g s' _ (become_fields s' p _) (kept g s p t I c)
one_key_move g s p I (EVALᶜ K ht he c) = same_fields g s _ (become_fields s p _) I
