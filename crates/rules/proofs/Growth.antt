-- What a thread learns (document 02, E6): its total is the growth of its set over the moves that count, and below the size of its set. Assumes nothing.
use Prim.Native.Nat.{ℕ, zero, suc, ◌+◌, ◌-◌, ◌≤◌, ◌<◌}
use native.Mathlib.Omega.{arith}
use native.Mathlib.Decide.{ℕ_discrete}
use mathlib.Core.Path.{◌≡◌, refl, sym, ap, ◌∙◌, subst as along}
use mathlib.Core.Bool.{true, false, cond, ◌&&◌, true≢false}
use mathlib.Core.List.{List, [], ◌∷◌, ◌++◌}
use mathlib.Core.Logic.{◌⊎◌, inl, inr}
use mathlib.Core.Option.{Option, some, none}
use lib.Dec.{eqb}
use lib.ListN.{length, get_elem?}
use borrow.Author.Tests.{eq-eqb, ne_eqb}
use Rattle.run_keys.specs.Keys.{Keys, singleton, holds, union, size, count_new}
use Rattle.run_keys.proofs.CountLaws.{size_le, size_union, new_again}
use Rattle.plan_packed.specs.Syntax.{Expression, Condition, Arguments, Program}
use Rattle.log_records.specs.Record.{Record}
use Rattle.rules.specs.Queue.{awake}
use Rattle.rules.specs.State.{cell, Thread, State, start, change_at, gain, hear, learn, become, add_object, add_thread, store, store_monitor, use_key}
use Rattle.rules.specs.State.{enqueue, signalled}
use Rattle.rules.specs.Rules.{Rule, passed_on, Converts, E-CALL, E-LET, E-IF, E-WHILE, E-NEW, E-READ, E-WRITE, E-READV, E-WRITEV, E-FORK, E-JOIN}
use Rattle.rules.specs.Rules.{E-RE-ENTER, E-ACQUIRE, E-RELEASE, E-WAIT, E-WAKE, E-NOTIFY, E-NOTIFYALL, Convertsᶜ, E-NOTNOTTRUE, E-ANDTRUE, E-ANDFALSE}
use Rattle.rules.specs.Rules.{E-EQUALTRUE, E-EQUALFALSE, Moves, EVAL, EVALᶜ}
use Rattle.rules.specs.Run.{Run, stopped, after_pass, after_move, total_of, totals_from}
use Rattle.rules.specs.Execution.{Execution, ends, passes, lacks_key_lem, no_room_lem, moves}
use Rattle.rules.specs.Growth.{keys_of_thread, counts, larger, growth}
use Rattle.rules.proofs.Relocated.{Relocated, was_there, enqueue_relocated, signalled_relocated}
use Rattle.rules.proofs.StateLaws.{change_same, change_other, changed, added}

-- ---- what is read off one thread

-- the total of thread p, and the size of its set
abbrev total : State → ℕ → ℕ
total s p = total_of (get_elem? s.threads p)

-- a change that leaves what is read alone
read_same : {A : Type 0} (F : Option Thread → A) (xs : List Thread) (i : ℕ) (h : Thread → Thread) (p : ℕ) → ((x : Thread) → F (some (h x)) ≡ F (some x))
    → F (get_elem? (change_at xs i h) p) ≡ F (get_elem? xs p)
unfolding change_at
read_same F [] i h p e = refl
read_same F (x ∷ xs) zero h zero e = e x
read_same F (x ∷ xs) zero h (suc p) e = refl
read_same F (x ∷ xs) (suc i) h zero e = refl
read_same F (x ∷ xs) (suc i) h (suc p) e = read_same F xs i h p e

-- a thread that is made has learnt nothing
made_none : (xs : List Thread) (y : Thread) (p : ℕ) → y.learnt ≡ 0 → total_of (get_elem? (xs ++ (y ∷ [])) p) ≡ total_of (get_elem? xs p)
unfolding total_of
made_none [] y zero e = e
made_none [] y (suc p) e = refl
made_none (x ∷ xs) y zero e = refl
made_none (x ∷ xs) y (suc p) e = made_none xs y p e

-- a thread at another place has learnt as much
relocated_total : (ts us : List Thread) → Relocated ts us → (p : ℕ) → total_of (get_elem? us p) ≡ total_of (get_elem? ts p)
unfolding total_of
relocated_total [] [] r p = refl
relocated_total [] (u ∷ us) r p = absurd r
relocated_total (t ∷ ts) [] r p = absurd r
relocated_total (t ∷ ts) (u ∷ us) r zero = ap (λ (x : Thread). x.learnt) (sym r.0)
relocated_total (t ∷ ts) (u ∷ us) r (suc p) = relocated_total ts us r.1 p

become_total : (s : State) (q : ℕ) (e : Expression) (p : ℕ) → total (become s q e) p ≡ total s p
unfolding become total_of
become_total s q e p = read_same total_of s.threads q _ p (λ x. refl)

become_larger : (s s' : State) (q : ℕ) (e : Expression) (p : ℕ) → larger p s (become s' q e) ≡ larger p s s'
unfolding become larger keys_of_thread
become_larger s s' q e p = ap (λ (K : Keys). size K - size (keys_of_thread (get_elem? s.threads p))) (read_same keys_of_thread s'.threads q _ p (λ x. refl))

-- ---- a move

-- a thread after a gain, and after it heard of a set
abbrev gained_of : Keys → (Keys → ℕ) → Thread → Thread
gained_of W n x = record { self = x.self; expression = x.expression; keys = union W x.keys; learnt = x.learnt + n x.keys; place = x.place }

abbrev heard_of : Keys → Thread → Thread
heard_of W = gained_of W (count_new W)

-- the total of p rises by this over a move of thread q by R
abbrev rise : ℕ → ℕ → Rule → State → State → ℕ
rise p q R s s' = cond (counts R && eqb q p) (larger p s s') 0

none_more : (n : ℕ) → n ≡ n + 0
none_more n = omega arith

module _ (g : Program) (s : State) (q : ℕ) (t : Thread) (ht : get_elem? s.threads q ≡ some t) (p : ℕ) where
  -- thread q learns a key of its own
  own : (s₁ : State) (W : Keys) → s₁.threads ≡ s.threads → total (learn s₁ q W) p ≡ total s p + 0
  unfolding gain total_of
  own s₁ W e =
      read_same total_of s₁.threads q _ p (λ x. sym (none_more x.learnt)) ∙ ap (λ (xs : List Thread). total_of (get_elem? xs p)) e ∙ none_more (total s p)

  -- it hears of a set
  other : (s₁ : State) (W : Keys) → s₁.threads ≡ s.threads → total (hear s₁ q W) p ≡ total s p + cond (eqb q p) (larger p s (hear s₁ q W)) 0
  unfolding gain total_of larger keys_of_thread
  other s₁ W e = go (ℕ_discrete q p)
    where
      at : get_elem? s₁.threads q ≡ some t
      at = ap (λ (xs : List Thread). get_elem? xs q) e ∙ ht

      -- a set that has grown by n
      grown : (m n : ℕ) → n ≡ (m + n) - m
      grown m n = omega arith

      go : Dec (q ≡ p) → total (hear s₁ q W) p ≡ total s p + cond (eqb q p) (larger p s (hear s₁ q W)) 0
      go (yes x) =
          rw (← x, eq-eqb q q refl, change_same s₁.threads q _ t at, ht)
          (ap (λ (n : ℕ). t.learnt + n) (grown (size t.keys) (count_new W t.keys) ∙ ap (λ (m : ℕ). m - size t.keys) (sym (size_union W t.keys))))
      go (no x) = rw (ne_eqb q p x, change_other s₁.threads q _ p x, e) (none_more (total s p))

  rises : {e : Expression} {R : Rule} {r : Option Record} {s' : State} {e' : Expression} → Converts g s q t e R r s' e'
      → total s' p ≡ total s p + rise p q R s s'
  unfolding counts add_object add_thread store store_monitor use_key enqueue signalled
  rises (E-CALL os hd hp) = none_more (total s p)
  rises E-LET = none_more (total s p)
  rises (E-IF b) = none_more (total s p)
  rises E-WHILE = none_more (total s p)
  rises E-NEW = none_more (total s p)
  rises (E-READ w h k v) = none_more (total s p)
  rises (E-WRITE w h k v) = own _ _ refl
  rises (E-READV {W = W} h v) = other s (passed_on g.version W) refl
  rises (E-WRITEV h v) = none_more (total s p)
  rises E-FORK = made_none s.threads _ p refl ∙ none_more (total s p)
  rises (E-JOIN {q = u} h l) = other s u.thread.keys refl
  rises (E-RE-ENTER h) = none_more (total s p)
  rises (E-ACQUIRE {W = W} h n) = other _ W refl
  rises (E-RELEASE h) = none_more (total s p)
  rises (E-WAIT {o} h) = relocated_total s.threads _ (enqueue_relocated (store_monitor s o (cell t.keys 0)) q o) p ∙ none_more (total s p)
  rises (E-WAKE {W = W} z h n) = other _ W refl
  rises (E-NOTIFY {o} h) = relocated_total s.threads _ (signalled_relocated _ s o) p ∙ none_more (total s p)
  rises (E-NOTIFYALL {o} h) = relocated_total s.threads _ (signalled_relocated _ s o) p ∙ none_more (total s p)

uncounted : {c c' : Condition} {R : Rule} → Convertsᶜ c R c' → counts R ≡ false
unfolding counts
uncounted E-NOTNOTTRUE = refl
uncounted E-ANDTRUE = refl
uncounted E-ANDFALSE = refl
uncounted (E-EQUALTRUE h) = refl
uncounted (E-EQUALFALSE h) = refl

rises_move : (g : Program) (s : State) (q : ℕ) (p : ℕ) {R : Rule} {r : Option Record} {s' : State} → Moves g s q R r s'
    → total s' p ≡ total s p + rise p q R s s'
rises_move g s q p {R} (EVAL K {t} {s' = s'} ht he c) =
    become_total s' q _ p ∙ rises g s q t ht p c ∙ ap (λ (n : ℕ). total s p + cond (counts R && eqb q p) n 0) (sym (become_larger s s' q _ p))
rises_move g s q p (EVALᶜ K ht he c) = become_total s q _ p ∙ rw (uncounted c) (none_more (total s p))

-- ---- a run

-- A TOTAL IS THE GROWTH OF THE THREAD'S SET OVER THE MOVES THAT COUNT
pub total_grows : {g : Program} {s : State} {ps : List ℕ} {r : Run} (p : ℕ) (x : Execution g s ps r)
    → total_of (get_elem? r.final.threads p) ≡ total_of (get_elem? s.threads p) + growth p x
unfolding growth stopped after_pass after_move
total_grows {s = s} p ends = none_more (total s p)
total_grows p (passes h x) = total_grows p x
total_grows {s = s} p (lacks_key_lem h) = none_more (total s p)
total_grows {s = s} p (no_room_lem h e) = none_more (total s p)
total_grows {g} p (moves {s} {s'} {p = q} {R = R} h k x) = omega (arith, total_grows p x, rises_move g s q p h)

start_total : (p : ℕ) → total_of (get_elem? start.threads p) ≡ 0
unfolding total_of start
start_total zero = refl
start_total (suc p) = refl

-- ---- the totals of an outcome

total_at : (s : State) (p n i : ℕ) → i < n → get_elem? (totals_from s p n) i ≡ some (total_of (get_elem? s.threads (p + i)))
unfolding totals_from
total_at s p zero i h = absurd (omega arith)
total_at s p (suc n) zero h = ap (λ (q : ℕ). some (total_of (get_elem? s.threads q))) (omega arith)
total_at s p (suc n) (suc i) h = total_at s (suc p) n i (omega arith) ∙ ap (λ (q : ℕ). some (total_of (get_elem? s.threads q))) (omega arith)

pub eight_totals : (s : State) → length (totals_from s 0 8) ≡ 8
unfolding totals_from
eight_totals s = refl

pub listed_total : {g : Program} {ps : List ℕ} {r : Run} (x : Execution g start ps r) (p : ℕ) → p < 8
    → get_elem? (totals_from r.final 0 8) p ≡ some (growth p x)
listed_total {r = r} x p h =
    let e : total_of (get_elem? r.final.threads p) ≡ growth p x = omega (arith, total_grows p x, start_total p) in
    total_at r.final 0 8 p h ∙ ap (λ (q : ℕ). some (total_of (get_elem? r.final.threads q))) (omega arith) ∙ ap {B = Option ℕ} some e

-- ---- THE SAME KEYS AGAIN ADD 0

again : (xs : List Thread) (q : ℕ) (W : Keys) (p : ℕ)
    → total_of (get_elem? (change_at (change_at xs q (heard_of W)) q (heard_of W)) p) ≡ total_of (get_elem? (change_at xs q (heard_of W)) p)
unfolding change_at total_of
again [] q W p = refl
again (x ∷ xs) zero W zero = ap (λ (n : ℕ). x.learnt + count_new W x.keys + n) (new_again W x.keys) ∙ sym (none_more (x.learnt + count_new W x.keys))
again (x ∷ xs) zero W (suc p) = refl
again (x ∷ xs) (suc q) W zero = refl
again (x ∷ xs) (suc q) W (suc p) = again xs q W p

pub heard_again : (s : State) (q : ℕ) (W : Keys) (p : ℕ) → total_of (get_elem? (hear (hear s q W) q W).threads p) ≡ total_of (get_elem? (hear s q W).threads p)
unfolding gain
heard_again s q W p = again s.threads q W p

-- ---- a total is below the size of the thread's set

abbrev pub Modest : State → Type 0
Modest s = (p : ℕ) (t : Thread) → get_elem? s.threads p ≡ some t → t.learnt < size t.keys

-- so it is at most 255
pub modest_small : (s : State) → Modest s → (p : ℕ) → total_of (get_elem? s.threads p) ≤ 255
unfolding total_of
modest_small s M p = go (get_elem? s.threads p) refl
  where
    go : (x : Option Thread) → get_elem? s.threads p ≡ x → total_of x ≤ 255
    go none e = omega arith
    go (some t) e = omega (arith, M p t e, size_le t.keys)

-- as every total of an outcome is
pub listed_small : (s : State) → Modest s → (p n i m : ℕ) → get_elem? (totals_from s p n) i ≡ some m → m ≤ 255
unfolding totals_from
listed_small s M p zero i m h = absurd (true≢false cc)
listed_small s M p (suc n) zero m h = let e : total_of (get_elem? s.threads p) ≡ m = cc in omega (arith, e, modest_small s M p)
listed_small s M p (suc n) (suc i) m h = listed_small s M (suc p) n i m h

-- a thread that keeps it, whatever else changes
abbrev Keeps : (Thread → Thread) → Type 0
Keeps h = (x : Thread) → x.learnt < size x.keys → (h x).learnt < size (h x).keys

modest_change : (xs : List Thread) (q : ℕ) (h : Thread → Thread) → Keeps h → ((p : ℕ) (t : Thread) → get_elem? xs p ≡ some t → t.learnt < size t.keys)
    → (p : ℕ) (u : Thread) → get_elem? (change_at xs q h) p ≡ some u → u.learnt < size u.keys
modest_change xs q h k M p u e = go (changed xs q h p u e)
  where
    go : (t : Thread) × (get_elem? xs p ≡ some t) × ((t ≡ u) ⊎ (h t ≡ u)) → u.learnt < size u.keys
    go (t, at, inl x) = along (λ (z : Thread). z.learnt < size z.keys) x (M p t at)
    go (t, at, inr x) = along (λ (z : Thread). z.learnt < size z.keys) x (k t (M p t at))

modest_added : (xs : List Thread) (y : Thread) → y.learnt < size y.keys → ((p : ℕ) (t : Thread) → get_elem? xs p ≡ some t → t.learnt < size t.keys)
    → (p : ℕ) (u : Thread) → get_elem? (xs ++ (y ∷ [])) p ≡ some u → u.learnt < size u.keys
modest_added xs y l M p u e = go (added xs y p u e)
  where
    go : ((p < length xs) × (get_elem? xs p ≡ some u)) ⊎ ((p ≡ length xs) × (y ≡ u)) → u.learnt < size u.keys
    go (inl (_, at)) = M p u at
    go (inr (_, x)) = along (λ (z : Thread). z.learnt < size z.keys) x l

-- places alone change
modest_relocated : (ts us : List Thread) → Relocated ts us → ((p : ℕ) (t : Thread) → get_elem? ts p ≡ some t → t.learnt < size t.keys)
    → (p : ℕ) (u : Thread) → get_elem? us p ≡ some u → u.learnt < size u.keys
modest_relocated ts us r M p u e = let w = was_there ts us r p u e in along (λ (z : Thread). z.learnt < size z.keys) w.2 (M p w.0 w.1)

-- a set that grows
learn_keeps : (W : Keys) → Keeps (gained_of W (λ K. 0))
learn_keeps W x l = omega (arith, l, size_union W x.keys)

hear_keeps : (W : Keys) → Keeps (gained_of W (count_new W))
hear_keeps W x l = omega (arith, l, size_union W x.keys)

module _ (g : Program) (s : State) (q : ℕ) (t : Thread) (ht : get_elem? s.threads q ≡ some t) (M : Modest s) where
  modest : {e : Expression} {R : Rule} {r : Option Record} {s' : State} {e' : Expression} → Converts g s q t e R r s' e' → Modest s'
  unfolding gain add_object add_thread store store_monitor use_key enqueue signalled
  modest (E-CALL os hd hp) = M
  modest E-LET = M
  modest (E-IF b) = M
  modest E-WHILE = M
  modest E-NEW = M
  modest (E-READ w h k v) = M
  modest (E-WRITE w h k v) = modest_change s.threads q _ (learn_keeps (singleton s.next_key)) M
  modest (E-READV {W = W} h v) = modest_change s.threads q _ (hear_keeps (passed_on g.version W)) M
  modest (E-WRITEV h v) = M
  modest E-FORK = modest_added s.threads _ (let l = M q t ht in omega arith) M
  modest (E-JOIN {q = u} h l) = modest_change s.threads q _ (hear_keeps u.thread.keys) M
  modest (E-RE-ENTER h) = M
  modest (E-ACQUIRE {W = W} h n) = modest_change s.threads q _ (hear_keeps W) M
  modest (E-RELEASE h) = M
  modest (E-WAIT {o} h) = modest_relocated s.threads _ (enqueue_relocated (store_monitor s o (cell t.keys 0)) q o) M
  modest (E-WAKE {W = W} z h n) = modest_change s.threads q _ (hear_keeps W) M
  modest (E-NOTIFY {o} h) = modest_relocated s.threads _ (signalled_relocated _ s o) M
  modest (E-NOTIFYALL {o} h) = modest_relocated s.threads _ (signalled_relocated _ s o) M

modest_become : (s : State) (q : ℕ) (e : Expression) → Modest s → Modest (become s q e)
unfolding become
modest_become s q e M = modest_change s.threads q _ (λ x l. l) M

-- every move keeps it
pub modest_move : (g : Program) (s : State) (q : ℕ) → Modest s → {R : Rule} {r : Option Record} {s' : State} → Moves g s q R r s' → Modest s'
modest_move g s q M (EVAL K {t} {s' = s'} ht he c) = modest_become s' q _ (modest g s q t ht M c)
modest_move g s q M (EVALᶜ K ht he c) = modest_become s q _ M

pub modest_start : Modest start
unfolding start size holds
modest_start zero t h =
    let e : record { self = 0; expression = Expression.call 0 Arguments.end; keys = singleton 0; learnt = 0; place = awake } ≡ t = cc in
    along (λ (z : Thread). z.learnt < size z.keys) e (omega arith)
modest_start (suc p) t h = absurd (true≢false cc)
