-- Every move makes the sum of the threads' measures less, also where it forks, so that no run makes more moves than the sum at its start. Assumes nothing.
use Prim.Native.Nat.{ℕ, zero, suc, ◌+◌, ◌<◌, ◌≤◌, max, pred}
use native.Mathlib.Omega.{arith}
use mathlib.Core.Path.{◌≡◌, refl, sym, ap, ap₂, ◌∙◌, subst as along}
use mathlib.Core.Bool.{Bool, true, false, cond, true≢false}
use mathlib.Core.List.{List, [], ◌∷◌, ◌++◌, map}
use mathlib.Core.Logic.{◌⊎◌, inl, inr}
use mathlib.Core.Option.{Option, some, none}
use lib.ListN.{length, get_elem?}
use Rattle.plan_packed.specs.Syntax.{Expression, Condition, Arguments, literal, bool, bind, bind_parameters, Procedure, Program}
use Rattle.log_records.specs.Record.{Record}
use Rattle.rules.specs.Context.{plug, plugᶜ, literals, is_truth}
use Rattle.rules.specs.Queue.{awake}
use Rattle.rules.specs.State.{Thread, State, fresh_object, change_at, store, store_monitor, add_object, gain, become, add_thread, use_key, enqueue, signalled}
use Rattle.rules.specs.Rules.{Rule, Converts, E-CALL, E-LET, E-IF, E-WHILE, E-NEW, E-READ, E-WRITE, E-READV, E-WRITEV, E-FORK, E-JOIN, E-RE-ENTER, E-ACQUIRE}
use Rattle.rules.specs.Rules.{E-RELEASE, E-WAIT, E-WAKE, E-NOTIFY, E-NOTIFYALL, Convertsᶜ, E-NOTNOTTRUE, E-ANDTRUE, E-ANDFALSE, E-EQUALTRUE, E-EQUALFALSE}
use Rattle.rules.specs.Rules.{Moves, EVAL, EVALᶜ}
use Rattle.rules.specs.Run.{Run, stopped, after_pass, after_move, instances}
use Rattle.rules.specs.Execution.{Execution, ends, passes, lacks_key_lem, no_room_lem, moves}
use Rattle.rules.proofs.StateLaws.{inside, added, added_old, who}
use Rattle.costs.specs.Cost.{one_more, cost, cost_of_body, Costs}
use Rattle.costs.proofs.Loopless.{Loopless, Looplessᶜ, filled_loopless, splits, splitsᶜ}
use Rattle.costs.proofs.Measure.{measure, measureᶜ, at_most, filled, listed, plug_less, plug_lessᶜ}

-- ---- threads with the same expressions

abbrev expressions : List Thread → List Expression
expressions ts = map (λ (t : Thread). t.expression) ts

-- a thread of the one has its like in the other
alike : (ts us : List Thread) → expressions ts ≡ expressions us → (i : ℕ) (t : Thread) → get_elem? ts i ≡ some t
    → (u : Thread) × (get_elem? us i ≡ some u) × (t.expression ≡ u.expression)
alike [] us e i t h = absurd (true≢false cc)
alike (x ∷ ts) [] e i t h = absurd (true≢false cc)
alike (x ∷ ts) (y ∷ us) e zero t h = let q : x ≡ t = cc in let k : x.expression ≡ y.expression =
    cc in (y, refl, along (λ (z : Thread). z.expression ≡ y.expression) q k)
alike (x ∷ ts) (y ∷ us) e (suc i) t h = alike ts us (cc) i t h

same_changed : (ts : List Thread) (p : ℕ) (h : Thread → Thread) → ((x : Thread) → (h x).expression ≡ x.expression)
    → expressions (change_at ts p h) ≡ expressions ts
unfolding change_at
same_changed [] p h k = refl
same_changed (x ∷ ts) zero h k = ap (λ (e : Expression). e ∷ expressions ts) (k x)
same_changed (x ∷ ts) (suc p) h k = ap (λ (es : List Expression). x.expression ∷ es) (same_changed ts p h k)

same_mapped : (ts : List Thread) (h : Thread → Thread) → ((x : Thread) → (h x).expression ≡ x.expression) → expressions (map h ts) ≡ expressions ts
same_mapped [] h k = refl
same_mapped (x ∷ ts) h k = ap₂ ◌∷◌ (k x) (same_mapped ts h k)

-- no thread has a while
abbrev pub Simple : State → Type 0
Simple s = (p : ℕ) (t : Thread) → get_elem? s.threads p ≡ some t → Loopless t.expression

module _ (B : ℕ → ℕ) where
  -- ---- sums

  abbrev measures : List Expression → ℕ
  measures [] = 0
  measures (e ∷ es) = measure B e + measures es

  -- the sum of the threads' measures
  abbrev pub sum : List Thread → ℕ
  sum ts = measures (expressions ts)

  sum_change : (ts : List Thread) (p : ℕ) (h : Thread → Thread) (t : Thread) → get_elem? ts p ≡ some t
      → sum (change_at ts p h) + measure B t.expression ≡ sum ts + measure B (h t).expression
  unfolding change_at
  sum_change [] p h t e = absurd (true≢false cc)
  sum_change (x ∷ ts) zero h t e = let q : x ≡ t =
      cc in along (λ (z : Thread). (measure B (h x).expression + sum ts) + measure B z.expression ≡ (measure B x.expression + sum ts) + measure B
      (h z).expression) q (omega arith)
  sum_change (x ∷ ts) (suc p) h t e = let q = sum_change ts p h t e in omega arith

  sum_added : (ts : List Thread) (u : Thread) → sum (ts ++ (u ∷ [])) ≡ sum ts + measure B u.expression
  sum_added [] u = omega arith
  sum_added (x ∷ ts) u = let q = sum_added ts u in omega arith

  -- what a rule does to the sum, but for the mover's expression: it grows, the part that moves falls by more, and nobody has a while
  record Falling (s : State) (p : ℕ) (t : Thread) (e : Expression) (s' : State) (e' : Expression) : Type 0 where
    grown : ℕ
    sum_is : sum s'.threads ≡ sum s.threads + grown
    falls_by : measure B e' + grown < measure B e
    mover : Thread
    there : get_elem? s'.threads p ≡ some mover
    its : mover.expression ≡ t.expression
    loopless : Loopless e'
    others : Simple s'

  module _ (g : Program) (C : Costs g B) (L : (m : ℕ) (d : Procedure) → get_elem? g.procedures m ≡ some d → Loopless d.body)
      (s : State) (N : Simple s) (p : ℕ) (t : Thread) (ht : get_elem? s.threads p ≡ some t) where
    -- the threads' expressions stay
    still : (e : Expression) (s' : State) (e' : Expression) → expressions s'.threads ≡ expressions s.threads → measure B e' < measure B e → Loopless e'
        → Falling s p t e s' e'
    still e s' e' q h l =
        let a = alike s.threads s'.threads (sym q) p t ht in
        record {
          grown = 0;
          sum_is = ap measures q ∙ (let n = sum s.threads in omega arith);
          falls_by = omega arith;
          mover = a.0;
          there = a.1;
          its = sym a.2;
          loopless = l;
          others = λ i u hu. let b = alike s'.threads s.threads q i u hu in along Loopless (sym b.2) (N i b.0 b.1);
        }

    -- the mover changes, but for its expression
    changes : (e : Expression) (s' : State) (e' : Expression) (h : Thread → Thread) → ((x : Thread) → (h x).expression ≡ x.expression)
        → s'.threads ≡ change_at s.threads p h → measure B e' < measure B e → Loopless e' → Falling s p t e s' e'
    changes e s' e' h k q = still e s' e' (ap expressions q ∙ same_changed s.threads p h k)

    branch : (b : Bool) (e e' : Expression) → measure B (cond b e e') ≤ max (measure B e) (measure B e')
    branch true e e' = omega arith
    branch false e e' = omega arith

    chosen : (b : Bool) (e e' : Expression) → Loopless e → Loopless e' → Loopless (cond b e e')
    chosen true e e' h k = h
    chosen false e e' h k = k

    abbrev newcomer : Expression → Thread
    newcomer e = record { self = length s.objects; expression = e; keys = t.keys; learnt = 0; place = awake }

    -- a fork pays for the new thread
    forked : (e : Expression) → Loopless e
        → Falling s p t (Expression.fork e) (add_thread (add_object s (fresh_object [])) (newcomer e)) (literal (length s.objects))
    unfolding measure add_object add_thread
    forked e l = record {
      grown = measure B e;
      sum_is = sum_added s.threads (newcomer e);
      falls_by = omega arith;
      mover = t;
      there = added_old s.threads (newcomer e) p (inside s.threads p t ht) ∙ ht;
      its = refl;
      loopless = tt;
      others = λ i w hw. by i w (added s.threads (newcomer e) i w hw);
    }
      where
        by : (i : ℕ) (w : Thread) → ((i < length s.threads) × (get_elem? s.threads i ≡ some w)) ⊎ ((i ≡ length s.threads) × (newcomer e ≡ w))
            → Loopless w.expression
        by i w (inl (_, h)) = N i w h
        by i w (inr (_, h)) = along (λ (z : Thread). Loopless z.expression) h l

    falling : {e : Expression} {R : Rule} {r : Option Record} {s' : State} {e' : Expression} → Converts g s p t e R r s' e' → Loopless e → Falling s p t e s' e'
    unfolding measure cost literals gain store use_key add_object store_monitor enqueue signalled
    falling (E-CALL {m} os {d} hd hp) l =
        still _ s _ refl (let a = at_most B d.body in let b : cost B d.body ≡ B m = sym (ap (cost_of_body B) hd) ∙ C.bodies m in let c =
        filled B (bind_parameters os) d.body in omega (arith, listed B os Arguments.end)) (filled_loopless (bind_parameters os) d.body (L m d hd))
    falling (E-LET {x} {o} {e}) l = still _ s _ refl (let c = filled B (bind x o) e in omega arith) (filled_loopless (bind x o) e l.1)
    falling (E-IF b {e} {e'}) l = still _ s _ refl (let a = branch b e e' in omega arith) (chosen b e e' l.1 l.2)
    falling E-WHILE l = absurd l
    falling (E-NEW {fs}) l = still _ (add_object s (fresh_object fs)) _ refl (omega arith) tt
    falling (E-READ w h k v) l = still _ s _ refl (omega arith) tt
    falling (E-WRITE w h k v) l = changes _ _ _ _ (λ x. refl) refl (omega arith) tt
    falling (E-READV h v) l = changes _ _ _ _ (λ x. refl) refl (omega arith) tt
    falling (E-WRITEV {o} {f} h v) l = still _ (store s o f _) _ refl (omega arith) tt
    falling (E-FORK {e}) l = forked e l
    falling (E-JOIN h v) l = changes _ _ _ _ (λ x. refl) refl (omega arith) tt
    falling (E-RE-ENTER h) l = still _ s _ refl (omega arith) l.1
    falling (E-ACQUIRE h n) l = changes _ _ _ _ (λ x. refl) refl (omega arith) l.1
    falling (E-RELEASE {o} h) l = still _ (store_monitor s o _) _ refl (omega arith) tt
    falling (E-WAIT h) l = changes _ _ _ _ (λ x. refl) refl (omega arith) tt
    falling (E-WAKE n h k) l = changes _ _ _ _ (λ x. refl) refl (omega arith) tt
    falling (E-NOTIFY {o} h) l = still _ (signalled pred s o) _ (same_mapped s.threads _ (λ x. refl)) (omega arith) tt
    falling (E-NOTIFYALL {o} h) l = still _ (signalled (λ n. 0) s o) _ (same_mapped s.threads _ (λ x. refl)) (omega arith) tt

    -- conditions
    fallingᶜ : {c : Condition} {R : Rule} {c' : Condition} → Convertsᶜ c R c' → Looplessᶜ c
        → (is_truth c ≡ false) × (measureᶜ B c' < measureᶜ B c) × Looplessᶜ c'
    unfolding measure bool is_truth
    fallingᶜ E-NOTNOTTRUE l = (refl, omega arith, tt)
    fallingᶜ E-ANDTRUE l = (refl, omega arith, l.1)
    fallingᶜ E-ANDFALSE l = (refl, omega arith, tt)
    fallingᶜ (E-EQUALTRUE h) l = (refl, omega arith, tt)
    fallingᶜ (E-EQUALFALSE h) l = (refl, omega arith, tt)

  -- ---- moves

  abbrev becomes : Expression → Thread → Thread
  becomes e x = record { self = x.self; expression = e; keys = x.keys; learnt = x.learnt; place = x.place }

  simple_become : (s : State) (p : ℕ) (t : Thread) (e : Expression) → get_elem? s.threads p ≡ some t → Loopless e → Simple s → Simple (become s p e)
  unfolding become
  simple_become s p t e ht l N i u hu = by (who s.threads p (becomes e) t ht i u hu)
    where
      by : ((p ≡ i) × (becomes e t ≡ u)) ⊎ ((p ≡ i → ⊥) × (get_elem? s.threads i ≡ some u)) → Loopless u.expression
      by (inl (_, y)) = along (λ (z : Thread). Loopless z.expression) y l
      by (inr (_, y)) = N i u y

  module _ (g : Program) (C : Costs g B) (L : (m : ℕ) (d : Procedure) → get_elem? g.procedures m ≡ some d → Loopless d.body) where
    -- every move makes the sum less
    pub falls : (s : State) → Simple s → (p : ℕ) {R : Rule} {r : Option Record} {s' : State} → Moves g s p R r s'
        → (sum s'.threads < sum s.threads) × Simple s'
    unfolding become
    falls s N p (EVAL K {t} {e} {e'} {s' = s₁} ht he c) =
        let d = splits K e (along Loopless he (N p t ht)) in
        let f = falling g C L s N p t ht c d.0 in
        let z = sum_change s₁.threads p (becomes (plug K e')) f.mover f.there in
        let w : measure B f.mover.expression ≡ measure B (plug K e) = ap (measure B) (f.its ∙ he) in
        let y = plug_less B f.grown K e e' f.falls_by in
        let x = f.sum_is in
        (omega arith, simple_become s₁ p f.mover (plug K e') f.there (d.1 e' f.loopless) f.others)
    falls s N p (EVALᶜ K {t} {c} {c'} ht he k) =
        let d = splitsᶜ K c (along Loopless he (N p t ht)) in
        let f = fallingᶜ g C L s N p t ht k d.0 in
        let a = f.1 in
        let z = sum_change s.threads p (becomes (plugᶜ K c')) t ht in
        let w : measure B t.expression ≡ measure B (plugᶜ K c) = ap (measure B) he in
        let y = plug_lessᶜ B 0 K c c' f.0 (omega arith) in
        (omega arith, simple_become s p t (plugᶜ K c') ht (d.1 c' f.2) N)

    pub execution_bound : {s : State} {ps : List ℕ} {r : Run} → Simple s → Execution g s ps r
        → length (instances r) + sum r.final.threads ≤ sum s.threads
    unfolding instances stopped after_pass after_move
    execution_bound N ends = omega arith
    execution_bound N (passes h x) = execution_bound N x
    execution_bound N (lacks_key_lem h) = omega arith
    execution_bound N (no_room_lem h e) = omega arith
    execution_bound N (moves {s} {p = p} h k x) = let f = falls s N p h in let a = f.0 in let b = execution_bound f.1 x in omega arith
