-- A marked move has its like in the other run.
use Prim.Native.Nat.{ℕ, zero, suc, ◌<◌, ◌≤◌, ◌+◌}
use native.Mathlib.Omega.{arith}
use mathlib.Core.Path.{◌≡◌, refl, sym, ap, ◌∙◌, subst as along}
use mathlib.Core.Bool.{Bool, true, false, cond, ◌||◌, true≢false}
use mathlib.Core.List.{List, [], ◌∷◌, ◌++◌}
use mathlib.Core.Logic.{◌⊎◌, inl, inr}
use mathlib.Core.Option.{Option, some, none, or_else}
use lib.Dec.{T, eqb, eqb→eq, eqb_refl, ltb, leb, leb→le, nleb→lt}
use lib.ListN.{length, get_elem?, drop, drop_of_length-le}
use borrow.Author.Tests.{eq-eqb, eqb-true}
use Rattle.format.specs.Version.{Version, v0, v1}
use Rattle.run_keys.specs.Keys.{Keys, empty, singleton, union, holds, is_empty, subset}
use Rattle.run_keys.proofs.KeyLaws.{holds_singleton, subset_singleton, some_key, no_key}
use Rattle.plan_packed.specs.Syntax.{Signal, Expression, Condition, Procedure, Program, literal, bind, bind_parameters, substitute, sequence, bool}
use Rattle.plan_packed.proofs.WellFormed.{WellFormedProgram}
use Rattle.log_records.specs.Record.{Record, entry}
use Rattle.log_order.proofs.Ports.{Port, of_thread, of_monitor, of_volatile, Draws}
use Rattle.log_order.proofs.KeySets.{put, put_same}
use Rattle.log_order.proofs.KeyMachine.{after}
use Rattle.rules.specs.Context.{Context, Contextᶜ, Redex, Redexᶜ, Focus, focus, expression_depth, top, plug, plugᶜ, redex_expression, redex_condition}
use Rattle.rules.specs.State.{cell, Cell, Thread, State, fresh, fresh_object, lookup, monitor, change_at, gain, learn, hear, become, forked, in_place, signalled}
use Rattle.rules.specs.State.{store, store_monitor, add_object, add_thread, use_key, thread_of, Numbered}
use Rattle.rules.specs.Rules.{Rule, is_volatile, passed_on, Converts, E-CALL, E-LET, E-IF, E-WHILE, E-NEW, E-READ, E-WRITE, E-READV, E-WRITEV, E-FORK, E-JOIN}
use Rattle.rules.specs.Rules.{E-RE-ENTER, E-ACQUIRE, E-RELEASE, E-WAIT, E-WAKE, E-NOTIFY, E-NOTIFYALL, Convertsᶜ, E-NOTNOTTRUE, E-ANDTRUE, E-ANDFALSE}
use Rattle.rules.specs.Rules.{E-EQUALTRUE, E-EQUALFALSE, Moves, EVAL, EVALᶜ}
use Rattle.rules.specs.Room.{Room, no_room_before, no_room_after, no_room_for, deep, deep_at, any_deep}
use Rattle.rules.proofs.FocusPlug.{found, foundᶜ}
use Rattle.rules.proofs.Decompose.{whole, whole_focus}
use Rattle.rules.proofs.StateLaws.{inside, added_old, length_added, change_same, change_length, new_monitors, found_thread}
use Rattle.rules.proofs.Relocated.{relocated_length, is_there, signalled_relocated}
use Rattle.rules.proofs.Placed.{GivesUp}
use Rattle.rules.proofs.Invariant.{Inv, held_by}
use Rattle.rules.proofs.Preserved.{gained}
use Rattle.rules.proofs.Bridge.{Kept, its_key, full}
use Rattle.side_by_side.proofs.Like.{Naming, Like, e_lit, e_lets, e_if, e_while, e_hold, Likeᶜ, LikeContext, k_top, LikeContextᶜ, LikePart, r_var}
use Rattle.side_by_side.proofs.Like.{r_new, r_read, r_write, r_lets, r_if, r_while, r_call, r_fork, r_join, r_synch, r_hold, r_signal, LikePartᶜ}
use Rattle.side_by_side.proofs.Like.{r_not_false, r_and, r_equal, LikeFocus}
use Rattle.side_by_side.proofs.Correspondence.{Marks, Live, KeysIn, Mirror, FieldLike, Corresponds}
use Rattle.side_by_side.specs.Inner.Waitless.{NoWait, WaitlessProgram}
use Rattle.side_by_side.specs.Moves.{shown}
use Rattle.side_by_side.proofs.Likeness.{Extends, wider, wider_k, filled, itself, bind_like, params_like, length_like, focus_like, same_depth}
use Rattle.side_by_side.proofs.Likeness.{plug_like, plug_likeᶜ, bool_itself, Next, next, nextᶜ}
use Rattle.side_by_side.proofs.Moves.{corr_become, corr_gain, corr_signalled, keys_both}
use Rattle.side_by_side.proofs.Heap
use Rattle.side_by_side.proofs.Made
use Rattle.side_by_side.proofs.Heap.{empty_full, corr_store, corr_lock, corr_key, keys_wider}
use Rattle.side_by_side.proofs.Made.{corr_new, corr_thread, named_old}

-- who a join finds, where selves are apart
finds : (ts : List Thread) (i j o : ℕ) (u : Thread) → get_elem? ts j ≡ some u → u.self ≡ o
    → ((k : ℕ) (w : Thread) → get_elem? ts k ≡ some w → w.self ≡ o → k ≡ j) → (n : ℕ) → n ≡ i + j → thread_of i ts o ≡ some (record { number = n; thread = u })
unfolding thread_of
finds [] i j o u h e a n q = absurd (let z : ◌≡◌ {A = ℕ} 0 1 = cc in omega arith)
finds (x ∷ ts) i zero o u h e a n q =
    let y : x ≡ u = cc in
    let s : eqb x.self o ≡ true = eq-eqb x.self o (ap (λ (z : Thread). z.self) y ∙ e) in
    let m : i ≡ n = omega arith in
    rw (s, m, y)
finds (x ∷ ts) i (suc j) o u h e a n q =
    go (eqb x.self o) refl (finds ts (suc i) j o u h e (λ k w g f. let r : suc k ≡ suc j = a (suc k) w g f in omega arith) n (omega arith))
  where
    go : (b : Bool) → eqb x.self o ≡ b → thread_of (suc i) ts o ≡ some (record { number = n; thread = u })
        → cond b (some (record { number = i; thread = x })) (thread_of (suc i) ts o) ≡ some (record { number = n; thread = u })
    go true s k = let z : ◌≡◌ {A = ℕ} 0 (suc j) = a 0 x refl (eqb-true x.self o s) in absurd (omega arith)
    go false s k = k

-- an expression like a value is a value
like_lit : {ω : Naming} {e : Expression} (v : ℕ) → Like ω (Expression.literal v) e → (w : ℕ) × (e ≡ Expression.literal w) × (ω v ≡ some w)
like_lit v (e_lit {a = a} h) = (a, refl, h)

like_same : {ω : Naming} {d d' e : Expression} → d ≡ d' → Like ω d e → Like ω d' e
like_same {ω} {e = e} q l = along (λ (x : Expression). Like ω x e) q l

fresh_keys : fresh.keys ≡ 1
unfolding fresh
fresh_keys = refl

-- a part like another has given up no monitor
keeping : {ω : Naming} {x y : Redex} → LikePart ω x y → (o : ℕ) → GivesUp x o → ⊥
keeping r_var o z = z
keeping r_new o z = z
keeping (r_read n) o z = z
keeping (r_write n n') o z = z
keeping (r_lets n l) o z = z
keeping (r_if l l') o z = z
keeping (r_while l l') o z = z
keeping (r_call l) o z = z
keeping (r_fork l) o z = z
keeping (r_join n) o z = z
keeping (r_synch n l) o z = z
keeping (r_hold n n') o z = z
keeping (r_signal k n) o z = z

-- which rule makes a thread
abbrev pub forks : Rule → Bool
forks Rule.e_call = false
forks Rule.e_let = false
forks Rule.e_if = false
forks Rule.e_while = false
forks Rule.e_notnottrue = false
forks Rule.e_andtrue = false
forks Rule.e_andfalse = false
forks Rule.e_equaltrue = false
forks Rule.e_equalfalse = false
forks Rule.e_new = false
forks Rule.e_read = false
forks Rule.e_write = false
forks Rule.e_readv = false
forks Rule.e_writev = false
forks Rule.e_fork = true
forks Rule.e_join = false
forks Rule.e_re_enter = false
forks Rule.e_acquire = false
forks Rule.e_release = false
forks Rule.e_wait = false
forks Rule.e_wake = false
forks Rule.e_notify = false
forks Rule.e_notifyall = false

abbrev pub name_by : Bool → Naming → ℕ → ℕ → Naming
name_by true τ n m = put τ n (some m)
name_by false τ n m = τ

abbrev pub count_by : Bool → ℕ → ℕ
count_by true n = suc n
count_by false n = n

-- the move of the other run, and how the states correspond after both
pub record Follows (g : Program) (S : Marks) (H : List Record) (ω τ : Naming) (s : State) (p : ℕ) (c : State) (q : ℕ) (R : Rule) (s₂ : State) : Type 0 where
  pub after : State
  pub entry : Option Record
  pub ω' : Naming
  pub τ' : Naming
  pub κ' : Naming
  pub moves : Moves g c q R entry after
  pub corr : Corresponds g S H ω' τ' κ' s₂ after
  pub wide_objects : Extends ω ω'
  pub wide_threads : Extends τ τ'
  pub room : no_room_for R s p s₂ ≡ none → no_room_for R c q after ≡ none
  pub renamed : (i : ℕ) → τ' i ≡ name_by (forks R) τ (length s.threads) (length c.threads) i
  pub counted : length after.threads ≡ count_by (forks R) (length c.threads)

module _ (g : Program) (P : WellFormedProgram g) (Q : WaitlessProgram g) (S : Marks) (H : List Record) (ω τ κ : Naming) (s c : State)
    (C : Corresponds g S H ω τ κ s c) (I : Inv g s) (I' : Inv g c) (J' : Kept g s H)
    (small : (o f : ℕ) (d : Cell) → lookup s o f ≡ some d → is_volatile g f ≡ false → (k : ℕ) → T (holds d.keys k) → k < s.next_key)
    (positive : 0 < s.next_key)
    (p : ℕ) (t : Thread) (ht : get_elem? s.threads p ≡ some t) (m : Mirror ω τ κ c.threads p t) where
  abbrev q : ℕ
  q = m.number

  abbrev u : Thread
  u = m.thread

  same_name : (o a b : ℕ) → ω o ≡ some a → ω o ≡ some b → a ≡ b
  same_name o a b x y = let k : some a ≡ some b = sym x ∙ y in cc

  module _ (K : Context) (x : Redex) (he : t.expression ≡ plug K (redex_expression x)) where
    there : Next ω K x (focus top u.expression)
    there = next ω (along (λ (F : Focus). LikeFocus ω F (focus top u.expression)) (ap (focus top) he ∙ found K x)
        (focus_like ω C.names.zero_kept m.expr_like k_top))

    spelt : (J : Context) (y : Redex) → focus top u.expression ≡ Focus.here J y → u.expression ≡ plug J (redex_expression y)
    unfolding whole
    spelt J y e = sym (whole_focus u.expression) ∙ ap whole e

  -- ---- room

  same_deep : (ω₂ : Naming) → ω₂ 0 ≡ some 0 → (a b : Thread) → Like ω₂ a.expression b.expression → deep a ≡ deep b
  unfolding deep expression_depth
  same_deep ω₂ z a b l = ap (λ (n : ℕ). ltb 32 n) (same_depth ω₂ (focus_like ω₂ z l k_top))

  -- with as many threads or fewer, and so on, the room before the move is there too
  room_by : (ω₂ : Naming) (R : Rule) (s₁ c₁ : State) (t₁ u₁ : Thread) → get_elem? s₁.threads p ≡ some t₁ → get_elem? c₁.threads q ≡ some u₁
      → ω₂ 0 ≡ some 0 → (d e : Expression) → Like ω₂ d e
      → (any_deep (drop (length s.threads) (become s₁ p d).threads) ≡ false → any_deep (drop (length c.threads) (become c₁ q e).threads) ≡ false)
      → no_room_for R s p (become s₁ p d) ≡ none → no_room_for R c q (become c₁ q e) ≡ none
  unfolding no_room_for no_room_before no_room_after become deep_at or_else
  room_by ω₂ R s₁ c₁ t₁ u₁ h₁ h₂ z d e l more' lk =
      both_none (no_room_before c R) _ (before_fewer R (first_none (no_room_before s R) _ lk)) (after_too (second_none (no_room_before s R) _ lk))
    where
      with_expression : Expression → Thread → Thread
      with_expression e x = record { self = x.self; expression = e; keys = x.keys; learnt = x.learnt; place = x.place }

      deep_s : deep_at (get_elem? (become s₁ p d).threads p) ≡ deep (with_expression d t₁)
      deep_s = ap deep_at (change_same s₁.threads p (with_expression d) t₁ h₁)

      deep_c : deep_at (get_elem? (become c₁ q e).threads q) ≡ deep (with_expression d t₁)
      deep_c = ap deep_at (change_same c₁.threads q (with_expression e) u₁ h₂) ∙ sym (same_deep ω₂ z (with_expression d t₁) (with_expression e u₁) l)

      after_too : cond (deep_at (get_elem? (become s₁ p d).threads p) || any_deep (drop (length s.threads) (become s₁ p d).threads))
          (some Room.depth) none ≡ none → cond (deep_at (get_elem? (become c₁ q e).threads q) || any_deep (drop (length c.threads) (become c₁ q e).threads))
          (some Room.depth) none ≡ none
      after_too x = go (deep_at (get_elem? (become s₁ p d).threads p)) (any_deep (drop (length s.threads) (become s₁ p d).threads))
          (deep_at (get_elem? (become c₁ q e).threads q)) (any_deep (drop (length c.threads) (become c₁ q e).threads)) (deep_s ∙ sym deep_c) more' x
        where
          go : (a b a' b' : Bool) → a ≡ a' → (b ≡ false → b' ≡ false) → cond (a || b) (some Room.depth) none ≡ none
              → cond (a' || b') (some Room.depth) none ≡ none
          go true b a' b' q' f x = let y : ◌≡◌ {A = ℕ} 0 1 = cc in absurd (omega arith)
          go false true a' b' q' f x = let y : ◌≡◌ {A = ℕ} 0 1 = cc in absurd (omega arith)
          go false false true b' q' f x = let y : ◌≡◌ {A = ℕ} 0 1 = cc in absurd (omega arith)
          go false false false b' q' f x = let y = f refl in rw y

      first_none : (a b : Option Room) → or_else a b ≡ none → a ≡ none
      first_none none b x = refl
      first_none (some r) b x = let y : ◌≡◌ {A = ℕ} 0 1 = cc in absurd (omega arith)

      second_none : (a b : Option Room) → or_else a b ≡ none → b ≡ none
      second_none none b x = x
      second_none (some r) b x = let y : ◌≡◌ {A = ℕ} 0 1 = cc in absurd (omega arith)

      both_none : (a b : Option Room) → a ≡ none → b ≡ none → or_else a b ≡ none
      both_none none b x y = y
      both_none (some r) b x y = let z : ◌≡◌ {A = ℕ} 0 1 = cc in absurd (omega arith)

      smaller : (n a b : ℕ) (k : Room) (r r' : Option Room) → b ≤ a → (r ≡ none → r' ≡ none) → cond (leb n a) (some k) r ≡ none
          → cond (leb n b) (some k) r' ≡ none
      smaller n a b k r r' le f x = go (leb n a) (leb n b) refl refl x
        where
          go : (y w : Bool) → leb n a ≡ y → leb n b ≡ w → cond y (some k) r ≡ none → cond w (some k) r' ≡ none
          go true w p₁ p₂ x = let y : ◌≡◌ {A = ℕ} 0 1 = cc in absurd (omega arith)
          go false true p₁ p₂ x = let i = nleb→lt n a (rw p₁ tt) in let j = leb→le n b (rw p₂ tt) in absurd (omega arith)
          go false false p₁ p₂ x = f x

      before_fewer : (R : Rule) → no_room_before s R ≡ none → no_room_before c R ≡ none
      before_fewer Rule.e_call x = refl
      before_fewer Rule.e_let x = refl
      before_fewer Rule.e_if x = refl
      before_fewer Rule.e_while x = refl
      before_fewer Rule.e_notnottrue x = refl
      before_fewer Rule.e_andtrue x = refl
      before_fewer Rule.e_andfalse x = refl
      before_fewer Rule.e_equaltrue x = refl
      before_fewer Rule.e_equalfalse x = refl
      before_fewer Rule.e_new x = smaller 32 (length s.objects) (length c.objects) Room.object none none C.names.fewer_objects (λ y. y) x
      before_fewer Rule.e_read x = refl
      before_fewer Rule.e_write x = smaller 256 s.next_key c.next_key Room.key none none C.names.fewer_keys (λ y. y) x
      before_fewer Rule.e_readv x = refl
      before_fewer Rule.e_writev x = refl
      before_fewer Rule.e_fork x =
          smaller 8 (length s.threads) (length c.threads) Room.thread _ _ C.names.fewer_threads
          (λ y. smaller 32 (length s.objects) (length c.objects) Room.object none none C.names.fewer_objects (λ y. y) y) x
      before_fewer Rule.e_join x = refl
      before_fewer Rule.e_re_enter x = refl
      before_fewer Rule.e_acquire x = refl
      before_fewer Rule.e_release x = refl
      before_fewer Rule.e_wait x = refl
      before_fewer Rule.e_wake x = refl
      before_fewer Rule.e_notify x = refl
      before_fewer Rule.e_notifyall x = refl

  room_same : (ω₂ : Naming) (R : Rule) (s₁ c₁ : State) (t₁ u₁ : Thread) → get_elem? s₁.threads p ≡ some t₁ → get_elem? c₁.threads q ≡ some u₁
      → length s₁.threads ≡ length s.threads → length c₁.threads ≡ length c.threads → ω₂ 0 ≡ some 0 → (d e : Expression) → Like ω₂ d e
      → no_room_for R s p (become s₁ p d) ≡ none → no_room_for R c q (become c₁ q e) ≡ none
  unfolding become any_deep
  room_same ω₂ R s₁ c₁ t₁ u₁ h₁ h₂ x y z d e l =
      room_by ω₂ R s₁ c₁ t₁ u₁ h₁ h₂ z d e l
      (λ _. ap any_deep (drop_of_length-le
      (change_at c₁.threads q (λ w. record { self = w.self; expression = e; keys = w.keys; learnt = w.learnt; place = w.place })) {i =
      length c.threads} (omega
      (arith, change_length c₁.threads q (λ w. record { self = w.self; expression = e; keys = w.keys; learnt = w.learnt; place = w.place }), y))))

  drop_new : (ts : List Thread) (x : Thread) (i : ℕ) (h : Thread → Thread) → i < length ts → drop (length ts) (change_at (ts ++ (x ∷ [])) i h) ≡ x ∷ []
  unfolding change_at
  drop_new [] x i h b = absurd (omega arith)
  drop_new (y ∷ ts) x zero h b = drop_end ts
    where
      drop_end : (l : List Thread) → drop (length l) (l ++ (x ∷ [])) ≡ x ∷ []
      drop_end [] = refl
      drop_end (z ∷ l) = drop_end l
  drop_new (y ∷ ts) x (suc i) h b = drop_new ts x i h (omega arith)

  -- the depth of a new thread
  deep_new : {ω₂ : Naming} (a b : Thread) (d e : Expression) → ω₂ 0 ≡ some 0 → Like ω₂ a.expression b.expression
      → any_deep (drop (length s.threads)
      (change_at (s.threads ++ (a ∷ [])) p (λ x. record { self = x.self; expression = d; keys = x.keys; learnt = x.learnt; place = x.place })))
      ≡ false
      → any_deep (drop (length c.threads)
      (change_at (c.threads ++ (b ∷ [])) q (λ x. record { self = x.self; expression = e; keys = x.keys; learnt = x.learnt; place = x.place })))
      ≡ false
  unfolding any_deep
  deep_new {ω₂} a b d e z l x =
      ap any_deep (drop_new c.threads b q _ (inside c.threads q u m.there))
      ∙ ap (λ (y : Bool). y || false) (sym (same_deep ω₂ z a b l))
      ∙ sym (ap any_deep (drop_new s.threads a p _ (inside s.threads p t ht))) ∙ x

  -- for every part like x of the other run, in a context like K
  abbrev Facing : Context → Redex → Type 0 → Type 0
  Facing K x G = (J : Context) (y : Redex) → LikePart ω x y → LikeContext ω K J → u.expression ≡ plug J (redex_expression y) → G

  -- what a rule that makes no thread comes to, where its state s₁ but for the mover's expression corresponds to c₁ of the same rule in the other run
  leaves : (ω₂ κ₂ : Naming) → Extends ω ω₂ → (s₁ c₁ : State) → Corresponds g S H ω₂ τ κ₂ s₁ c₁ → (t₁ u₁ : Thread) → get_elem? s₁.threads p ≡ some t₁
      → get_elem? c₁.threads q ≡ some u₁
      → length s₁.threads ≡ length s.threads → length c₁.threads ≡ length c.threads → ω₂ t₁.self ≡ some u₁.self
      → KeysIn κ₂ t₁.keys u₁.keys
      → (R : Rule) → forks R ≡ false → (K J : Context) {r : Option Record} {e' : Expression} (d d' : Expression) → LikeContext ω K J
      → u.expression ≡ plug J e' → Converts g c q u e' R r c₁ d' → Like ω₂ d d'
      → Follows g S H ω τ s p c q R (become s₁ p (plug K d))
  unfolding become
  leaves ω₂ κ₂ wd s₁ c₁ C₁ t₁ u₁ at at' many many' selves keys R nf K J {r} d d' k h cv l =
      let kd : Like ω₂ (plug K d) (plug J d') = plug_like ω₂ (wider_k ω ω₂ wd k) l in
      record {
        after = become c₁ q (plug J d');
        entry = r;
        ω' = ω₂;
        τ' = τ;
        κ' = κ₂;
        moves = EVAL J m.there h cv;
        corr = corr_become g S H ω₂ τ κ₂ s₁ c₁ C₁ p q t₁ u₁ m.named at at' selves keys (plug K d) (plug J d') kd;
        wide_objects = wd;
        wide_threads = λ o a h. h;
        room = room_same ω₂ R s₁ c₁ t₁ u₁ at at' many many' (wd 0 0 C.names.zero_kept) (plug K d) (plug J d') kd;
        renamed = λ i. ap (λ (b : Bool). name_by b τ (length s.threads) (length c.threads) i) (sym nf);
        counted = change_length c₁.threads q _ ∙ many' ∙ ap (λ (b : Bool). count_by b (length c.threads)) (sym nf);
      }

  same_names : Extends ω ω
  same_names o a h = h

  -- a move that leaves the movers' objects and keys alone
  alters : (s₁ c₁ : State) → s₁.threads ≡ s.threads → c₁.threads ≡ c.threads → Corresponds g S H ω τ κ s₁ c₁ → (R : Rule) → forks R ≡ false
      → (K J : Context) {r : Option Record} {e' : Expression} (d d' : Expression)
      → LikeContext ω K J → u.expression ≡ plug J e' → Converts g c q u e' R r c₁ d' → Like ω d d' → Follows g S H ω τ s p c q R (become s₁ p (plug K d))
  alters s₁ c₁ e e' C₁ =
      leaves ω κ same_names s₁ c₁ C₁ t u (ap (λ (l : List Thread). get_elem? l p) e ∙ ht) (ap (λ (l : List Thread). get_elem? l q) e' ∙ m.there) (ap length e)
      (ap length e') m.self_like m.keys_like

  -- a move that leaves the rest of the state alone
  still : (R : Rule) → forks R ≡ false → (K J : Context) {r : Option Record} {e' : Expression} (d d' : Expression) → LikeContext ω K J
      → u.expression ≡ plug J e' → Converts g c q u e' R r c d' → Like ω d d'
      → Follows g S H ω τ s p c q R (become s p (plug K d))
  still = alters s c refl refl C

  -- a move after which the movers gain keys
  gains : (s₁ c₁ : State) → s₁.threads ≡ s.threads → c₁.threads ≡ c.threads → (κ₂ : Naming) → Corresponds g S H ω τ κ₂ s₁ c₁
      → KeysIn κ₂ t.keys u.keys → (W W' : Keys) → KeysIn κ₂ W W' → (n n' : Keys → ℕ)
      → (R : Rule) → forks R ≡ false → (K J : Context) {r : Option Record} {e' : Expression} (d d' : Expression) → LikeContext ω K J
      → u.expression ≡ plug J e' → Converts g c q u e' R r (gain c₁ q W' n') d' → Like ω d d'
      → Follows g S H ω τ s p c q R (become (gain s₁ p W n) p (plug K d))
  unfolding gain
  gains s₁ c₁ e e' κ₂ C₁ old W W' w n n' =
      let at : get_elem? s₁.threads p ≡ some t = ap (λ (l : List Thread). get_elem? l p) e ∙ ht in
      let at' : get_elem? c₁.threads q ≡ some u = ap (λ (l : List Thread). get_elem? l q) e' ∙ m.there in
      leaves ω κ₂ same_names (gain s₁ p W n) (gain c₁ q W' n')
      (corr_gain g S H ω τ κ₂ s₁ c₁ C₁ p q t u m.named at at' m.self_like m.expr_like old W W' n n' w)
      (gained t W n) (gained u W' n') (change_same s₁.threads p _ t at) (change_same c₁.threads q _ u at')
      (change_length s₁.threads p _ ∙ ap length e) (change_length c₁.threads q _ ∙ ap length e')
      m.self_like (keys_both κ₂ W t.keys W' u.keys w old)

  -- what a volatile access passes on, by the version
  passed_in : (n : Version) (W W' : Keys) → KeysIn κ W W' → KeysIn κ (passed_on n W) (passed_on n W')
  unfolding passed_on
  passed_in v0 W W' h k x = absurd (no_key empty k (unfold is_empty in refl) x)
  passed_in v1 W W' h k x = h k x

  -- a plain access that has its key has it in the other run
  access : (o a f w v : ℕ) → ω o ≡ some a → lookup s o f ≡ some (cell (singleton w) v) → holds t.keys w ≡ true → is_volatile g f ≡ false
      → (w' : ℕ) × (v' : ℕ) × (lookup c a f ≡ some (cell (singleton w') v')) × (holds u.keys w' ≡ true) × (ω v ≡ some v')
  access o a f w v n h k vol =
      let y = m.keys_like w (rw k tt) in
      let x = C.fields o a f (cell (singleton w) v) n h in
      let z = x.2.plain vol w y.0 (rw (holds_singleton w w) (eqb_refl w)) y.1 in
      (y.0, x.0.value, x.1 ∙ (λ i. some (record { keys = z.0 i; value = x.0.value })), yes (holds u.keys y.0) y.2, z.1)
    where
      yes : (b : Bool) → T b → b ≡ true
      yes true h = refl
      yes false h = absurd h

  via : (K : Context) (x : Redex) → t.expression ≡ plug K (redex_expression x) → {G : Type 0} → Facing K x G → G
  via K x he k = let n = there K x he in k n.around n.part n.part_like n.around_like (spelt K x he n.around n.part n.found)

  f_call : (K : Context) (f : ℕ) (os : List ℕ) (d : Procedure) → get_elem? g.procedures f ≡ some d → d.parameters ≡ length os
      → Facing K (Redex.call f os) (Follows g S H ω τ s p c q Rule.e_call (become s p (plug K (substitute (bind_parameters os) d.body))))
  unfolding redex_expression
  f_call K f os d hd hp J y (r_call {as' = as'} l) k sp =
      still Rule.e_call refl K J _ _ k sp (E-CALL as' hd (hp ∙ length_like ω l))
      (filled ω (itself ω g C.names.zero_kept _ d.body (P.bodies f d hd) (Q.bodies f d hd)) (bind_parameters os) (bind_parameters as') (params_like ω l))

  f_let : (K : Context) (x : Option ℕ) (o : ℕ) (e : Expression)
      → Facing K (Redex.let_in x o e) (Follows g S H ω τ s p c q Rule.e_let (become s p (plug K (substitute (bind x o) e))))
  unfolding redex_expression
  f_let K x o e J y (r_lets {a = a} n l) k sp = still Rule.e_let refl K J _ _ k sp E-LET (filled ω l (bind x o) (bind x a) (bind_like ω x o a n))

  choose_like : (b : Bool) {d e d' e' : Expression} → Like ω d e → Like ω d' e' → Like ω (cond b d d') (cond b e e')
  choose_like true x y = x
  choose_like false x y = y

  f_if : (K : Context) (b : Bool) (e e' : Expression) → Facing K (Redex.if b e e') (Follows g S H ω τ s p c q Rule.e_if (become s p (plug K (cond b e e'))))
  unfolding redex_expression
  f_if K b e e' J y (r_if l l') k sp = still Rule.e_if refl K J _ _ k sp (E-IF b) (choose_like b l l')

  f_while : (K : Context) (b : Condition) (e : Expression)
      → Facing K (Redex.while b e)
      (Follows g S H ω τ s p c q Rule.e_while (become s p (plug K (Expression.if b (sequence e (Expression.while b e)) (literal 0)))))
  unfolding redex_expression sequence
  f_while K b e J y (r_while l l') k sp = still Rule.e_while refl K J _ _ k sp E-WHILE (e_if l (e_lets l' (e_while l l')) (e_lit C.names.zero_kept))

  f_read : (K : Context) (o f w v : ℕ) → lookup s o f ≡ some (cell (singleton w) v) → holds t.keys w ≡ true → is_volatile g f ≡ false
      → Facing K (Redex.read o f) (Follows g S H ω τ s p c q Rule.e_read (become s p (plug K (literal v))))
  unfolding redex_expression
  f_read K o f w v h k vol J y (r_read {a = a} n) kk sp = let x =
      access o a f w v n h k vol in still Rule.e_read refl K J _ _ kk sp (E-READ x.0 x.2 x.3 vol) (e_lit x.4)

  f_readv : (K : Context) (o f v : ℕ) (W : Keys) → lookup s o f ≡ some (cell W v) → is_volatile g f ≡ true → Live S H (of_volatile o f)
      → Facing K (Redex.read o f) (Follows g S H ω τ s p c q Rule.e_readv (become (hear s p (passed_on g.version W)) p (plug K (literal v))))
  unfolding redex_expression
  f_readv K o f v W h vol l J y (r_read {a = a} n) k sp =
      let x = C.fields o a f (cell W v) n h in
      let z = x.2.volatile vol l in
      gains s c refl refl κ C m.keys_like (passed_on g.version W) (passed_on g.version x.0.keys) (passed_in g.version W x.0.keys z.0) _ _
      Rule.e_readv refl K J _ _ k sp (E-READV {v = x.0.value} {W = x.0.keys} x.1 vol) (e_lit z.1)

  f_re_enter : (K : Context) (o : ℕ) (e : Expression) → monitor s o ≡ some (held_by t) → Live S H (of_thread p)
      → Facing K (Redex.synch o e) (Follows g S H ω τ s p c q Rule.e_re_enter (become s p (plug K e)))
  unfolding redex_expression
  f_re_enter K o e h l J y (r_synch {a = a} n b) k sp =
      still Rule.e_re_enter refl K J _ _ k sp (E-RE-ENTER (C.held o a p u.self t n ht l h m.self_like)) b

  f_join : (K : Context) (o v : ℕ) (w : Numbered) → thread_of 0 s.threads o ≡ some w → w.thread.expression ≡ literal v → Live S H (of_thread w.number)
      → Facing K (Redex.join o) (Follows g S H ω τ s p c q Rule.e_join (become (hear s p w.thread.keys) p (plug K (literal v))))
  unfolding redex_expression
  f_join K o v w h e l J y (r_join {a = a} n) k sp =
      let j = found_thread s.threads 0 o w h in
      let at : get_elem? s.threads w.number ≡ some w.thread = ap (get_elem? s.threads) (let z : w.number ≡ j.0 = omega (arith, j.1) in z) ∙ j.2 in
      let b = C.mirrors w.number w.thread l at in
      let x = like_lit v (like_same e b.expr_like) in
      let self : b.thread.self ≡ a = same_name o b.thread.self a (ap ω (sym j.3) ∙ b.self_like) n in
      gains s c refl refl κ C m.keys_like w.thread.keys b.thread.keys b.keys_like _ _ Rule.e_join refl K J _ _ k sp
      (E-JOIN (finds c.threads 0 b.number a b.thread b.there self
      (λ i z hz ez. I'.apart i b.number z b.thread hz b.there (ez ∙ sym self)) b.number (omega arith)) x.1) (e_lit x.2)

  f_new : (K : Context) (fs : List ℕ)
      → Facing K (Redex.new fs) (Follows g S H ω τ s p c q Rule.e_new (become (add_object s (fresh_object fs)) p (plug K (literal (length s.objects)))))
  unfolding redex_expression add_object
  f_new K fs J y r_new k sp =
      let ω₂ : Naming = put ω (length s.objects) (some (length c.objects)) in
      let wd : Extends ω ω₂ = Made.wide g S H ω τ κ s c C fs in
      leaves ω₂ κ wd (add_object s (fresh_object fs)) (add_object c (fresh_object fs))
      (corr_new g S H ω τ κ s c C fs (λ i z hz. (I.each i z hz).self_there)) t u ht m.there refl refl
      (wd t.self u.self m.self_like) m.keys_like Rule.e_new refl K J _ _ k sp E-NEW
      (e_lit (put_same ω (length s.objects) (some (length c.objects))))

  f_fork : (K : Context) (e : Expression)
      → Facing K (Redex.fork e)
      (Follows g S H ω τ s p c q Rule.e_fork (become (add_thread (add_object s (fresh_object [])) (forked s t e)) p (plug K (literal (length s.objects)))))
  unfolding redex_expression add_object add_thread become change_at
  f_fork K e J y (r_fork {e = e'} l) k sp =
      let ω₂ : Naming = put ω (length s.objects) (some (length c.objects)) in
      let τ₂ : Naming = put τ (length s.threads) (some (length c.threads)) in
      let wd : Extends ω ω₂ = Made.wide g S H ω τ κ s c C [] in
      let wt : Extends τ τ₂ = named_old τ (length s.threads) (length c.threads) (λ i j h. (C.names.threads i j h).0) in
      let new_s : Thread = forked s t e in
      let new_c : Thread = forked c u e' in
      let C₁ = corr_new g S H ω τ κ s c C [] (λ i z hz. (I.each i z hz).self_there) in
      let name : ω₂ (length s.objects) ≡ some (length c.objects) = put_same ω (length s.objects) (some (length c.objects)) in
      let C₂ = corr_thread g S H ω₂ τ κ (add_object s (fresh_object [])) (add_object c (fresh_object [])) C₁ new_s new_c (wider ω ω₂ wd l) name
      m.keys_like no_owner in
      record {
        after = become (add_thread (add_object c (fresh_object [])) new_c) q (plug J (literal (length c.objects)));
        entry = _;
        ω' = ω₂;
        τ' = τ₂;
        κ' = κ;
        moves = EVAL J m.there sp E-FORK;
        corr = corr_become g S H ω₂ τ₂ κ (add_thread (add_object s (fresh_object [])) new_s) (add_thread (add_object c (fresh_object [])) new_c) C₂ p q t u
            (wt p q m.named) (added_old s.threads new_s p (inside s.threads p t ht) ∙ ht)
            (added_old c.threads new_c q (inside c.threads q u m.there) ∙ m.there) (wd t.self u.self m.self_like) m.keys_like _ _
            (plug_like ω₂ (wider_k ω ω₂ wd k) (e_lit name));
        wide_objects = wd;
        wide_threads = wt;
        room = room_by ω₂ Rule.e_fork (add_thread (add_object s (fresh_object [])) new_s) (add_thread (add_object c (fresh_object [])) new_c) t u
            (added_old s.threads new_s p (inside s.threads p t ht) ∙ ht) (added_old c.threads new_c q (inside c.threads q u m.there)
            ∙ m.there) (wd 0 0 C.names.zero_kept) _ _ (plug_like ω₂ (wider_k ω ω₂ wd k) (e_lit name))
            (deep_new new_s new_c _ _ (wd 0 0 C.names.zero_kept) (wider ω ω₂ wd l));
        renamed = λ i. refl;
        counted = change_length (c.threads ++ (new_c ∷ [])) q _ ∙ length_added c.threads new_c;
      }
    where
      no_owner : (o : ℕ) → monitor (add_object s (fresh_object [])) o ≡ some (record { keys = empty; value = length s.objects }) → ⊥
      no_owner o h = go (new_monitors s [] o)
        where
          go : (monitor (add_object s (fresh_object [])) o ≡ monitor s o) ⊎
              ((length s.objects ≡ o) × (monitor s o ≡ none) × (monitor (add_object s (fresh_object [])) o ≡ some fresh)) → ⊥
          go (inl e) = let b = I.owners o (record { keys = empty; value = length s.objects }) (sym e ∙ h) in omega arith
          go (inr (_, _, e)) =
              let j : some fresh ≡ some (record { keys = empty; value = length s.objects }) = sym e ∙ h in
              let i : fresh ≡ record { keys = empty; value = length s.objects } = cc in
              let z : ◌≡◌ {A = ℕ} 1 0 = sym fresh_keys ∙ ap (λ (d : Cell). d.keys) i in
              omega arith

  f_write : (K : Context) (o f w₀ u₀ v : ℕ) → lookup s o f ≡ some (cell (singleton w₀) u₀) → holds t.keys w₀ ≡ true → is_volatile g f ≡ false
      → Facing K (Redex.write o f v)
      (Follows g S H ω τ s p c q Rule.e_write
      (become (learn (store (use_key s) o f (cell (singleton s.next_key) v)) p (singleton s.next_key)) p (plug K (literal v))))
  unfolding redex_expression store use_key lookup
  f_write K o f w₀ u₀ v h hk plain J y (r_write {a = a} {w = v'} n nv) k sp =
      let x = access o a f w₀ u₀ n h hk plain in
      let κ₂ : Naming = put κ s.next_key (some c.next_key) in
      let lg : Extends κ κ₂ = Heap.longer g S H ω τ κ s c C small positive in
      let new_s : Cell = cell (singleton s.next_key) v in
      let new_c : Cell = cell (singleton c.next_key) v' in
      gains (store (use_key s) o f new_s) (store (use_key c) a f new_c) refl refl κ₂
      (corr_store g S H ω τ κ₂ (use_key s) (use_key c) (corr_key g S H ω τ κ s c C small positive) o a f (cell (singleton w₀) u₀)
      (cell (singleton x.0) x.1) new_s new_c n h x.2 (fresh_key plain v v' nv))
      (keys_wider κ κ₂ lg t.keys u.keys m.keys_like) (singleton s.next_key) (singleton c.next_key) one_key _ _
      Rule.e_write refl K J _ _ k sp (E-WRITE x.0 x.2 x.3 plain) (e_lit nv)
    where
      one_key : KeysIn (put κ s.next_key (some c.next_key)) (singleton s.next_key) (singleton c.next_key)
      one_key i b =
          let e : i ≡ s.next_key = eqb→eq i s.next_key (rw (holds_singleton s.next_key i) at b) in (
            c.next_key,
            ap (put κ s.next_key (some c.next_key)) e ∙ put_same κ s.next_key (some c.next_key),
            along T (sym (holds_singleton c.next_key c.next_key)) (eqb_refl c.next_key),
          )

      fresh_key : is_volatile g f ≡ false → (v v' : ℕ) → ω v ≡ some v'
          → FieldLike g S H ω (put κ s.next_key (some c.next_key)) o f (cell (singleton s.next_key) v) (cell (singleton c.next_key) v')
      fresh_key nv v v' val = record {
        plain = λ _ i i' b e.
            let r = one_key i b in
            let j : some r.0 ≡ some i' = sym r.1 ∙ e in
            let z : r.0 ≡ i' = cc in
            (ap singleton z, val);
        volatile = λ vo _. absurd (true≢false (sym vo ∙ nv));
      }

  f_writev : (K : Context) (o f u₀ v : ℕ) (W : Keys) → lookup s o f ≡ some (cell W u₀) → is_volatile g f ≡ true
      → Facing K (Redex.write o f v)
      (Follows g S H ω τ s p c q Rule.e_writev (become (store s o f (cell (union W (passed_on g.version t.keys)) v)) p (plug K (literal v))))
  unfolding redex_expression store
  f_writev K o f u₀ v W h vo J y (r_write {a = a} {w = v'} n nv) k sp =
      let x = C.fields o a f (cell W u₀) n h in
      let told : Keys = passed_on g.version t.keys in
      let told' : Keys = passed_on g.version u.keys in
      let new_s : Cell = cell (union W told) v in
      let new_c : Cell = cell (union x.0.keys told') v' in
      let fl : FieldLike g S H ω κ o f new_s new_c = record {
        plain = λ nvo i i' b e. absurd (true≢false (sym vo ∙ nvo));
        volatile = λ _ l. (keys_both κ W told x.0.keys told' (x.2.volatile vo l).0 (passed_in g.version t.keys u.keys m.keys_like), nv);
      } in
      alters (store s o f new_s) (store c a f new_c) refl refl (corr_store g S H ω τ κ s c C o a f (cell W u₀) x.0 new_s new_c n h x.1 fl)
      Rule.e_writev refl K J _ _ k sp (E-WRITEV {u = x.0.value} {W = x.0.keys} x.1 vo) (e_lit nv)

  f_acquire : (K : Context) (o : ℕ) (e : Expression) (d : Cell) → monitor s o ≡ some d → is_empty d.keys ≡ false → Live S H (of_monitor o)
      → Facing K (Redex.synch o e)
      (Follows g S H ω τ s p c q Rule.e_acquire (become (hear (store_monitor s o (held_by t)) p d.keys) p (plug K (Expression.hold o e))))
  unfolding redex_expression store_monitor
  f_acquire K o e d h f l J y (r_synch {a = a} n b) k sp =
      let x = C.free o a d n h f l in
      gains (store_monitor s o (held_by t)) (store_monitor c a (held_by u)) refl refl κ
      (corr_lock g S H ω τ κ s c C o a d x.0 (held_by t) (held_by u) n h x.1 (λ z. absurd (empty_full z)) same_holder)
      m.keys_like d.keys x.0.keys x.3 _ _ Rule.e_acquire refl K J _ _ k sp (E-ACQUIRE {u = x.0.value} {W = x.0.keys} x.1 x.2)
      (e_hold n b)
    where
      same_holder : (z b : ℕ) → held_by t ≡ record { keys = empty; value = z } → ω z ≡ some b → held_by u ≡ record { keys = empty; value = b }
      same_holder z b e w =
          let x : t.self ≡ z = ap (λ (d : Cell). d.value) e in
          let y : u.self ≡ b = same_name z u.self b (ap ω (sym x) ∙ m.self_like) w in
          ap (λ (v : ℕ). record { keys = empty; value = v }) y

  f_release : (K : Context) (o v : ℕ) → monitor s o ≡ some (held_by t) → Live S H (of_thread p)
      → Facing K (Redex.hold o v) (Follows g S H ω τ s p c q Rule.e_release (become (store_monitor s o (cell t.keys 0)) p (plug K (literal v))))
  unfolding redex_expression store_monitor
  f_release K o v h l J y (r_hold {a = a} n nv) k sp =
      let h' = C.held o a p u.self t n ht l h m.self_like in
      let new_s : Cell = cell t.keys 0 in
      let new_c : Cell = cell u.keys 0 in
      alters (store_monitor s o new_s) (store_monitor c a new_c) refl refl
      (corr_lock g S H ω τ κ s c C o a (held_by t) (held_by u) new_s new_c n h h' (λ _. (full_too, m.keys_like)) (λ z b e _. absurd (not_held_lem z e)))
      Rule.e_release refl K J _ _ k sp (E-RELEASE h') (e_lit nv)
    where
      mine : is_empty t.keys ≡ false
      mine = full g s I p t ht H J'

      full_too : is_empty u.keys ≡ false
      full_too = go (is_empty u.keys) refl
        where
          go : (b : Bool) → is_empty u.keys ≡ b → is_empty u.keys ≡ false
          go true e = let x = some_key t.keys mine in let y = m.keys_like x.0 x.1 in absurd (no_key u.keys y.0 e y.2)
          go false e = e

      not_held_lem : (z : ℕ) → ◌≡◌ {A = Cell} (cell t.keys 0) (record { keys = empty; value = z }) → ⊥
      not_held_lem z e = empty_full (ap (λ (d : Cell). is_empty d.keys) (sym e) ∙ mine)

  -- a notify of either kind: nothing here speaks of the places that it changes
  f_signal : (K : Context) (o : ℕ) (k : Signal) (h : ℕ → ℕ) (R : Rule) → forks R ≡ false
      → ((a : ℕ) → monitor c a ≡ some (held_by u) → Converts g c q u (Expression.signal k (literal a)) R none (signalled h c a) (literal 0))
      → monitor s o ≡ some (held_by t) → Live S H (of_thread p)
      → Facing K (Redex.signal k o) (Follows g S H ω τ s p c q R (become (signalled h s o) p (plug K (literal 0))))
  unfolding redex_expression
  f_signal K o k h R nf conv held l J y (r_signal {a = a} _ n) kk sp =
      let w = is_there s.threads _ (signalled_relocated h s o) p t ht in
      let w' = is_there c.threads _ (signalled_relocated h c a) q u m.there in
      leaves ω κ same_names (signalled h s o) (signalled h c a) (corr_signalled g S H ω τ κ s c C h h o a) (in_place w.0 t) (in_place w'.0 u) w.1 w'.1
      (relocated_length s.threads _ (signalled_relocated h s o)) (relocated_length c.threads _ (signalled_relocated h c a)) m.self_like m.keys_like
      R nf K J _ _ kk sp (conv a (C.held o a p u.self t n ht l held m.self_like)) (e_lit C.names.zero_kept)

  -- a mirrored thread is about to make no wait
  f_wait : (K : Context) (o : ℕ) {G : Type 0} → Facing K (Redex.signal Signal.wait o) G
  f_wait K o J y (r_signal n _) k sp = absurd n

  -- and has made none
  f_wake : (K : Context) (o : ℕ) {G : Type 0} → Facing K (Redex.waiting o) G
  f_wake K o J y l k sp = absurd (keeping l o refl)

  -- ---- every rule

  pub followed : {e : Expression} {R : Rule} {r : Option Record} {s' : State} {e₁ : Expression} (K : Context) → Converts g s p t e R r s' e₁
      → t.expression ≡ plug K e → ((z : Port) → Draws v1 (shown p r) z → Live S H z)
      → Follows g S H ω τ s p c q R (become s' p (plug K e₁))
  unfolding redex_expression shown
  followed K (E-CALL {m = f} os {d} hd hp) he live = via K (Redex.call f os) he (f_call K f os d hd hp)
  followed K (E-LET {x} {o} {e}) he live = via K (Redex.let_in x o e) he (f_let K x o e)
  followed K (E-IF b {e} {e'}) he live = via K (Redex.if b e e') he (f_if K b e e')
  followed K (E-WHILE {c = b} {e}) he live = via K (Redex.while b e) he (f_while K b e)
  followed K (E-NEW {fs}) he live = via K (Redex.new fs) he (f_new K fs)
  followed K (E-READ w {o} {f} {v} h k vol) he live = via K (Redex.read o f) he (f_read K o f w v h k vol)
  followed K (E-WRITE w {o} {f} {u = u₀} {v} h k vol) he live = via K (Redex.write o f v) he (f_write K o f w u₀ v h k vol)
  followed K (E-READV {o} {f} {v} {W} h vol) he live = via K (Redex.read o f) he (f_readv K o f v W h vol (live (of_volatile o f) (refl, refl, refl, refl)))
  followed K (E-WRITEV {o} {f} {u = u₀} {v} {W} h vol) he live = via K (Redex.write o f v) he (f_writev K o f u₀ v W h vol)
  followed K (E-FORK {e}) he live = via K (Redex.fork e) he (f_fork K e)
  followed K (E-JOIN {o} {v} {q = w} h e) he live = via K (Redex.join o) he (f_join K o v w h e (live (of_thread w.number) (inr (refl, refl))))
  followed K (E-RE-ENTER {o} {e} h) he live = via K (Redex.synch o e) he (f_re_enter K o e h (live (of_thread p) (inl refl)))
  followed K (E-ACQUIRE {o} {u = u₀} {W} {e} h f) he live = via K (Redex.synch o e) he (f_acquire K o e (cell W u₀) h f (live (of_monitor o) (refl, refl)))
  followed K (E-RELEASE {o} {v} h) he live = via K (Redex.hold o v) he (f_release K o v h (live (of_thread p) (inl refl)))
  followed K (E-WAIT {o} h) he live = via K (Redex.signal Signal.wait o) he (f_wait K o)
  followed K (E-WAKE {o} z h f) he live = via K (Redex.waiting o) he (f_wake K o)
  followed K (E-NOTIFY {o} h) he live =
      via K (Redex.signal Signal.notify o) he (f_signal K o Signal.notify _ Rule.e_notify refl (λ a k. E-NOTIFY k) h (live (of_thread p) (inl refl)))
  followed K (E-NOTIFYALL {o} h) he live =
      via K (Redex.signal Signal.notify_all o) he
      (f_signal K o Signal.notify_all _ Rule.e_notifyall refl (λ a k. E-NOTIFYALL k) h (live (of_thread p) (inl refl)))

  -- ---- conditions

  stillᶜ : (K J : Contextᶜ) (R : Rule) → forks R ≡ false → (b d d' : Condition) → LikeContextᶜ ω K J → u.expression ≡ plugᶜ J b → Convertsᶜ b R d'
      → Likeᶜ ω d d' → Follows g S H ω τ s p c q R (become s p (plugᶜ K d))
  unfolding become
  stillᶜ K J R nf b d d' k h cv l = record {
    after = become c q (plugᶜ J d');
    entry = none;
    ω' = ω;
    τ' = τ;
    κ' = κ;
    moves = EVALᶜ J m.there h cv;
    corr = corr_become g S H ω τ κ s c C p q t u m.named ht m.there m.self_like m.keys_like (plugᶜ K d) (plugᶜ J d') (plug_likeᶜ ω k l);
    wide_objects = λ o a h. h;
    wide_threads = λ o a h. h;
    room = room_same ω R s c t u ht m.there refl refl C.names.zero_kept (plugᶜ K d) (plugᶜ J d') (plug_likeᶜ ω k l);
    renamed = λ i. ap (λ (b : Bool). name_by b τ (length s.threads) (length c.threads) i) (sym nf);
    counted = change_length c.threads q _ ∙ ap (λ (b : Bool). count_by b (length c.threads)) (sym nf);
  }

  viaᶜ : (K : Contextᶜ) (x : Redexᶜ) → t.expression ≡ plugᶜ K (redex_condition x) → (G : Type 0)
      → ((J : Contextᶜ) (y : Redexᶜ) → LikePartᶜ ω x y → LikeContextᶜ ω K J → u.expression ≡ plugᶜ J (redex_condition y) → G) → G
  unfolding whole
  viaᶜ K x he G k =
      let n = nextᶜ ω (along (λ (F : Focus). LikeFocus ω F (focus top u.expression)) (ap (focus top) he ∙ foundᶜ K x)
      (focus_like ω C.names.zero_kept m.expr_like k_top)) in
      k n.around n.part n.part_like n.around_like (sym (whole_focus u.expression) ∙ ap whole n.found)

  fᶜ_notnot : (K J : Contextᶜ) (y : Redexᶜ) → LikePartᶜ ω Redexᶜ.not_false y → LikeContextᶜ ω K J → u.expression ≡ plugᶜ J (redex_condition y)
      → Follows g S H ω τ s p c q Rule.e_notnottrue (become s p (plugᶜ K (bool true)))
  unfolding redex_condition
  fᶜ_notnot K J y r_not_false k sp = stillᶜ K J Rule.e_notnottrue refl _ _ _ k sp E-NOTNOTTRUE (bool_itself ω true)

  fᶜ_andtrue : (K J : Contextᶜ) (b : Condition) (y : Redexᶜ) → LikePartᶜ ω (Redexᶜ.and true b) y → LikeContextᶜ ω K J
      → u.expression ≡ plugᶜ J (redex_condition y) → Follows g S H ω τ s p c q Rule.e_andtrue (become s p (plugᶜ K b))
  unfolding redex_condition
  fᶜ_andtrue K J b y (r_and l) k sp = stillᶜ K J Rule.e_andtrue refl _ _ _ k sp E-ANDTRUE l

  fᶜ_andfalse : (K J : Contextᶜ) (b : Condition) (y : Redexᶜ) → LikePartᶜ ω (Redexᶜ.and false b) y → LikeContextᶜ ω K J
      → u.expression ≡ plugᶜ J (redex_condition y) → Follows g S H ω τ s p c q Rule.e_andfalse (become s p (plugᶜ K (bool false)))
  unfolding redex_condition
  fᶜ_andfalse K J b y (r_and l) k sp = stillᶜ K J Rule.e_andfalse refl _ _ _ k sp E-ANDFALSE (bool_itself ω false)

  fᶜ_equal : (K J : Contextᶜ) (o o' : ℕ) → o ≡ o' → (y : Redexᶜ) → LikePartᶜ ω (Redexᶜ.equal o o') y → LikeContextᶜ ω K J
      → u.expression ≡ plugᶜ J (redex_condition y) → Follows g S H ω τ s p c q Rule.e_equaltrue (become s p (plugᶜ K (bool true)))
  unfolding redex_condition
  fᶜ_equal K J o o' e y (r_equal {a = a} {a' = a'} n n') k sp =
      stillᶜ K J Rule.e_equaltrue refl _ _ _ k sp (E-EQUALTRUE (same_name o a a' n (ap ω e ∙ n'))) (bool_itself ω true)

  fᶜ_differ : (K J : Contextᶜ) (o o' : ℕ) → (o ≡ o' → ⊥) → (y : Redexᶜ) → LikePartᶜ ω (Redexᶜ.equal o o') y → LikeContextᶜ ω K J
      → u.expression ≡ plugᶜ J (redex_condition y) → Follows g S H ω τ s p c q Rule.e_equalfalse (become s p (plugᶜ K (bool false)))
  unfolding redex_condition
  fᶜ_differ K J o o' e y (r_equal {a = a} {a' = a'} n n') k sp =
      stillᶜ K J Rule.e_equalfalse refl _ _ _ k sp (E-EQUALFALSE (λ z. e (C.names.objects_apart o o' a n (n' ∙ ap {B = Option ℕ} some (sym z)))))
      (bool_itself ω false)

  pub followedᶜ : {b : Condition} {R : Rule} {b' : Condition} (K : Contextᶜ) → Convertsᶜ b R b' → t.expression ≡ plugᶜ K b
      → Follows g S H ω τ s p c q R (become s p (plugᶜ K b'))
  unfolding redex_condition bool
  followedᶜ K E-NOTNOTTRUE he = viaᶜ K Redexᶜ.not_false he _ (λ J y l k sp. fᶜ_notnot K J y l k sp)
  followedᶜ K (E-ANDTRUE {c = b}) he = viaᶜ K (Redexᶜ.and true b) he _ (λ J y l k sp. fᶜ_andtrue K J b y l k sp)
  followedᶜ K (E-ANDFALSE {c = b}) he = viaᶜ K (Redexᶜ.and false b) he _ (λ J y l k sp. fᶜ_andfalse K J b y l k sp)
  followedᶜ K (E-EQUALTRUE {o} {o'} e) he = viaᶜ K (Redexᶜ.equal o o') he _ (λ J y l k sp. fᶜ_equal K J o o' e y l k sp)
  followedᶜ K (E-EQUALFALSE {o} {o'} e) he = viaᶜ K (Redexᶜ.equal o o') he _ (λ J y l k sp. fᶜ_differ K J o o' e y l k sp)
