-- THE CUT: a run without the moves that are not marked is a run in which every pick moves, where what is paired with a marked move is marked.
use Prim.Native.Nat.{ℕ, zero, suc, pred, ◌<◌}
use native.Mathlib.Omega.{arith}
use mathlib.Core.Path.{◌≡◌, refl, sym, ap, ◌∙◌, subst as along}
use mathlib.Core.Bool.{Bool, true, false, cond, ◌&&◌, true≢false, false≢true}
use mathlib.Core.List.{List, [], ◌∷◌, ◌++◌}
use mathlib.Core.Logic.{inl}
use mathlib.Core.Option.{Option, some, none}
use lib.Dec.{T, eqb, eqb→eq}
use lib.ListN.{length, get_elem?}
use Rattle.format.specs.Version.{v1}
use Rattle.run_keys.specs.Keys.{empty, singleton, holds, is_empty}
use Rattle.run_keys.proofs.KeyLaws.{holds_singleton}
use Rattle.plan_packed.specs.Syntax.{Expression, Condition, Arguments, Program}
use Rattle.plan_packed.proofs.WellFormed.{WellFormedProgram}
use Rattle.log_records.specs.Record.{Record, entry}
use Rattle.log_order.specs.Pairs.{same_thread}
use Rattle.log_order.proofs.Newest.{At, here, back, at_below}
use Rattle.log_order.proofs.Ports.{Port, of_thread, Draws}
use Rattle.log_order.proofs.KeySets.{put}
use Rattle.rules.specs.Context.{plug, plugᶜ}
use Rattle.rules.specs.Queue.{Place, awake}
use Rattle.rules.specs.State.{Cell, Thread, State, start, fresh, fresh_object, lookup, monitor, gain, become, forked, in_place, enqueue, signalled, store}
use Rattle.rules.specs.State.{store_monitor, add_object, add_thread, use_key}
use Rattle.rules.specs.Rules.{Rule, is_volatile, Converts, E-CALL, E-LET, E-IF, E-WHILE, E-NEW, E-READ, E-WRITE, E-READV, E-WRITEV, E-FORK, E-JOIN, E-RE-ENTER}
use Rattle.rules.specs.Rules.{E-ACQUIRE, E-RELEASE, E-WAIT, E-WAKE, E-NOTIFY, E-NOTIFYALL, Convertsᶜ, E-NOTNOTTRUE, E-ANDTRUE, E-ANDFALSE, E-EQUALTRUE}
use Rattle.rules.specs.Rules.{E-EQUALFALSE, Moves, EVAL, EVALᶜ}
use Rattle.rules.specs.Step.{Move}
use Rattle.rules.specs.Room.{no_room_for, PickAnswerOf, PickAnswer, step}
use Rattle.rules.specs.Run.{Stop, run, resume, logged, instances}
use Rattle.rules.proofs.Relocated.{is_there, signalled_relocated}
use Rattle.rules.proofs.StateLaws.{inside, added_old, change_other}
use Rattle.rules.proofs.Invariant.{Inv}
use Rattle.rules.proofs.Preserved.{keeps}
use Rattle.rules.proofs.Progress.{inv_start}
use Rattle.rules.proofs.Equivalence.{step_complete}
use Rattle.rules.proofs.Executed.{Reachable, reachable_start, reachable_move}
use Rattle.rules.proofs.Bridge.{Kept, bridge}
use Rattle.rules.proofs.RunKeys.{kept_start}
use Rattle.side_by_side.specs.Inner.Waitless.{WaitlessProgram}
use Rattle.side_by_side.specs.Moves.{shown}
use Rattle.side_by_side.specs.Schedule.{is_fork, numbered, or_zero}
use Rattle.side_by_side.proofs.Like.{Naming, Like, e_call, a_end}
use Rattle.side_by_side.proofs.Correspondence.{Marks, Closed, Live, KeysIn, Mirror, Corresponds}
use Rattle.side_by_side.proofs.Trail.{Trail, begin, move, Later, none_yet, then, Plays, done, pick}
use Rattle.side_by_side.proofs.Newest.{made, numbers, schedule}
use Rattle.side_by_side.proofs.Likeness.{wider}
use Rattle.side_by_side.proofs.Moves.{drawn_live, corr_older}
use Rattle.side_by_side.proofs.Keep.{Follows, followed, followedᶜ, forks, name_by, count_by}
use Rattle.side_by_side.proofs.Drop.{framed, frame_become, frame_still, corr_dropped}

-- ---- a run's moves, one record each, are a legal log too

shadow_thread : {g : Program} {s : State} {p : ℕ} {t : Thread} {e : Expression} {R : Rule} {r : Option Record} {s' : State} {e' : Expression}
    → Converts g s p t e R r s' e' → (shown p r).thread ≡ p
unfolding shown
shadow_thread (E-CALL os hd hp) = refl
shadow_thread E-LET = refl
shadow_thread (E-IF b) = refl
shadow_thread E-WHILE = refl
shadow_thread E-NEW = refl
shadow_thread (E-READ w₀ h v k) = refl
shadow_thread (E-WRITE w₀ h vo k) = refl
shadow_thread (E-READV h v) = refl
shadow_thread (E-WRITEV h vo) = refl
shadow_thread E-FORK = refl
shadow_thread (E-JOIN h l) = refl
shadow_thread (E-RE-ENTER h) = refl
shadow_thread (E-ACQUIRE h n) = refl
shadow_thread (E-RELEASE h) = refl
shadow_thread (E-WAIT h) = refl
shadow_thread (E-WAKE z h n) = refl
shadow_thread (E-NOTIFY h) = refl
shadow_thread (E-NOTIFYALL h) = refl

pub mover : {g : Program} {s : State} {p : ℕ} {R : Rule} {r : Option Record} {s' : State} → Moves g s p R r s'
    → (t : Thread) × (get_elem? s.threads p ≡ some t) × ((shown p r).thread ≡ p)
unfolding shown
mover (EVAL K {t} ht he c) = (t, ht, shadow_thread c)
mover (EVALᶜ K {t} ht he k) = (t, ht, refl)

pub kept_shown : (g : Program) (s : State) → Inv g s → (p : ℕ) (H : List Record) → Kept g s H → {R : Rule} {r : Option Record} {s' : State}
    → Moves g s p R r s' → Kept g s' (shown p r ∷ H)
unfolding shown logged
kept_shown g s I p H J {R} {r} {s'} mv = go r (bridge g s I p H J mv)
  where
    go : (r : Option Record) → Kept g s' (logged r H) → Kept g s' (shown p r ∷ H)
    go (some r) k = k
    go none k = let t = mover mv in record { agrees = k.agrees; legal = (J.legal, J.agrees.present p t.0 t.1, tt) }

pub trail_kept : (g : Program) → WellFormedProgram g → {s : State} {H : List Record} → Trail g s H → Reachable g s × Kept g s H
trail_kept g P begin = (reachable_start g P, kept_start g)
trail_kept g P (move {s} {H = H} tr p mv l) = let d = trail_kept g P tr in (reachable_move g P s p d.0 mv, kept_shown g s d.0.invariant p H d.1 mv)

-- ---- lists of picks that all move

snoc : {g : Program} {s s' : State} {qs : List ℕ} → Plays g s qs s' → (q : ℕ) (m : Move) → step g s' q ≡ PickAnswerOf.moved m
    → Plays g s (qs ++ (q ∷ [])) m.state
snoc done q m h = pick m h done
snoc (pick m' h' ps) q m h = pick m' h' (snoc ps q m h)

-- played, every pick moves, and the run ends where it ends
pub plays_run : {g : Program} {s s' : State} {qs : List ℕ} → Plays g s qs s'
    → ((run g s qs).stop ≡ Stop.end) × ((run g s qs).final ≡ s') × (length (instances (run g s qs)) ≡ length qs)
unfolding run instances
plays_run done = (refl, refl, refl)
plays_run {g} {s} {s'} (pick {q = q} {qs = qs} m h ps) =
    let d = plays_run ps in
    along (λ (a : PickAnswer). ((resume s q (λ z. run g z qs) a).stop ≡ Stop.end) × ((resume s q (λ z. run g z qs) a).final ≡ s') ×
    (length (instances (resume s q (λ z. run g z qs) a)) ≡ suc (length qs))) (sym h) (d.0, d.1, ap suc d.2)

-- ---- the start

zero_only : Naming
zero_only o = cond (eqb o 0) (some 0) none

zero_is : (o a : ℕ) → zero_only o ≡ some a → (o ≡ 0) × (a ≡ 0)
unfolding zero_only
zero_is o a h = go (eqb o 0) refl h
  where
    go : (b : Bool) → eqb o 0 ≡ b → cond b (some 0) none ≡ some a → (o ≡ 0) × (a ≡ 0)
    go true e h = (eqb→eq o 0 (rw e tt), let k : ◌≡◌ {A = ℕ} 0 a = cc in sym k)
    go false e h = absurd (true≢false cc)

corr_start : (g : Program) (S : Marks) → Corresponds g S [] zero_only zero_only zero_only start start
unfolding start lookup monitor fresh_object zero_only
corr_start g S = record {
  names = record {
    zero_kept = refl;
    objects = λ o a h. let z = zero_is o a h in let x = z.0 in let y = z.1 in (omega arith, omega arith);
    objects_apart = λ o o' a h h'. (zero_is o a h).0 ∙ sym (zero_is o' a h').0;
    threads = λ o a h. let z = zero_is o a h in let x = z.0 in let y = z.1 in (omega arith, omega arith);
    threads_apart = λ o o' a h h'. (zero_is o a h).0 ∙ sym (zero_is o' a h').0;
    key_zero = refl;
    keys = λ k k' h. let z = zero_is k k' h in let x = z.0 in omega arith;
    fewer_objects = omega arith;
    fewer_threads = omega arith;
    fewer_keys = omega arith;
  };
  mirrors = λ p t l h. mirror p t h;
  fields = λ o a f d n h. absurd (nowhere o f d h);
  free = λ o a d n m e l. free' o a d n m e;
  held = λ o a p b t n h l m e. absurd (unheld o t m);
}
  where
    zeros : KeysIn zero_only (singleton 0) (singleton 0)
    zeros k h = let e : k ≡ 0 = eqb→eq k 0 (rw (holds_singleton 0 k) at h) in (0, ap zero_only e, along T (sym (holds_singleton 0 0)) tt)

    mirror : (p : ℕ) (t : Thread) → get_elem? start.threads p ≡ some t → Mirror zero_only zero_only zero_only start.threads p t
    mirror zero t h =
        let e : record { self = 0; expression = Expression.call 0 Arguments.end; keys = singleton 0; learnt = 0; place = awake } ≡ t = cc in
        along (λ (z : Thread). Mirror zero_only zero_only zero_only start.threads 0 z) e
        (record {
          number = 0;
          thread = record { self = 0; expression = Expression.call 0 Arguments.end; keys = singleton 0; learnt = 0; place = awake };
          named = refl;
          there = refl;
          expr_like = e_call a_end;
          self_like = refl;
          keys_like = zeros;
        })
    mirror (suc p) t h = absurd (true≢false cc)

    nowhere : (o f : ℕ) (d : Cell) → lookup start o f ≡ some d → ⊥
    nowhere zero f d h = true≢false cc
    nowhere (suc o) f d h = true≢false cc

    free' : (o a : ℕ) (d : Cell) → zero_only o ≡ some a → monitor start o ≡ some d → is_empty d.keys ≡ false
        → (d' : Cell) × (monitor start a ≡ some d') × (is_empty d'.keys ≡ false) × KeysIn zero_only d.keys d'.keys
    free' zero a d n m e =
        let z = zero_is 0 a n in
        let y : fresh ≡ d = cc in
        (fresh, ap (monitor start) z.1, ap (λ (w : Cell). is_empty w.keys) y ∙ e, along (λ (w : Cell). KeysIn zero_only w.keys (singleton 0)) y zeros)
    free' (suc o) a d n m e = absurd (true≢false cc)

    unheld : (o : ℕ) (t : Thread) → monitor start o ≡ some (record { keys = empty; value = t.self }) → ⊥
    unheld zero t m =
        let y : fresh ≡ record { keys = empty; value = t.self } = cc in
        let z : ◌≡◌ {A = ℕ} 1 0 = ap (λ (w : Cell). w.keys) y in
        omega arith
    unheld (suc o) t m = true≢false cc

-- ---- every run

pub record Cut (g : Program) (S : Marks) (s : State) (H : List Record) : Type 0 where
  pub ω : Naming
  pub τ : Naming
  pub κ : Naming
  pub cut : State
  pub picks : List ℕ
  pub plays : Plays g start picks cut
  pub inv_cut : Inv g cut
  pub corr : Corresponds g S H ω τ κ s cut
  pub numbered : (i : ℕ) → τ i ≡ numbers S H i
  pub count_is : length cut.threads ≡ made S H
  pub picks_are : picks ≡ schedule S H

put_same_way : (f f' : Naming) (n n' : ℕ) (a a' : Option ℕ) (i : ℕ) → f i ≡ f' i → n ≡ n' → a ≡ a' → put f n a i ≡ put f' n' a' i
unfolding put
put_same_way f f' n n' a a' i x y z = ap (λ (b : Bool). cond b a (f i)) (ap (λ (k : ℕ). eqb k i) y) ∙ ap (λ (b : Option ℕ). cond (eqb n' i) b (f i)) z
    ∙ ap (cond (eqb n' i) a') x

is_true_lem : (b : Bool) → T b → b ≡ true
is_true_lem true h = refl
is_true_lem false h = absurd h

is_false : (b : Bool) → (T b → ⊥) → b ≡ false
is_false true h = absurd (h tt)
is_false false h = refl

-- a rule makes a thread exactly where its record is a fork
fork_shown : {g : Program} {s : State} {p : ℕ} {t : Thread} {e : Expression} {R : Rule} {r : Option Record} {s' : State} {e' : Expression}
    → Converts g s p t e R r s' e' → (forks R ≡ is_fork (shown p r).kind) × (forks R ≡ true → (shown p r).field ≡ length s.threads)
unfolding shown
fork_shown (E-CALL os hd hp) = (refl, λ h. absurd (true≢false (sym h)))
fork_shown E-LET = (refl, λ h. absurd (true≢false (sym h)))
fork_shown (E-IF b) = (refl, λ h. absurd (true≢false (sym h)))
fork_shown E-WHILE = (refl, λ h. absurd (true≢false (sym h)))
fork_shown E-NEW = (refl, λ h. absurd (true≢false (sym h)))
fork_shown (E-READ w₀ h v k) = (refl, λ h. absurd (true≢false (sym h)))
fork_shown (E-WRITE w₀ h vo k) = (refl, λ h. absurd (true≢false (sym h)))
fork_shown (E-READV h v) = (refl, λ h. absurd (true≢false (sym h)))
fork_shown (E-WRITEV h vo) = (refl, λ h. absurd (true≢false (sym h)))
fork_shown E-FORK = (refl, λ h. refl)
fork_shown (E-JOIN h l) = (refl, λ h. absurd (true≢false (sym h)))
fork_shown (E-RE-ENTER h) = (refl, λ h. absurd (true≢false (sym h)))
fork_shown (E-ACQUIRE h n) = (refl, λ h. absurd (true≢false (sym h)))
fork_shown (E-RELEASE h) = (refl, λ h. absurd (true≢false (sym h)))
fork_shown (E-WAIT h) = (refl, λ h. absurd (true≢false (sym h)))
fork_shown (E-WAKE z h n) = (refl, λ h. absurd (true≢false (sym h)))
fork_shown (E-NOTIFY h) = (refl, λ h. absurd (true≢false (sym h)))
fork_shown (E-NOTIFYALL h) = (refl, λ h. absurd (true≢false (sym h)))

fork_shownᶜ : {c : Condition} {R : Rule} {c' : Condition} → Convertsᶜ c R c' → forks R ≡ false
fork_shownᶜ E-NOTNOTTRUE = refl
fork_shownᶜ E-ANDTRUE = refl
fork_shownᶜ E-ANDFALSE = refl
fork_shownᶜ (E-EQUALTRUE h) = refl
fork_shownᶜ (E-EQUALFALSE h) = refl

-- thread p stands in the other run as the expression e
pub record Parked (ω τ : Naming) (c : State) (p : ℕ) (e : Expression) : Type 0 where
  pub number : ℕ
  pub thread : Thread
  pub named : τ p ≡ some number
  pub there : get_elem? c.threads number ≡ some thread
  pub expr_like : Like ω e thread.expression

-- a move leaves the other threads alone, but for their places: thread i is w, if at another place
abbrev Stands : State → ℕ → Thread → Type 0
Stands s i w = (x : Place) × (get_elem? s.threads i ≡ some (in_place x w))

untouched_by : {g : Program} {s : State} {p : ℕ} {t : Thread} {e : Expression} {R : Rule} {r : Option Record} {s' : State} {e' : Expression}
    → Converts g s p t e R r s' e'
    → (i : ℕ) (w : Thread) → (p ≡ i → ⊥) → get_elem? s.threads i ≡ some w → Stands s' i w
unfolding gain store use_key add_object add_thread store_monitor enqueue signalled
untouched_by (E-CALL os hd hp) i w n h = (w.place, h)
untouched_by E-LET i w n h = (w.place, h)
untouched_by (E-IF b) i w n h = (w.place, h)
untouched_by E-WHILE i w n h = (w.place, h)
untouched_by E-NEW i w n h = (w.place, h)
untouched_by (E-READ w₀ h' v k) i w n h = (w.place, h)
untouched_by {s = s} {p = p} (E-WRITE w₀ h' vo k) i w n h = (w.place, change_other s.threads p _ i n ∙ h)
untouched_by {s = s} {p = p} (E-READV h' v) i w n h = (w.place, change_other s.threads p _ i n ∙ h)
untouched_by (E-WRITEV h' vo) i w n h = (w.place, h)
untouched_by {s = s} E-FORK i w n h = (w.place, added_old s.threads _ i (inside s.threads i w h) ∙ h)
untouched_by {s = s} {p = p} (E-JOIN h' l) i w n h = (w.place, change_other s.threads p _ i n ∙ h)
untouched_by (E-RE-ENTER h') i w n h = (w.place, h)
untouched_by {s = s} {p = p} (E-ACQUIRE h' f) i w n h = (w.place, change_other s.threads p _ i n ∙ h)
untouched_by (E-RELEASE h') i w n h = (w.place, h)
untouched_by {s = s} {p = p} (E-WAIT h') i w n h = (w.place, change_other s.threads p _ i n ∙ h)
untouched_by {s = s} {p = p} (E-WAKE z h' f) i w n h = (w.place, change_other s.threads p _ i n ∙ h)
untouched_by {s = s} (E-NOTIFY {o} h') i w n h = is_there s.threads _ (signalled_relocated pred s o) i w h
untouched_by {s = s} (E-NOTIFYALL {o} h') i w n h = is_there s.threads _ (signalled_relocated (λ n. 0) s o) i w h

untouched : {g : Program} {s : State} {p : ℕ} {R : Rule} {r : Option Record} {s' : State} → Moves g s p R r s' → (i : ℕ) (w : Thread) → (p ≡ i → ⊥)
    → get_elem? s.threads i ≡ some w → Stands s' i w
unfolding become
untouched {p = p} (EVAL K {s' = s₁} ht he c) i w n h = let x = untouched_by c i w n h in (x.0, change_other s₁.threads p _ i n ∙ x.1)
untouched {s = s} {p = p} (EVALᶜ K ht he c) i w n h = (w.place, change_other s.threads p _ i n ∙ h)

pub closed_older : (S : Marks) (r : Record) (H : List Record) → Closed S (r ∷ H) → Closed S H
closed_older S r H c i j x y a b l q m = c i j x y (back a) (back b) l q m

module _ (g : Program) (P : WellFormedProgram g) (Q : WaitlessProgram g) (S : Marks) where
  -- a marked move: one more pick
  abbrev Kin : (s : State) (H : List Record) → Cut g S s H → ℕ → (s' : State) → Record → Type 0
  Kin s H X p s' ρ = (Y : Cut g S s' (ρ ∷ H)) × ((i : ℕ) (e : Expression) → (T (S (length H)) → p ≡ i → ⊥) → Parked X.ω X.τ X.cut i e
      → Parked Y.ω Y.τ Y.cut i e)

  keep_one : {s s' : State} {H : List Record} {R : Rule} {r : Option Record} → Reachable g s → Kept g s H → (p : ℕ) (mv : Moves g s p R r s')
      → no_room_for R s p s' ≡ none → Closed S (shown p r ∷ H) → T (S (length H)) → (X : Cut g S s H) → Kin s H X p s' (shown p r)
  keep_one {s} {s'} {H} {R} {r} A J p mv room cl mk X = done_by mv room cl
    where
      I : Inv g s
      I = A.invariant

      small : (o f : ℕ) (d : Cell) → lookup s o f ≡ some d → is_volatile g f ≡ false → (k : ℕ) → T (holds d.keys k) → k < s.next_key
      small o f d h v k t = A.unused.fields o f d h k t

      positive : 0 < s.next_key
      positive = A.unused.positive

      -- from the move of the other run
      finish : {R : Rule} (r : Option Record) {s' : State} (q : ℕ) → X.τ p ≡ some q → (shown p r).thread ≡ p
          → (forks R ≡ is_fork (shown p r).kind) × (forks R ≡ true → (shown p r).field ≡ length s.threads) → Follows g S H X.ω X.τ s p X.cut q R s'
          → no_room_for R s p s' ≡ none → Kin s H X p s' (shown p r)
      finish {R} r {s'} q pq own fk F l = (
        record {
          ω = F.ω';
          τ = F.τ';
          κ = F.κ';
          cut = F.after;
          picks = X.picks ++ (q ∷ []);
          plays = snoc X.plays q (record { rule = R; entry = F.entry; state = F.after }) (step_complete g X.cut q F.moves (F.room l));
          inv_cut = keeps g P X.cut X.inv_cut q F.moves;
          corr = corr_older g S (shown p r) H F.ω' F.τ' F.κ' s' F.after F.corr;
          numbered = λ i. F.renamed i ∙ named_so (forks R) fk.1 i ∙ sym (marked_names (forks R) fk.0 i);
          count_is = F.counted ∙ ap (count_by (forks R)) X.count_is ∙ counted_so (forks R) fk.0;
          picks_are = ap (λ (l : List ℕ). l ++ (q ∷ [])) X.picks_are
              ∙ ap (λ (n : ℕ). schedule S H ++ (n ∷ [])) (ap or_zero (sym pq ∙ X.numbered p ∙ ap (numbers S H) (sym own)))
              ∙ ap (λ (b : Bool). cond b (schedule S H ++ (or_zero (numbers S H (shown p r).thread) ∷ [])) (schedule S H)) (sym on);
        },
        λ i e n k.
            let x = untouched F.moves k.number k.thread
            (λ z. n mk (X.corr.names.threads_apart p i q pq (k.named ∙ ap {B = Option ℕ} some (sym z)))) k.there in
            record {
              number = k.number;
              thread = in_place x.0 k.thread;
              named = F.wide_threads i k.number k.named;
              there = x.1;
              expr_like = wider X.ω F.ω' F.wide_objects k.expr_like;
            },
      )
        where
          on : S (length H) ≡ true
          on = is_true_lem (S (length H)) mk

          named_so : (b : Bool) → (b ≡ true → (shown p r).field ≡ length s.threads) → (i : ℕ)
              → name_by b X.τ (length s.threads) (length X.cut.threads) i ≡ name_by b (numbers S H) (shown p r).field (made S H) i
          named_so true f i = put_same_way X.τ (numbers S H) (length s.threads) (shown p r).field (some (length X.cut.threads)) (some (made S H)) i
              (X.numbered i) (sym (f refl)) (ap {B = Option ℕ} some X.count_is)
          named_so false f i = X.numbered i

          marked_names : (b : Bool) → b ≡ is_fork (shown p r).kind → (i : ℕ)
              → numbers S (shown p r ∷ H) i ≡ name_by b (numbers S H) (shown p r).field (made S H) i
          marked_names b e i = ap
              (λ (x : Bool). cond (x && is_fork (shown p r).kind) (put (numbers S H) (shown p r).field (some (made S H))) (numbers S H) i) on ∙ go b e
            where
              go : (b : Bool) → b ≡ is_fork (shown p r).kind
                  → cond (is_fork (shown p r).kind) (put (numbers S H) (shown p r).field (some (made S H))) (numbers S H) i ≡ name_by b (numbers S H)
                  (shown p r).field (made S H) i
              go true e = ap (λ (x : Bool). cond x (put (numbers S H) (shown p r).field (some (made S H))) (numbers S H) i) (sym e)
              go false e = ap (λ (x : Bool). cond x (put (numbers S H) (shown p r).field (some (made S H))) (numbers S H) i) (sym e)

          counted_so : (b : Bool) → b ≡ is_fork (shown p r).kind → count_by b (made S H) ≡ made S (shown p r ∷ H)
          counted_so b e = go b e ∙ ap (λ (x : Bool). cond (x && is_fork (shown p r).kind) (suc (made S H)) (made S H)) (sym on)
            where
              go : (b : Bool) → b ≡ is_fork (shown p r).kind → count_by b (made S H) ≡ cond (is_fork (shown p r).kind) (suc (made S H)) (made S H)
              go true e = ap (λ (x : Bool). cond x (suc (made S H)) (made S H)) e
              go false e = ap (λ (x : Bool). cond x (suc (made S H)) (made S H)) e

      done_by : {R : Rule} {r : Option Record} {s' : State} → Moves g s p R r s' → no_room_for R s p s' ≡ none → Closed S (shown p r ∷ H)
          → Kin s H X p s' (shown p r)
      done_by {R} {r} (EVAL K {t} ht he c) l cl =
          let live : (z : Port) → Draws v1 (shown p r) z → Live S H z = λ z i. drawn_live S (shown p r) H z cl mk i in
          let m = X.corr.mirrors p t (live (of_thread p) (inl (shadow_thread c))) ht in
          finish r m.number m.named (shadow_thread c) (fork_shown c)
          (followed g P Q S H X.ω X.τ X.κ s X.cut X.corr I X.inv_cut J small positive p t ht m K c he live) l
      done_by {R} {r} (EVALᶜ K {t} ht he c) l cl =
          let m = X.corr.mirrors p t (drawn_live S (shown p none) H (of_thread p) cl mk (inl own)) ht in
          finish none m.number m.named own (fork_shownᶜ c ∙ quiet, λ h. absurd (false≢true (sym (fork_shownᶜ c) ∙ h)))
          (followedᶜ g P Q S H X.ω X.τ X.κ s X.cut X.corr I X.inv_cut J small positive p t ht m K c he) l
        where
          own : (shown p none).thread ≡ p
          own = unfold shown in refl

          quiet : false ≡ is_fork (shown p none).kind
          quiet = unfold shown in refl

  -- another: none
  drop_one : {s s' : State} {H : List Record} {R : Rule} {r : Option Record} → Inv g s → Kept g s H → (p : ℕ) (mv : Moves g s p R r s')
      → (T (S (length H)) → ⊥) → (X : Cut g S s H) → Kin s H X p s' (shown p r)
  drop_one {s} {s'} {H} I J p mv n X = go mv
    where
      off : S (length H) ≡ false
      off = is_false (S (length H)) n

      go : {R : Rule} {r : Option Record} {s' : State} → Moves g s p R r s' → Kin s H X p s' (shown p r)
      go {r = r} (EVAL K {t} {e} {e'} {s' = s₁} ht he c) = (
        record {
          ω = X.ω;
          τ = X.τ;
          κ = X.κ;
          cut = X.cut;
          picks = X.picks;
          plays = X.plays;
          inv_cut = X.inv_cut;
          corr = corr_dropped g S H X.ω X.τ X.κ s (become s₁ p (plug K e')) X.cut X.corr I p t ht (shown p r) (shadow_thread c)
              (frame_become g s s₁ p t (shown p r) (plug K e') (framed g s I H J p t ht c)) n;
          numbered = λ i. X.numbered i
              ∙ ap (λ (b : Bool). cond (b && is_fork (shown p r).kind) (put (numbers S H) (shown p r).field (some (made S H))) (numbers S H) i)
              (sym off);
          count_is = X.count_is ∙ ap (λ (b : Bool). cond (b && is_fork (shown p r).kind) (suc (made S H)) (made S H)) (sym off);
          picks_are = X.picks_are ∙ ap (λ (b : Bool). cond b (schedule S H ++ (or_zero (numbers S H (shown p r).thread) ∷ [])) (schedule S H)) (sym off);
        },
        λ i e n k. k,
      )
      go (EVALᶜ K {t} {c} {c'} ht he k) = (
        record {
          ω = X.ω;
          τ = X.τ;
          κ = X.κ;
          cut = X.cut;
          picks = X.picks;
          plays = X.plays;
          inv_cut = X.inv_cut;
          corr = corr_dropped g S H X.ω X.τ X.κ s (become s p (plugᶜ K c')) X.cut X.corr I p t ht (shown p none) own
              (frame_become g s s p t (shown p none) (plugᶜ K c') (frame_still g s p t (shown p none))) n;
          numbered = λ i. X.numbered i
              ∙ ap (λ (b : Bool). cond (b && is_fork (shown p none).kind) (put (numbers S H) (shown p none).field (some (made S H))) (numbers S H) i)
              (sym off);
          count_is = X.count_is ∙ ap (λ (b : Bool). cond (b && is_fork (shown p none).kind) (suc (made S H)) (made S H)) (sym off);
          picks_are = X.picks_are ∙ ap (λ (b : Bool). cond b (schedule S H ++ (or_zero (numbers S H (shown p none).thread) ∷ [])) (schedule S H)) (sym off);
        },
        λ i e n k. k,
      )
        where
          own : (shown p none).thread ≡ p
          own = unfold shown in refl

  pub one_more_lem : {s s' : State} {H : List Record} {R : Rule} {r : Option Record} → Reachable g s × Kept g s H → (p : ℕ) (mv : Moves g s p R r s')
      → no_room_for R s p s' ≡ none → Closed S (shown p r ∷ H) → (X : Cut g S s H) → Kin s H X p s' (shown p r)
  one_more_lem {s} {s'} {H} {r = r} d p mv l cl X = by (S (length H)) refl
    where
      by : (b : Bool) → S (length H) ≡ b → Kin s H X p s' (shown p r)
      by true e = keep_one d.0 d.1 p mv l cl (rw e tt) X
      by false e = drop_one d.0.invariant d.1 p mv (λ x. rw e at x) X

  pub cuts : {s : State} {H : List Record} → Trail g s H → Closed S H → Cut g S s H
  cuts begin cl = record {
    ω = zero_only;
    τ = zero_only;
    κ = zero_only;
    cut = start;
    picks = [];
    plays = done;
    inv_cut = inv_start g P;
    corr =
        corr_start g S;
    numbered = λ i. unfold zero_only in refl;
    count_is = unfold start in refl;
    picks_are = refl;
  }
  cuts (move {s} {s'} {H} {R} {r} tr p mv l) cl = (one_more_lem (trail_kept g P tr) p mv l cl (cuts tr (closed_older S (shown p r) H cl))).0

  -- ---- a thread whose next move is not marked stands where it stood

  pub record Beside (s : State) (H : List Record) (i : ℕ) (e : Expression) : Type 0 where
    pub its : Cut g S s H
    pub stands : Parked its.ω its.τ its.cut i e

  -- no marked move of a thread comes after an unmarked one
  none_later : (H : List Record) (ρ : Record) (j i : ℕ) (w : Record) → Closed S (ρ ∷ H) → At H j w → w.thread ≡ i → (T (S j) → ⊥) → T (S (length H))
      → ρ.thread ≡ i → ⊥
  none_later H ρ j i w cl a e n mk q = n (cl j (length H) w ρ (back a) (here refl) (at_below a) (same_thread (e ∙ sym q)) mk)

  -- after a move j of thread i that is not marked, over the rest of the run
  pub beside : (j i : ℕ) (e : Expression) (w : Record) → w.thread ≡ i → (T (S j) → ⊥) → {s₀ : State} {H₀ : List Record} → At H₀ j w
      → {s : State} {H : List Record} → Later g s₀ H₀ s H → Closed S H → Beside s₀ H₀ i e → At H j w × Beside s H i e
  beside j i e w ti n a none_yet cl B = (a, B)
  beside j i e w ti n a (then {s} {s'} {H} {R} {r} tr la p mv l) cl B =
      let X = beside j i e w ti n a la (closed_older S (shown p r) H cl) B in
      let K = one_more_lem (trail_kept g P tr) p mv l cl X.1.its in
      (back X.0, record { its = K.0; stands = K.1 i e (λ mk q. none_later H (shown p r) j i w cl X.0 ti n mk ((mover mv).2 ∙ q)) X.1.stands })
