-- E10, from a race: any run of a well-formed program that stops for a missing key. Assumes nothing.
use Prim.Native.Nat.{ℕ, zero, suc, ◌<◌, ◌≤◌, ◌+◌}
use native.Mathlib.Omega.{arith}
use mathlib.Core.Path.{◌≡◌, refl, sym, ap, ◌∙◌, subst as along}
use mathlib.Core.Bool.{Bool, true, false, cond, ◌&&◌, true≢false}
use mathlib.Core.List.{List, [], ◌∷◌, ◌++◌, reverse, reverse_aux}
use mathlib.Core.Logic.{◌⊎◌, inl, inr, ◌↔◌}
use mathlib.Core.Option.{Option, some, none}
use lib.Dec.{T}
use lib.ListN.{length, get_elem?, length-reverse}
use Rattle.format.specs.Version.{Version, v1}
use Rattle.run_keys.specs.Keys.{singleton}
use Rattle.plan_packed.specs.Syntax.{Expression, Program}
use Rattle.plan_packed.proofs.WellFormed.{WellFormedProgram}
use Rattle.log_records.specs.Record.{Kind, Record, entry, is_plain, lacks_key}
use Rattle.log_order.specs.Pairs.{same_thread}
use Rattle.log_order.proofs.Newest.{At, here, back, Chain, more, LastWrite, Unordered, at_below, at_cases, at_older, at_newest, one}
use Rattle.log_order.proofs.Ports.{of_thread}
use Rattle.log_order.proofs.Tests.{differ}
use Rattle.log_order.proofs.KeySets.{put}
use Rattle.log_order.proofs.KeyMachine.{Legal}
use Rattle.log_order.proofs.AgreeNewest.{agree_newest}
use Rattle.rules.specs.Context.{Context, Redex, plug, redex_expression}
use Rattle.rules.specs.State.{Cell, cell, Thread, State, start, lookup}
use Rattle.rules.specs.Rules.{Rule, is_volatile, Converts, E-CALL, E-LET, E-IF, E-WHILE, E-NEW, E-READ, E-WRITE, E-READV, E-WRITEV, E-FORK, E-JOIN, E-RE-ENTER}
use Rattle.rules.specs.Rules.{E-ACQUIRE, E-RELEASE, E-WAIT, E-WAKE, E-NOTIFY, E-NOTIFYALL, Moves, EVAL, EVALᶜ, LACKS-READ, LACKS-WRITE, Lacks, LACKS}
use Rattle.rules.specs.Step.{around, AttemptOf, Attempt, attempt}
use Rattle.rules.specs.Room.{Room, no_room_for, PickAnswerOf, PickAnswer, answer, step, within_room}
use Rattle.rules.specs.Run.{Stop, run, resume, after_move, stopped, play, after_pass}
use Rattle.rules.proofs.StateLaws.{inside}
use Rattle.rules.proofs.Equivalence.{step_sound, sound_lacks}
use Rattle.rules.proofs.Executed.{Reachable, reachable_start, reachable_move}
use Rattle.rules.proofs.RunKeys.{kept_lacks}
use Rattle.side_by_side.specs.Inner.Waitless.{WaitlessProgram}
use Rattle.side_by_side.specs.Moves.{shown, shown_moves, moves_of}
use Rattle.side_by_side.specs.Schedule.{Numbers, is_fork, first_numbers, numbers_after, next_after, or_zero, picks_from, picks_of, numbers_of}
use Rattle.side_by_side.specs.SideBySide.{Stays, Written, About, Renamed, SideBySide, reads, writes}
use Rattle.rules.proofs.TidyRuns.{Roomy, tidy_move}
use Rattle.side_by_side.proofs.Like.{LikePart, r_read, r_write}
use Rattle.side_by_side.proofs.Correspondence.{Marks, Closed, Live}
use Rattle.side_by_side.proofs.Trail.{Trail, begin, move, Later, none_yet, then, Plays, done, pick}
use Rattle.side_by_side.proofs.Marks.{marks_of, marked}
use Rattle.side_by_side.proofs.Newest.{made, numbers, schedule, turned_schedule, turned_numbers, schedule_length}
use Rattle.log_order.proofs.Turned.{at→, chain→, chain←, last→, unordered→}
use Rattle.side_by_side.proofs.Cut.{trail_kept, closed_older, mover, plays_run}
use Rattle.side_by_side.proofs.Side.{Met, met, met_field, marks_closed, marks_write, marks_feed}
use Rattle.log_order.specs.Chains as O

-- ---- a run cut in two at a move

pub record Split (g : Program) (s : State) (H : List Record) (i : ℕ) (w : Record) : Type 0 where
  pub before : State
  pub past : List Record
  pub trail : Trail g before past
  pub thread : ℕ
  pub rule : Rule
  pub entry : Option Record
  pub after : State
  pub moves : Moves g before thread rule entry after
  pub room : no_room_for rule before thread after ≡ none
  pub is_it : shown thread entry ≡ w
  pub index : i ≡ length past
  pub rest : Later g after (shown thread entry ∷ past) s H

split : {g : Program} {s : State} {H : List Record} → Trail g s H → (i : ℕ) (w : Record) → At H i w → Split g s H i w
split begin i w a = let b : i < 0 = at_below a in absurd (omega arith)
split {g} (move {s} {s'} {H} {R} {r} tr p mv l) i w a = go (at_cases a) (λ b. split tr i w b)
  where
    go : ((i ≡ length H) × (shown p r ≡ w)) ⊎ At H i w → (At H i w → Split g s H i w) → Split g s' (shown p r ∷ H) i w
    go (inl (e, q)) k = record {
      before = s;
      past = H;
      trail = tr;
      thread = p;
      rule = R;
      entry = r;
      after = s';
      moves = mv;
      room = l;
      is_it = q;
      index =
          e;
      rest = none_yet;
    }
    go (inr b) k = let x = k b in record {
      before = x.before;
      past = x.past;
      trail = x.trail;
      thread = x.thread;
      rule = x.rule;
      entry = x.entry;
      after =
          x.after;
      moves = x.moves;
      room = x.room;
      is_it = x.is_it;
      index = x.index;
      rest = then tr x.rest p mv l;
    }

at_later : {g : Program} {s₀ : State} {H₀ : List Record} {s : State} {H : List Record} → Later g s₀ H₀ s H → (i : ℕ) (r : Record) → At H₀ i r → At H i r
at_later none_yet i r a = a
at_later (then tr la p mv l) i r a = back (at_later la i r a)

-- ---- a move whose record is a plain write is one

pub record Writing (s : State) (p : ℕ) (w : Record) : Type 0 where
  pub thread : Thread
  pub there : get_elem? s.threads p ≡ some thread
  pub around : Context
  pub next_is : thread.expression ≡ plug around (redex_expression (Redex.write w.object w.field w.value))

writing : {g : Program} {s : State} {p : ℕ} {R : Rule} {r : Option Record} {s' : State} → Moves g s p R r s' → (shown p r).kind ≡ Kind.write
    → Writing s p (shown p r)
unfolding shown redex_expression
writing {g} {s} {p} (EVAL K {t} ht he c) k = go t ht he c k
  where
    go : (t : Thread) {e e' : Expression} {R : Rule} {r : Option Record} {s' : State} → get_elem? s.threads p ≡ some t → t.expression ≡ plug K e
        → Converts g s p t e R r s' e' → (shown p r).kind ≡ Kind.write → Writing s p (shown p r)
    go t ht he (E-CALL os hd hp) k = absurd (differ k tt)
    go t ht he E-LET k = absurd (differ k tt)
    go t ht he (E-IF b) k = absurd (differ k tt)
    go t ht he E-WHILE k = absurd (differ k tt)
    go t ht he E-NEW k = absurd (differ k tt)
    go t ht he (E-READ w₀ h v x) k = absurd (differ k tt)
    go t ht he (E-WRITE w₀ {v = v} h vo x) k = record { thread = t; there = ht; around = K; next_is = he }
    go t ht he (E-READV h v) k = absurd (differ k tt)
    go t ht he (E-WRITEV h vo) k = absurd (differ k tt)
    go t ht he E-FORK k = absurd (differ k tt)
    go t ht he (E-JOIN h l) k = absurd (differ k tt)
    go t ht he (E-RE-ENTER h) k = absurd (differ k tt)
    go t ht he (E-ACQUIRE h n) k = absurd (differ k tt)
    go t ht he (E-RELEASE h) k = absurd (differ k tt)
    go t ht he (E-WAIT h) k = absurd (differ k tt)
    go t ht he (E-WAKE z h n) k = absurd (differ k tt)
    go t ht he (E-NOTIFY h) k = absurd (differ k tt)
    go t ht he (E-NOTIFYALL h) k = absurd (differ k tt)
writing (EVALᶜ K {t} ht he c) k = absurd (differ k tt)

-- ---- the access that lacks its key

pub record Failing (g : Program) (s : State) (q : ℕ) (r : Record) : Type 0 where
  pub thread : Thread
  pub there : get_elem? s.threads q ≡ some thread
  pub around : Context
  pub part : Redex
  pub next_is : thread.expression ≡ plug around (redex_expression part)
  pub renames : (ω : Numbers) (y : Redex) → LikePart ω part y → Renamed ω r y
  pub mover_is : r.thread ≡ q
  pub plain_access : T (is_plain r.kind)
  pub lacking : T (lacks_key r.kind)
  pub cell : Cell
  pub field_there : lookup s r.object r.field ≡ some cell
  pub plain : is_volatile g r.field ≡ false

read_renamed : (q o f : ℕ) (ω : Numbers) (y : Redex) → LikePart ω (Redex.read o f) y → Renamed ω (entry Kind.lacks_read q o f 0) y
read_renamed q o f ω y (r_read n) = reads refl n

write_renamed : (q o f v : ℕ) (ω : Numbers) (y : Redex) → LikePart ω (Redex.write o f v) y → Renamed ω (entry Kind.lacks_write q o f v) y
write_renamed q o f v ω y (r_write n m) = writes (inl refl) n m

written_renamed : (w : Record) → w.kind ≡ Kind.write → (ω : Numbers) (y : Redex) → LikePart ω (Redex.write w.object w.field w.value) y → Renamed ω w y
written_renamed w k ω y (r_write n m) = writes (inr k) n m

failing : {g : Program} {s : State} {q : ℕ} {r : Record} → Lacks g s q r → Failing g s q r
unfolding redex_expression
failing {q = q} (LACKS K {t} ht he (LACKS-READ w {o} {f} {v} h k vol)) =
    record {
      thread = t;
      there = ht;
      around = K;
      part = Redex.read o f;
      next_is = he;
      renames = read_renamed q o f;
      mover_is = refl;
      plain_access =
          tt;
      lacking = tt;
      cell = cell (singleton w) v;
      field_there = h;
      plain = vol;
    }
failing {q = q} (LACKS K {t} ht he (LACKS-WRITE w {o} {f} {u} {v = x} h k vol)) =
    record {
      thread = t;
      there = ht;
      around = K;
      part = Redex.write o f x;
      next_is = he;
      renames = write_renamed q o f x;
      mover_is = refl;
      plain_access =
          tt;
      lacking = tt;
      cell = cell (singleton w) u;
      field_there = h;
      plain = vol;
    }

-- ---- from a list of picks

-- a run from s on, whose earlier moves were H, that stopped for an access that lacks its key
pub record Raced (g : Program) (s : State) (H : List Record) (ps : List ℕ) : Type 0 where
  pub state : State
  pub moves : List Record
  pub trail : Trail g state moves
  pub thread : ℕ
  pub access : Record
  pub lacking : Lacks g state thread access
  pub are_moves : reverse_aux (shown_moves (run g s ps)) H ≡ access ∷ moves
  pub few : length moves < length H + length ps

answer_race : (s : State) (p : ℕ) (a : Attempt) (r : Record) → answer s p a ≡ PickAnswerOf.race r → a ≡ AttemptOf.lacking r
unfolding answer within_room
answer_race s p AttemptOf.absent r h = absurd (true≢false cc)
answer_race s p (AttemptOf.finished v) r h = absurd (true≢false cc)
answer_race s p (AttemptOf.waiting w) r h = absurd (true≢false cc)
answer_race s p (AttemptOf.stuck w) r h = absurd (true≢false cc)
answer_race s p (AttemptOf.lacking w) r h = cc
answer_race s p (AttemptOf.moves m) r h = go (no_room_for m.rule s p m.state) h
  where
    go : (k : Option Room) → within_room m k ≡ PickAnswerOf.race r → AttemptOf.moves m ≡ AttemptOf.lacking r
    go none h = absurd (true≢false cc)
    go (some k) h = absurd (true≢false cc)

module _ (g : Program) (P : WellFormedProgram g) where
  pub step_lacks : (s : State) → Reachable g s → (p : ℕ) (r : Record) → step g s p ≡ PickAnswerOf.race r → Lacks g s p r
  unfolding step
  step_lacks s I p r h = sound_lacks g s I.one_key p r (answer_race s p (attempt g s p) r h)

  pub raced : (ps : List ℕ) {s : State} {H : List Record} → Trail g s H → (run g s ps).stop ≡ Stop.race → Raced g s H ps
  unfolding run shown_moves resume stopped after_pass after_move
  raced [] tr h = absurd (true≢false cc)
  raced (p ∷ ps) {s} {H} tr h = go (step g s p) refl h (λ s' H' t k. raced ps t k)
    where
      I : Reachable g s
      I = (trail_kept g P tr).0

      move_list : (s'' : State) (M : List Record) (a : PickAnswer) → step g s p ≡ a
          → reverse_aux (shown_moves (resume s p (λ z. run g z ps) a)) H ≡ reverse_aux (shown_moves (resume s p (λ z. run g z ps) (step g s p))) H
      move_list s'' M a e = ap (λ (b : PickAnswer). reverse_aux (shown_moves (resume s p (λ z. run g z ps) b)) H) (sym e)

      go : (a : PickAnswer) → step g s p ≡ a → (resume s p (λ z. run g z ps) a).stop ≡ Stop.race
          → ((s' : State) (H' : List Record) → Trail g s' H' → (run g s' ps).stop ≡ Stop.race → Raced g s' H' ps) → Raced g s H (p ∷ ps)
      go PickAnswerOf.passed e h k = let x =
          k s H tr h in record {
            state = x.state;
            moves = x.moves;
            trail = x.trail;
            thread = x.thread;
            access = x.access;
            lacking =
                x.lacking;
            are_moves = sym (move_list x.state x.moves PickAnswerOf.passed e) ∙ x.are_moves;
            few = let b = x.few in omega arith;
          }
      go (PickAnswerOf.race r) e h k =
          record {
            state = s;
            moves = H;
            trail = tr;
            thread = p;
            access = r;
            lacking = step_lacks s I p r e;
            are_moves =
                sym (move_list s H (PickAnswerOf.race r) e);
            few = omega arith;
          }
      go (PickAnswerOf.no_room w) e h k = absurd (true≢false cc)
      go (PickAnswerOf.moved m) e h k =
          let y = step_sound g s I.one_key p m e in
          let x = k m.state (shown p m.entry ∷ H) (move tr p y.0 y.1) h in
          record {
            state = x.state;
            moves = x.moves;
            trail = x.trail;
            thread = x.thread;
            access = x.access;
            lacking = x.lacking;
            are_moves =
                sym (move_list x.state x.moves (PickAnswerOf.moved m) e) ∙ x.are_moves;
            few = let b = x.few in omega arith;
          }

-- ---- picks that all move are below 8

plays_below : (g : Program) (P : WellFormedProgram g) {s s' : State} {qs : List ℕ} → Reachable g s → Roomy s → Plays g s qs s' → (i q : ℕ)
    → get_elem? qs i ≡ some q → q < 8
plays_below g P I z done i q h = absurd (true≢false cc)
plays_below g P {s} I z (pick {q = q₀} {qs = qs} m e ps) i q h =
    go i h (λ j. plays_below g P (reachable_move g P s q₀ I y.0) (tidy_move g s I.invariant z q₀ y.0 y.1).0 ps j q)
  where
    y : Moves g s q₀ m.rule m.entry m.state × (no_room_for m.rule s q₀ m.state ≡ none)
    y = step_sound g s I.one_key q₀ m e

    go : (i : ℕ) → get_elem? (q₀ ∷ qs) i ≡ some q → ((j : ℕ) → get_elem? qs j ≡ some q → q < 8) → q < 8
    go zero h ih = let w = mover y.0 in let b = inside s.threads q₀ w.0 w.1 in let c = z.threads8 in let d : q₀ ≡ q = cc in omega arith
    go (suc i) h ih = ih i h

pub roomy_start : Roomy start
unfolding start
roomy_start = record { threads8 = omega arith; objects32 = omega arith; keys256 = omega arith }

-- ---- the theorem

module _ (g : Program) (P : WellFormedProgram g) (version_1 : g.version ≡ v1) (Q : WaitlessProgram g) (ps : List ℕ)
    (raced-so : (play g ps).stop ≡ Stop.race) where
  R : Raced g start [] ps
  unfolding play
  R = raced g P ps begin raced-so

  abbrev L : List Record
  L = moves_of g ps

  abbrev M : List Record
  M = R.moves

  abbrev r : Record
  r = R.access

  turned : reverse L ≡ r ∷ M
  unfolding moves_of R
  turned = R.are_moves

  X : Failing g R.state R.thread r
  X = failing R.lacking

  U : Unordered v1 (r ∷ M) (length M)
  U =
      let d = trail_kept g P R.trail in
      let k = kept_lacks g R.state d.0 R.thread M d.1 R.lacking in
      (agree_newest v1 (r ∷ M) (along (λ (n : Version). Legal n (r ∷ M)) version_1 k.legal) (length M) r (here refl) X.plain_access).0 X.lacking

  abbrev i : ℕ
  i = U.last

  W : LastWrite (r ∷ M) (length M) r.object r.field i
  W = along (λ (w : Record). LastWrite (r ∷ M) (length M) w.object w.field i) (sym (at_newest refl U.at_j)) U.is_last

  D : Split g R.state M i W.write_record
  D = split R.trail i W.write_record (at_older W.before W.at_i)

  S : Marks
  S = marks_of (r ∷ M) (length M) i

  marks : (k : ℕ) → T (S k) ↔ (Chain v1 (r ∷ M) k (length M) ⊎ Chain v1 (r ∷ M) k i)
  unfolding S
  marks k = marked (r ∷ M) (length M) i k

  chain_rises : {a b : ℕ} → Chain v1 (r ∷ M) a b → a < b
  chain_rises (one l) = l.before
  chain_rises (more c l) = let x = chain_rises c in let y = l.before in omega arith

  not_write : (k : ℕ) → T (S k) → k ≡ i → ⊥
  not_write k h e = marks_write S (r ∷ M) i (length M) marks U.no_chain (rw e at h)

  -- the failing access itself is not kept
  access_off : S (length M) ≡ false
  access_off = go (S (length M)) refl
    where
      b : i < length M
      b = W.before

      no_chain : Chain v1 (r ∷ M) (length M) (length M) ⊎ Chain v1 (r ∷ M) (length M) i → ⊥
      no_chain (inl c) = let d = chain_rises c in omega arith
      no_chain (inr c) = let d = chain_rises c in omega (arith, b)

      go : (x : Bool) → S (length M) ≡ x → S (length M) ≡ false
      go true e = absurd (no_chain ((marks (length M)).0 (rw e tt)))
      go false e = e

  -- the schedule and the numbers, oldest first
  picks_turned : schedule S M ≡ picks_of S L
  unfolding picks_of
  picks_turned =
      ap (λ (b : Bool). cond b (schedule S M ++ (or_zero (numbers S M r.thread) ∷ [])) (schedule S M)) (sym access_off)
      ∙ ap (schedule S) (sym turned)
      ∙ turned_schedule S L []

  numbers_turned : (p : ℕ) → numbers S M p ≡ numbers_of S L p
  unfolding numbers_of
  numbers_turned p =
      ap (λ (b : Bool). cond (b && is_fork r.kind) (put (numbers S M) r.field (some (made S M))) (numbers S M) p) (sym access_off)
      ∙ ap (λ (H : List Record). numbers S H p) (sym turned)
      ∙ turned_numbers S L [] p

  Y : Writing D.before D.thread (shown D.thread D.entry)
  Y = writing D.moves (ap (λ (w : Record). w.kind) D.is_it ∙ W.writes.is_write)

  write_at : At (r ∷ M) i (shown D.thread D.entry)
  write_at = along (λ (w : Record). At (r ∷ M) i w) (sym D.is_it) W.at_i

  abbrev w₀ : Record
  w₀ = shown D.thread D.entry

  cl : Closed S M
  cl = closed_older S r M (marks_closed S (r ∷ M) i (length M) marks)

  off : T (S (length D.past)) → ⊥
  off m = marks_write S (r ∷ M) i (length M) marks U.no_chain (along (λ (n : ℕ). T (S n)) (sym D.index) m)

  live_p : Live S D.past (of_thread D.thread)
  live_p a z ha out = marks_feed S (r ∷ M) i (length M) marks i w₀ write_at (inl refl) a z (back (at_later D.rest a z (back ha))) (let b =
      at_below ha in let e = D.index in omega arith) (of_thread D.thread) out (inl (mover D.moves).2)

  live_q : Live S M (of_thread R.thread)
  live_q a z ha out = marks_feed S (r ∷ M) i (length M) marks (length M) r (here refl) (inr refl) a z (back ha) (at_below ha) (of_thread R.thread) out
      (inl X.mover_is)

  abbrev Z : Met g S M D.thread R.thread (Redex.write w₀.object w₀.field w₀.value) X.part
  Z = met g P Q S D.trail D.thread Y.thread Y.there Y.around (Redex.write w₀.object w₀.field w₀.value) Y.next_is D.entry
      D.moves D.room D.rest R.thread X.thread X.there X.around X.part X.next_is cl off live_p live_q

  -- two threads: else the two would be paired
  apart : D.thread ≡ R.thread → ⊥
  apart e = U.no_chain
      (one (record {
        earlier = w₀;
        later = r;
        at_i = write_at;
        at_j = here refl;
        before = W.before;
        paired =
            same_thread ((mover D.moves).2 ∙ e ∙ sym X.mover_is);
      }))

  pub picks : List ℕ
  picks = picks_of S L

  pub written : Written g ps picks
  unfolding picks
  written = record {
    failing = length M;
    access = r;
    at_failing = at→ L (length M) r (rw turned (here refl));
    at_end = sym (ap length turned) ∙ length-reverse L;
    last = i;
    is_last = last→ v1 L (length M) r.object r.field i (rw turned W);
    kept = S;
    kept_stays = λ k. (λ h. record { chain = out ((marks k).0 h); not_write = not_write k h }, λ s. (marks k).1 (into s.chain));
    picks_are = refl;
  }
    where
      out : {k : ℕ} → Chain v1 (r ∷ M) k (length M) ⊎ Chain v1 (r ∷ M) k i → O.Chain v1 L k (length M) ⊎ O.Chain v1 L k i
      out {k} (inl c) = inl (chain→ v1 L (rw turned c))
      out {k} (inr c) = inr (chain→ v1 L (rw turned c))

      into : {k : ℕ} → O.Chain v1 L k (length M) ⊎ O.Chain v1 L k i → Chain v1 (r ∷ M) k (length M) ⊎ Chain v1 (r ∷ M) k i
      into {k} (inl c) = inl (rw turned at (chain← v1 L c))
      into {k} (inr c) = inr (rw turned at (chain← v1 L c))

  -- the failing access is unordered after the last write
  raced_unordered : O.Unordered v1 L (length M)
  raced_unordered = unordered→ v1 L (length M) (rw turned U)

  raced_end : suc (length M) ≡ length L
  raced_end = sym (ap length turned) ∙ length-reverse L

  its_write : written.is_last.write_record ≡ w₀
  unfolding written
  its_write =
      let a : get_elem? L i ≡ some written.is_last.write_record = written.is_last.at_i in
      let b : get_elem? L i ≡ some w₀ = at→ L i w₀ (rw turned write_at) in
      let c : some written.is_last.write_record ≡ some w₀ = sym a ∙ b in
      cc

  plays : Plays g start picks Z.end
  unfolding picks
  plays = along (λ (l : List ℕ). Plays g start l Z.end) picks_turned Z.plays

  final : (play g picks).final ≡ Z.end
  unfolding play
  final = (plays_run plays).1

  pub side_by_side : SideBySide g ps picks written
  unfolding written play
  side_by_side = record {
    ends = (plays_run plays).0;
    every_pick_moves = (plays_run plays).2;
    objects = Z.ω;
    apart = Z.apart;
    writer = Z.writer;
    writer_is = ap (numbers_of S L) (ap (λ (w : Record). w.thread) its_write ∙ (mover D.moves).2) ∙ sym (numbers_turned D.thread) ∙ Z.writer_is;
    write_part = Z.write_part;
    about_write = along (λ (c : State). About c Z.writer Z.write_part) (sym final) Z.about_write;
    is_write = along (λ (w : Record). Renamed Z.ω w Z.write_part) (sym its_write)
        (written_renamed w₀ (ap (λ (w : Record). w.kind) D.is_it ∙ W.writes.is_write) Z.ω Z.write_part Z.write_like);
    other = Z.other;
    other_is = ap (numbers_of S L) X.mover_is ∙ sym (numbers_turned R.thread) ∙ Z.other_is;
    access_part = Z.access_part;
    about_access = along (λ (c : State). About c Z.other Z.access_part) (sym final) Z.about_access;
    is_access = X.renames Z.ω Z.access_part Z.access_like;
    two_threads = Z.two apart;
    field_there = λ o h. along (λ (c : State). (d : Cell) × (lookup c o r.field ≡ some d)) (sym final) (field o h);
    plain = X.plain;
    no_longer = let a = R.few in let b = schedule_length S M in let c : length (schedule S M) ≡ length picks = ap length picks_turned ∙ unfold picks in
        refl in omega arith;
    below_8 = plays_below g P (reachable_start g P) roomy_start plays;
  }
    where
      field : (o : ℕ) → Z.ω r.object ≡ some o → (d : Cell) × (lookup Z.end o r.field ≡ some d)
      field o h = met_field g P Q S D.trail D.thread Y.thread Y.there Y.around (Redex.write w₀.object w₀.field w₀.value) Y.next_is
          D.entry D.moves D.room D.rest R.thread X.thread X.there X.around X.part X.next_is cl off live_p live_q r.object o
          r.field X.cell h X.field_there

-- its failing access, the last of its moves, is unordered after the last write
pub race_unordered : (g : Program) → WellFormedProgram g → g.version ≡ v1 → WaitlessProgram g → (ps : List ℕ) → (play g ps).stop ≡ Stop.race
    → (j : ℕ) × (suc j ≡ length (moves_of g ps)) × O.Unordered v1 (moves_of g ps) j
race_unordered g P version_1 Q ps h = (_, raced_end g P version_1 Q ps h, raced_unordered g P version_1 Q ps h)

-- E10, from any run of a well-formed program that stops for a missing key
pub from_race : (g : Program) → WellFormedProgram g → g.version ≡ v1 → WaitlessProgram g → (ps : List ℕ) → (play g ps).stop ≡ Stop.race
    → (qs : List ℕ) × (w : Written g ps qs) × SideBySide g ps qs w
from_race g P version_1 Q ps h = (picks g P version_1 Q ps h, written g P version_1 Q ps h, side_by_side g P version_1 Q ps h)
