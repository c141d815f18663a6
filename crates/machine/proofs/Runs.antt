-- The machine's runs, from a state that a run of a well-formed program comes to, are the defined runs. Assumes nothing.
use Prim.Native.Nat.{ℕ, zero, suc, ◌≤◌, ◌<◌}
use native.Mathlib.Omega.{arith}
use mathlib.Core.Path.{◌≡◌, refl, sym, ap, ap₂, ◌∙◌}
use mathlib.Core.Bool.{Bool, ◌||◌}
use mathlib.Core.List.{List, [], ◌∷◌, map}
use mathlib.Core.Option
use mathlib.Core.Option.{Option, some, none, or_else}
use lib.Dec.{ltb}
use lib.ListN.{length, get_elem?, drop, length-map}
use Rattle.run_keys.proofs.CountLaws.{size_le}
use Rattle.plan_packed.specs.Syntax.{Program}
use Rattle.plan_packed.proofs.WellFormed.{WellFormedProgram}
use Rattle.rules.specs.Context.{Focus, depth_of, expression_depth}
use Rattle.rules.specs.State.{Thread, State}
use Rattle.rules.specs.Rules.{Rule}
use Rattle.rules.specs.Step.{AttemptOf, Move, attempt}
use Rattle.rules.specs.Room.{Room, no_room_among, no_room_before, deep, deep_at, any_deep, no_room_after, no_room_for, PickAnswerOf, PickAnswer, within_room, answer, step}
use Rattle.rules.specs.Run.{Run, after_pass, after_move, resume, run, Status, status, statuses_from, total_of, totals_from}
use Rattle.rules.proofs.Decompose.{focus_whole}
use Rattle.rules.proofs.Progress.{ruled}
use Rattle.rules.proofs.RoomLaws.{answer_moved}
use Rattle.rules.proofs.Equivalence.{step_sound}
use Rattle.rules.proofs.Executed.{Reachable, reachable_move}
use Rattle.rules.proofs.TidyRuns.{Roomy, tidy_move}
use Rattle.machine.specs.Inner.Machine as machine
use Rattle.machine.specs.Inner.Machine.{Table}
use Rattle.machine.specs.Inner.Playing as playing
use Rattle.machine.proofs.Meaning.{mean}
use Rattle.machine.proofs.Sorted.{WellFound, depth_height}
use Rattle.machine.proofs.Attempts.{attempt_of_lem}
use Rattle.machine.proofs.WellSorted.{WellAll, WellAt, well_at, well_drop, WellAttempt, attempt_well}
use Rattle.machine.proofs.StateMeaning.{Tabulates, thread_meant, state_of, attempt_of, get_map}

drop_map : {A B : Type 0} (f : A → B) (n : ℕ) (xs : List A) → drop n (map f xs) ≡ map f (drop n xs)
drop_map f zero xs = refl
drop_map f (suc n) [] = refl
drop_map f (suc n) (x ∷ xs) = drop_map f n xs

module _ (table : Table) where
  -- ---- room

  lack_before : (s : machine.State) (R : Rule) → no_room_before (state_of table s) R ≡ no_room_before s R
  unfolding no_room_before
  lack_before s R = ap (λ (n : ℕ). no_room_among n (length s.objects) s.next_key R) (length-map s.threads (thread_meant table))

  deep_of : (t : machine.Thread) → WellFound t.expression → deep (thread_meant table t) ≡ deep t
  unfolding deep expression_depth
  deep_of t w =
      ap (λ (F : Focus). ltb 32 (depth_of F)) (focus_whole (mean table.node table.count t.expression))
      ∙ ap (λ (n : ℕ). ltb 32 n) (depth_height table.node table.count t.expression w)

  deep_at_lem : (t : Option machine.Thread) → WellAt t → deep_at (Option.map (thread_meant table) t) ≡ deep_at t
  unfolding deep_at
  deep_at_lem none w = refl
  deep_at_lem (some t) w = deep_of t w

  any_deep_lem : (ts : List machine.Thread) → WellAll ts → any_deep (map (thread_meant table) ts) ≡ any_deep ts
  unfolding any_deep
  any_deep_lem [] w = refl
  any_deep_lem (t ∷ ts) w = ap₂ (λ (x y : Bool). x || y) (deep_of t w.0) (any_deep_lem ts w.1)

  lack_after : (s : machine.State) (p : ℕ) (s' : machine.State) → WellAll s'.threads
      → no_room_after (state_of table s) p (state_of table s') ≡ no_room_after s p s'
  unfolding no_room_after
  lack_after s p s' w =
      let th = thread_meant table in
      let a : deep_at (get_elem? (map th s'.threads) p) ≡ deep_at (get_elem? s'.threads p) =
      ap deep_at (get_map th s'.threads p) ∙ deep_at_lem (get_elem? s'.threads p) (well_at s'.threads p w) in
      let d : any_deep (drop (length s.threads) (map th s'.threads)) ≡ any_deep (drop (length s.threads) s'.threads) =
      ap any_deep (drop_map th (length s.threads) s'.threads)
      ∙ any_deep_lem (drop (length s.threads) s'.threads) (well_drop (length s.threads) s'.threads w) in
      rw (length-map s.threads th, a, d)

  lack_of : (R : Rule) (s : machine.State) (p : ℕ) (s' : machine.State) → WellAll s'.threads
      → no_room_for R (state_of table s) p (state_of table s') ≡ no_room_for R s p s'
  unfolding no_room_for
  lack_of R s p s' w = ap₂ (λ (x y : Option Room). or_else x y) (lack_before s R) (lack_after s p s' w)

  -- ---- the totals

  total_of_lem : (t : Option machine.Thread) → total_of (Option.map (thread_meant table) t) ≡ total_of t
  unfolding total_of
  total_of_lem none = refl
  total_of_lem (some t) = refl

  pub totals_of : (s : machine.State) (p n : ℕ) → totals_from (state_of table s) p n ≡ totals_from s p n
  unfolding totals_from
  totals_of s p zero = refl
  totals_of s p (suc n) = ap₂ (λ (x : ℕ) (xs : List ℕ). x ∷ xs) (ap total_of (get_map (thread_meant table) s.threads p) ∙ total_of_lem (get_elem? s.threads p))
      (totals_of s (suc p) n)

  -- ---- the answer to a pick

  abbrev move_of : machine.Move → Move
  move_of m = record { rule = m.rule; entry = m.entry; state = state_of table m.state }

  abbrev pub answer_of : playing.PickAnswer → PickAnswer
  answer_of PickAnswerOf.passed = PickAnswerOf.passed
  answer_of (PickAnswerOf.race r) = PickAnswerOf.race r
  answer_of (PickAnswerOf.no_room k) = PickAnswerOf.no_room k
  answer_of (PickAnswerOf.moved m) = PickAnswerOf.moved (move_of m)

  admit_of : (m : machine.Move) (k : Option Room) → within_room (move_of m) k ≡ answer_of (within_room m k)
  unfolding within_room
  admit_of m none = refl
  admit_of m (some k) = refl

  answer_of_lem : (s : machine.State) (p : ℕ) (a : machine.Attempt) → WellAttempt table a
      → answer (state_of table s) p (attempt_of table a) ≡ answer_of (answer s p a)
  unfolding answer
  answer_of_lem s p AttemptOf.absent w = refl
  answer_of_lem s p (AttemptOf.finished v) w = refl
  answer_of_lem s p (AttemptOf.waiting x) w = refl
  answer_of_lem s p (AttemptOf.stuck r) w = refl
  answer_of_lem s p (AttemptOf.lacking r) w = refl
  answer_of_lem s p (AttemptOf.moves m) w = ap (within_room (move_of m)) (lack_of m.rule s p m.state w)
      ∙ admit_of m (no_room_for m.rule s p m.state)

  abbrev pub run_meant : playing.Run → Run
  run_meant r = record { stop = r.stop; picks = r.picks; moves = r.moves; lacked = r.lacked; final = state_of table r.final }

  -- what holds of every state that a run of the machine comes to: its frames are well sorted, and it stands for a state that a defined run comes to, within
  -- the room
  pub record Reached (g : Program) (s : machine.State) : Type 0 where
    pub sorted : WellAll s.threads
    pub reachable : Reachable g (state_of table s)
    pub roomy : Roomy (state_of table s)

  -- there are at most 8 threads
  pub reached_threads : {g : Program} {s : machine.State} → Reached g s → length s.threads ≤ 8
  reached_threads {s = s} r = let z = r.roomy.threads8 in omega (arith, length-map s.threads (thread_meant table))

  -- a total is below 256
  pub reached_total : {g : Program} {s : machine.State} → Reached g s → (p : ℕ) (t : machine.Thread) → get_elem? s.threads p ≡ some t → t.learnt < 256
  reached_total {s = s} r p t h =
      let l = r.reachable.modest p (thread_meant table t) (get_map (thread_meant table) s.threads p
      ∙ ap (λ (x : Option machine.Thread). Option.map (thread_meant table) x) h) in
      omega (arith, l, size_le t.keys)

  module _ (g : Program) (good : WellFormedProgram g) (law : Tabulates table g) where
    pub attempt_reached : (s : machine.State) (p : ℕ) → Reached g s → attempt_of table (machine.attempt table s p) ≡ attempt g (state_of table s) p
    attempt_reached s p r = attempt_of_lem table g law s p (ruled g (state_of table s) r.reachable.invariant p)

    -- the machine's answer to a pick
    pub step_of : (s : machine.State) (p : ℕ) → Reached g s → step g (state_of table s) p ≡ answer_of (playing.step table s p)
    unfolding step playing.step
    step_of s p r =
        ap (answer (state_of table s) p) (sym (attempt_reached s p r)) ∙ answer_of_lem s p (machine.attempt table s p) (attempt_well table s p r.sorted)

    -- a move keeps what holds of a run's states
    pub step_reached : (s : machine.State) (p : ℕ) (m : machine.Move) → Reached g s → playing.step table s p ≡ PickAnswerOf.moved m → Reached g m.state
    unfolding playing.step
    step_reached s p m r e =
        let a = answer_moved s p (machine.attempt table s p) m e in
        let k = step_sound g (state_of table s) r.reachable.one_key p (move_of m) (step_of s p r ∙ ap answer_of e) in
        record {
          sorted = rw a.0 at (attempt_well table s p r.sorted);
          reachable = reachable_move g good (state_of table s) p r.reachable k.0;
          roomy = (tidy_move g (state_of table s) r.reachable.invariant r.roomy p k.0 k.1).0;
        }

    -- ---- runs

    resume_of : (s : machine.State) (p : ℕ) (k : State → Run) (k' : machine.State → playing.Run) (a : playing.PickAnswer) → Reached g s → playing.step table
        s p ≡ a
        → ((z : machine.State) → Reached g z → k (state_of table z) ≡ run_meant (k' z))
        → resume (state_of table s) p k (answer_of a) ≡ run_meant (resume s p k' a)
    unfolding resume
    resume_of s p k k' PickAnswerOf.passed r e q = ap after_pass (q s r)
    resume_of s p k k' (PickAnswerOf.race x) r e q = refl
    resume_of s p k k' (PickAnswerOf.no_room x) r e q = refl
    resume_of s p k k' (PickAnswerOf.moved m) r e q = ap (after_move p (move_of m)) (q m.state (step_reached s p m r e))

    -- the machine's run stands for the defined run
    pub run_of : (ps : List ℕ) (s : machine.State) → Reached g s → run g (state_of table s) ps ≡ run_meant (playing.run table s ps)
    unfolding run playing.run
    run_of [] s r = refl
    run_of (p ∷ ps) s r =
        ap (resume (state_of table s) p (λ z. run g z ps)) (step_of s p r)
        ∙ resume_of s p (λ z. run g z ps) (λ z. playing.run table z ps) (playing.step table s p) r refl (λ z u. run_of ps z u)

    resume_reached : (s : machine.State) (p : ℕ) (k : machine.State → playing.Run) (a : playing.PickAnswer) → Reached g s → playing.step table s p ≡ a
        → ((z : machine.State) → Reached g z → Reached g (k z).final) → Reached g (resume s p k a).final
    unfolding resume
    resume_reached s p k PickAnswerOf.passed r e q = q s r
    resume_reached s p k (PickAnswerOf.race x) r e q = r
    resume_reached s p k (PickAnswerOf.no_room x) r e q = r
    resume_reached s p k (PickAnswerOf.moved m) r e q = q m.state (step_reached s p m r e)

    -- and ends in such a state
    pub run_reached : (ps : List ℕ) (s : machine.State) → Reached g s → Reached g (playing.run table s ps).final
    unfolding playing.run
    run_reached [] s r = r
    run_reached (p ∷ ps) s r = resume_reached s p (λ z. playing.run table z ps) (playing.step table s p) r refl (λ z u. run_reached ps z u)

    -- ---- the states of the threads

    status_of_lem : (a : machine.Attempt) → status (attempt_of table a) ≡ status a
    unfolding status
    status_of_lem AttemptOf.absent = refl
    status_of_lem (AttemptOf.finished v) = refl
    status_of_lem (AttemptOf.waiting w) = refl
    status_of_lem (AttemptOf.stuck r) = refl
    status_of_lem (AttemptOf.lacking r) = refl
    status_of_lem (AttemptOf.moves m) = refl

    pub statuses_of : (s : machine.State) → Reached g s → (p n : ℕ) → statuses_from g (state_of table s) p n ≡ playing.statuses_from table s p n
    unfolding statuses_from playing.statuses_from
    statuses_of s r p zero = refl
    statuses_of s r p (suc n) =
        ap₂ (λ (x : Status) (xs : List Status). x ∷ xs) (ap status (sym (attempt_reached s p r)) ∙ status_of_lem (machine.attempt table s p))
        (statuses_of s r (suc p) n)
