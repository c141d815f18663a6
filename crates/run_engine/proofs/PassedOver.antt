-- A pick that is passed over changes nothing, so it is passed over again until a thread moves. Assumes nothing.
use mathlib.Core.Path.{◌≡◌, refl, sym, ap, ◌∙◌, subst}
use mathlib.Core.Bool.{Bool, true, false, cond}
use mathlib.Core.List.{List, ◌∷◌}
use Prim.Native.Nat.{ℕ, ◌+◌, ◌%◌, ◌<◌}
use native.Mathlib.Omega.{arith}
use native.Mathlib.Decide.{ℕ_discrete}
use borrow.Author.Tests.{lt-leb}
use lib.ListN.{get_or, set, replicate}
use lib.Seq.{get_or-set_other}
use Rattle.format.proofs.Filled.{repeated}
use Rattle.run_refocusing.specs.Inner.Refocusing.{Stack, Ended}
use Rattle.run_outcome.specs.declared.NoRoom.{NoRoom}
use Rattle.run_state.specs.declared.Setting.{Setting}
use Rattle.run_state.specs.declared.acted.Act.{Act}
use Rattle.run_state.specs.declared.acted.Act.TheVariants as act
use Rattle.run_state.specs.declared.acted.Acted.{Acted}
use Rattle.run_look.specs.declared.Sight.{Sight}
use Rattle.run_look.specs.declared.Sight.TheVariants as sight
use Rattle.run_pick.specs.declared.Met.{Met}
use Rattle.run_pick.specs.Inner.Answer.{Move, PickAnswer, PickAnswer as answer}
use Rattle.run_pick.specs.Inner.Pick.{Picked, picked, no_room, full_of, forks_of, refocus_forked, start_by, refocus_by, make_by, act_met, pick_by, look_met, pick_of}
use Rattle.run_engine.specs.Inner.Engine.{EngineState, stayed, picked_by, turn_by, play_of}

stopped_not : {z : PickAnswer} (r : NoRoom) → z ≡ no_room r → z ≡ answer.Passed → ⊥
stopped_not r e h = let z : ◌≡◌ {A = ℕ} 0 1 = cc in omega arith

moved_not : {z : PickAnswer} (v : Move) → z ≡ answer.Moved v → z ≡ answer.Passed → ⊥
moved_not v e h = let z : ◌≡◌ {A = ℕ} 0 1 = cc in omega arith

module _ (ws rs : List ℕ) (setting : Setting) where
  -- a thread that is ready moves or stops the run
  refocused_not : (full forks forked : Bool) (k k' : Stack) (r r' : NoRoom) (v v' : Move)
      → (cond full (picked k (no_room r)) (cond forks (cond forked (picked k' (no_room r')) (picked k' (answer.Moved v'))) (picked k (answer.Moved v)))).answer
      ≡ answer.Passed → ⊥
  refocused_not true forks forked k k' r r' v v' h = stopped_not r refl h
  refocused_not false true true k k' r r' v v' h = stopped_not r' refl h
  refocused_not false true false k k' r r' v v' h = moved_not v' refl h
  refocused_not false false forked k k' r r' v v' h = moved_not v refl h

  refocus_not : (x : Met) (a : Acted) (l : Ended) → (refocus_by ws rs x a l).answer ≡ answer.Passed → ⊥
  unfolding refocus_by start_by
  refocus_not x a l h = refocused_not (full_of l.refocused) (forks_of x.head) (full_of (refocus_forked ws rs x l.stack).refocused) _ _ _ _ _ _ h

  made_not : (x : Met) (a : Act) (k : Stack) → (make_by ws rs x a k).answer ≡ answer.Passed → ⊥
  made_not x (act.Done a) k h = refocus_not x a _ h
  made_not x (act.NoRoom r) k h = stopped_not r refl h

  -- so a pick that is passed over leaves the frames as they were
  seen : (x : Met) (s : Sight) (k : Stack) → (pick_by ws rs setting x s k).answer ≡ answer.Passed → pick_by ws rs setting x s k ≡ picked k answer.Passed
  seen x sight.Ready k h = absurd (made_not x (act_met setting x) k h)
  seen x sight.Lacking k h = absurd (let z : ◌≡◌ {A = ℕ} 0 1 = cc in omega arith)
  seen x (sight.Blocked b) k h = refl

  frames_kept : (x : Met) (k : Stack) → (pick_of ws rs setting x k).answer ≡ answer.Passed → pick_of ws rs setting x k ≡ picked k answer.Passed
  unfolding pick_of
  frames_kept x k h = seen x (look_met setting x) k h

  -- thread t's pick would be passed over
  abbrev pub Stands : EngineState → ℕ → Type 0
  Stands m t = turn_by ws rs setting m t ≡ picked m.stack answer.Passed

  -- each thread that is marked
  abbrev pub Marked : EngineState → List Bool → Type 0
  Marked m marks = (t : ℕ) → get_or marks t false ≡ true → Stands m t

  module _ (m : EngineState) where
    pub none_marked : Marked m (replicate 8 false)
    none_marked t =
        let n : ◌≡◌ {A = Bool} false true → Stands m t = λ h. absurd (let z : ◌≡◌ {A = ℕ} 0 1 = cc in omega arith) in
        repeated 8 t false false (λ (x : Bool). x ≡ true → Stands m t) n n

    one_marked : (marks : List Bool) (t : ℕ) → Marked m marks → Stands m t → Marked m (set marks t true)
    one_marked marks t others here k h = go (ℕ_discrete k t)
      where
        go : Dec (k ≡ t) → Stands m k
        go (yes e) = subst (Stands m) (sym e) here
        go (no n) = others k (sym (get_or-set_other marks t k true false n) ∙ h)

    -- a thread that is there is marked when its pick has been passed over
    pub marked_too : (marks : List Bool) (t : ℕ) (x : Picked) → t < m.tally.counts.threads → x ≡ picked_by ws rs setting m t → x.answer ≡ answer.Passed
        → Marked m marks → Marked (stayed m x.stack) (set marks t true)
    unfolding turn_by
    marked_too marks t x here came h others =
        let e : picked_by ws rs setting m t ≡ picked m.stack answer.Passed = frames_kept _ _ (ap (λ (y : Picked). y.answer) (sym came) ∙ h) in
        subst (λ (k : Stack). Marked (stayed m k) (set marks t true)) (ap (λ (y : Picked). y.stack) (sym (came ∙ e)))
        (one_marked marks t others (rw (lt-leb _ _ here) e))

    -- and from then on its picks are passed over
    pub passed_again : (p : ℕ) (ps : List ℕ) (i : ℕ) → Stands m (p % 8)
        → play_of ws rs setting (stayed m m.stack) ps (i + 1) ≡ play_of ws rs setting m (p ∷ ps) i
    unfolding play_of
    passed_again p ps i h = rw h
