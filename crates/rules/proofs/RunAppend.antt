-- A run of some picks and then of others: where the first did not stop, it is the first run and then the others' run from the state where it stands;
-- where it stopped, it is the first run. So "after every pick" and "the state that a pick meets" speak of runs. Assumes nothing.
use Prim.Native.Nat.{ℕ, suc, ◌+◌, ◌≤◌, ◌<◌}
use native.Mathlib.Omega.{arith}
use mathlib.Core.Path.{◌≡◌, refl, ap, ◌∙◌}
use mathlib.Core.Bool.{true≢false}
use mathlib.Core.List.{List, [], ◌∷◌, ◌++◌, foldr, map-append}
use mathlib.Core.Option.{Option, some, none}
use lib.ListN.{length, length-append}
use Rattle.plan_packed.specs.Syntax.{Program}
use Rattle.log_records.specs.Record.{Record}
use Rattle.rules.specs.State.{State}
use Rattle.rules.specs.Step.{Move}
use Rattle.rules.specs.Room.{PickAnswerOf, PickAnswer, step}
use Rattle.rules.specs.Run.{Stop, MadeMove, Run, logged, log, instances, made, after_pass, after_move, stopped, resume, run}

-- a run that did not stop, and then another from the state where it stands
abbrev pub and_then : Run → Run → Run
and_then r t = record { stop = t.stop; picks = r.picks + t.picks; moves = r.moves ++ t.moves; lacked = t.lacked; final = t.final }

none_and_then : (s : State) (t : Run) → t ≡ and_then (stopped Stop.end none s) t
unfolding stopped
none_and_then s t = λ i. record { stop = t.stop; picks = zero_more i; moves = t.moves; lacked = t.lacked; final = t.final }
  where
    zero_more : t.picks ≡ 0 + t.picks
    zero_more = omega arith

one_more_lem : (m n : ℕ) → suc (m + n) ≡ suc m + n
one_more_lem m n = omega arith

pass_and_then : (r t : Run) → after_pass (and_then r t) ≡ and_then (after_pass r) t
unfolding after_pass
pass_and_then r t =
    λ i. record { stop = t.stop; picks = one_more_lem r.picks t.picks i; moves = r.moves ++ t.moves; lacked = t.lacked; final = t.final }

move_and_then : (p : ℕ) (m : Move) (r t : Run) → after_move p m (and_then r t) ≡ and_then (after_move p m r) t
unfolding after_move
move_and_then p m r t =
    λ i. record { stop = t.stop; picks = one_more_lem r.picks t.picks i; moves = made p m ∷ (r.moves ++ t.moves); lacked = t.lacked; final = t.final }

-- the rule instances are those of both
pub instances_append : (r t : Run) → instances (and_then r t) ≡ instances r ++ instances t
unfolding instances
instances_append r t = map-append (λ (m : MadeMove). m.rule) r.moves t.moves

-- the log is that of both, where no access of the first lacked its key
pub log_append : (r t : Run) → r.lacked ≡ none → log (and_then r t) ≡ log r ++ log t
unfolding log
log_append r t h = rw h (go r.moves)
  where
    L : List Record
    L = logged t.lacked []

    records : List MadeMove → List Record → List Record
    records ms L = foldr (λ (m : MadeMove) (L : List Record). logged m.entry L) L ms

    logged_append : (e : Option Record) (L M : List Record) → logged e (L ++ M) ≡ logged e L ++ M
    logged_append none L M = refl
    logged_append (some r) L M = refl

    go : (ms : List MadeMove) → records (ms ++ t.moves) L ≡ records ms [] ++ records t.moves L
    go [] = refl
    go (m ∷ ms) = ap (logged m.entry) (go ms) ∙ logged_append m.entry (records ms []) (records t.moves L)

module _ (g : Program) where
  -- the first run did not stop
  pub run_append : (s : State) (ps qs : List ℕ) → (run g s ps).stop ≡ Stop.end → run g s (ps ++ qs) ≡ and_then (run g s ps) (run g (run g s ps).final qs)
  unfolding run resume
  run_append s [] qs h = none_and_then s (run g s qs)
  run_append s (p ∷ ps) qs h = go (step g s p) h (λ z k. run_append z ps qs k)
    where
      go : (a : PickAnswer) → (resume s p (λ z. run g z ps) a).stop ≡ Stop.end
          → ((z : State) → (run g z ps).stop ≡ Stop.end → run g z (ps ++ qs) ≡ and_then (run g z ps) (run g (run g z ps).final qs))
          → resume s p (λ z. run g z (ps ++ qs)) a ≡ and_then (resume s p (λ z. run g z ps) a) (run g (resume s p (λ z. run g z ps) a).final qs)
      go PickAnswerOf.passed h ih = ap after_pass (ih s h) ∙ pass_and_then (run g s ps) (run g (run g s ps).final qs)
      go (PickAnswerOf.race r) h ih = absurd (true≢false cc)
      go (PickAnswerOf.no_room k) h ih = absurd (true≢false cc)
      go (PickAnswerOf.moved m) h ih = ap (after_move p m) (ih m.state h) ∙ move_and_then p m (run g m.state ps) (run g (run g m.state ps).final qs)

  -- the first run stopped
  pub run_stopped : (s : State) (ps qs : List ℕ) → ((run g s ps).stop ≡ Stop.end → ⊥) → run g s (ps ++ qs) ≡ run g s ps
  unfolding run resume
  run_stopped s [] qs h = absurd (h refl)
  run_stopped s (p ∷ ps) qs h = go (step g s p) h (λ z k. run_stopped z ps qs k)
    where
      go : (a : PickAnswer) → ((resume s p (λ z. run g z ps) a).stop ≡ Stop.end → ⊥)
          → ((z : State) → ((run g z ps).stop ≡ Stop.end → ⊥) → run g z (ps ++ qs) ≡ run g z ps)
          → resume s p (λ z. run g z (ps ++ qs)) a ≡ resume s p (λ z. run g z ps) a
      go PickAnswerOf.passed h ih = ap after_pass (ih s h)
      go (PickAnswerOf.race r) h ih = refl
      go (PickAnswerOf.no_room k) h ih = refl
      go (PickAnswerOf.moved m) h ih = ap (after_move p m) (ih m.state h)

  -- a run that did not stop has dealt with every pick
  pub all_dealt_with : (s : State) (ps : List ℕ) → (run g s ps).stop ≡ Stop.end → (run g s ps).picks ≡ length ps
  unfolding run resume stopped
  all_dealt_with s [] h = refl
  all_dealt_with s (p ∷ ps) h = go (step g s p) h (λ z k. all_dealt_with z ps k)
    where
      go : (a : PickAnswer) → (resume s p (λ z. run g z ps) a).stop ≡ Stop.end → ((z : State) → (run g z ps).stop ≡ Stop.end → (run g z ps).picks ≡ length ps)
          → (resume s p (λ z. run g z ps) a).picks ≡ suc (length ps)
      go PickAnswerOf.passed h ih = ap suc (ih s h)
      go (PickAnswerOf.race r) h ih = absurd (true≢false cc)
      go (PickAnswerOf.no_room k) h ih = absurd (true≢false cc)
      go (PickAnswerOf.moved m) h ih = ap suc (ih m.state h)

  -- and no access of it lacked its key
  pub none_lacked : (s : State) (ps : List ℕ) → (run g s ps).stop ≡ Stop.end → (run g s ps).lacked ≡ none
  unfolding run resume stopped
  none_lacked s [] h = refl
  none_lacked s (p ∷ ps) h = go (step g s p) h (λ z k. none_lacked z ps k)
    where
      go : (a : PickAnswer) → (resume s p (λ z. run g z ps) a).stop ≡ Stop.end → ((z : State) → (run g z ps).stop ≡ Stop.end → (run g z ps).lacked ≡ none)
          → (resume s p (λ z. run g z ps) a).lacked ≡ none
      go PickAnswerOf.passed h ih = ih s h
      go (PickAnswerOf.race r) h ih = absurd (true≢false cc)
      go (PickAnswerOf.no_room k) h ih = refl
      go (PickAnswerOf.moved m) h ih = ih m.state h

  -- so its log goes on in that of more picks
  pub log_goes_on : (s : State) (ps qs : List ℕ) → (run g s ps).stop ≡ Stop.end
      → log (run g s (ps ++ qs)) ≡ log (run g s ps) ++ log (run g (run g s ps).final qs)
  log_goes_on s ps qs h = ap log (run_append s ps qs h) ∙ log_append (run g s ps) (run g (run g s ps).final qs) (none_lacked s ps h)

  -- a run that stopped has not
  pub stopped_short : (s : State) (ps : List ℕ) → ((run g s ps).stop ≡ Stop.end → ⊥) → (run g s ps).picks < length ps
  unfolding run resume stopped
  stopped_short s [] n = absurd (n refl)
  stopped_short s (p ∷ ps) n = go (step g s p) n (λ z k. stopped_short z ps k)
    where
      go : (a : PickAnswer) → ((resume s p (λ z. run g z ps) a).stop ≡ Stop.end → ⊥)
          → ((z : State) → ((run g z ps).stop ≡ Stop.end → ⊥) → (run g z ps).picks < length ps)
          → (resume s p (λ z. run g z ps) a).picks < suc (length ps)
      go PickAnswerOf.passed n ih = let h = ih s n in omega arith
      go (PickAnswerOf.race r) n ih = omega arith
      go (PickAnswerOf.no_room k) n ih = omega arith
      go (PickAnswerOf.moved m) n ih = let h = ih m.state n in omega arith

  -- more picks make no fewer records
  pub records_grow : (s : State) (ps qs : List ℕ) → length (log (run g s ps)) ≤ length (log (run g s (ps ++ qs)))
  records_grow s ps qs = go (run g s ps).stop refl
    where
      halted : ((run g s ps).stop ≡ Stop.end → ⊥) → length (log (run g s ps)) ≤ length (log (run g s (ps ++ qs)))
      halted n = rw (run_stopped s ps qs n) (omega arith)

      go : (e : Stop) → (run g s ps).stop ≡ e → length (log (run g s ps)) ≤ length (log (run g s (ps ++ qs)))
      go Stop.end h = rw (log_goes_on s ps qs h, length-append) (omega arith)
      go Stop.race h = halted (λ q. true≢false cc)
      go (Stop.no_room k) h = halted (λ q. true≢false cc)

  -- the state that a pick meets is the one where the run of the picks before it stands
  pub pick_meets : (s : State) (ps : List ℕ) (p : ℕ) (qs : List ℕ) → (run g s ps).stop ≡ Stop.end
      → run g s (ps ++ (p ∷ qs)) ≡ and_then (run g s ps) (resume (run g s ps).final p (λ z. run g z qs) (step g (run g s ps).final p))
  unfolding run
  pick_meets s ps p qs h = run_append s ps (p ∷ qs) h
