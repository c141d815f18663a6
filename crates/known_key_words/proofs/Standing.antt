-- Where the run on numbers stands is on the way of its play, and stands for a state of the abstract machine's run. Assumes nothing.
use Prim.Native.Nat.{ℕ, suc, ◌+◌, ◌%◌, ◌≤◌, ◌<◌}
use native.Mathlib.Nat.{mod-eq_of_lt}
use native.Mathlib.Omega.{arith}
use mathlib.Core.Path.{◌≡◌, refl, sym, ap, ◌∙◌, subst as along}
use mathlib.Core.List.{List, [], ◌∷◌, ◌++◌}
use mathlib.Core.Option.{none}
use lib.ListN.{length, get_or}
use Rattle.plan_packed.specs.Trees.{program_of}
use Rattle.plan_packed.specs.Check.{refusal}
use Rattle.machine.specs.Inner.Machine as machine
use Rattle.machine.specs.Inner.Playing as playing
use Rattle.machine.specs.Inner.Playing.{table_of}
use Rattle.machine.proofs.Runs.{Reached}
use Rattle.machine.proofs.Plays.{move_reached}
use Rattle.run_refocusing.specs.Inner.Refocusing.{Stack}
use Rattle.run_outcome.specs.declared.Stop.TheVariants as stop
use Rattle.run_state.specs.declared.Setting.{Setting}
use Rattle.run_pick.specs.Inner.Answer.{PickAnswer, PickAnswer as answer}
use Rattle.run_pick.specs.Inner.Pick.{Picked}
use Rattle.run_engine.specs.Inner.Engine.{EngineState, stopped, stayed, after, turn_by, on_answer, play_of}
use Rattle.refinement.proofs.Meant.{WordsAndRoots}
use Rattle.refinement.proofs.States.{setting_of, Related}
use Rattle.refinement.proofs.Picks.{AnsweredBy, picks}
use Rattle.known_key_words.specs.Standing.{Standing, halted, engine_of, by_answer, standing, go_on}

-- ---- on the way of the play

module _ (ws rs : List ℕ) (g : Setting) where
  -- the play of some picks and then of others goes on from where the first stand
  pub plays_on : (ps qs : List ℕ) (m : EngineState) (i : ℕ) → play_of ws rs g m (ps ++ qs) i ≡ go_on ws rs g qs (i + length ps) (standing ws rs g m ps i)
  unfolding play_of standing
  plays_on [] qs m i = ap (play_of ws rs g m qs) (omega arith)
  plays_on (p ∷ ps) qs m i =
      go (turn_by ws rs g m (p % 8)).answer (turn_by ws rs g m (p % 8)).stack
      (λ m. plays_on ps qs m (i + 1) ∙ ap (λ (j : ℕ). go_on ws rs g qs j (standing ws rs g m ps (i + 1))) (one_later i))
    where
      one_later : (i : ℕ) → i + 1 + length ps ≡ i + suc (length ps)
      one_later i = omega arith

      go : (a : PickAnswer) (k : Stack)
          → ((m : EngineState) → play_of ws rs g m (ps ++ qs) (i + 1) ≡ go_on ws rs g qs (i + suc (length ps)) (standing ws rs g m ps (i + 1)))
          → on_answer a (play_of ws rs g (stayed m k) (ps ++ qs) (i + 1))
          (λ v. play_of ws rs g (after m (p % 8) v k) (ps ++ qs) (i + 1)) (λ e x. stopped g m (p % 8) x e i)
          ≡ go_on ws rs g qs (i + suc (length ps))
          (by_answer a (standing ws rs g (stayed m k) ps (i + 1)) (λ v. standing ws rs g (after m (p % 8) v k) ps (i + 1))
          (λ e x. halted m (stopped g m (p % 8) x e i)))
      go answer.Passed k ih = ih (stayed m k)
      go (answer.Moved v) k ih = ih (after m (p % 8) v k)
      go (answer.Stopped e x) k ih = refl

-- ---- a state of the abstract machine's run

module _ (b ws rs : List ℕ) (ok : refusal b ≡ none) (loaded : WordsAndRoots b ws rs) where
  abbrev after_picks : EngineState → List ℕ → ℕ → Standing
  after_picks m ps i = standing ws rs (setting_of b) m ps i

  abbrev run_from : List ℕ → machine.State → playing.Run
  run_from ps s = playing.run (table_of b) s ps

  module _ (m : EngineState) (s : machine.State) (rel : Related b m s) (reach : Reached (table_of b) (program_of b) s) (p : ℕ) (small : p < 8) (ps : List ℕ)
      (i : ℕ)
      (rest : (m : EngineState) (s : machine.State) → Related b m s → Reached (table_of b) (program_of b) s
      → Related b (engine_of (after_picks m ps (i + 1))) (run_from ps s).final) where
    -- where the run on numbers and the abstract machine stand after the pick and the rest, by its answer
    abbrev Stands : PickAnswer → Stack → playing.PickAnswer → Type 0
    Stands z k a =
        Related b
        (engine_of (by_answer z (after_picks (stayed m k) ps (i + 1)) (λ v. after_picks (after m p v k) ps (i + 1))
        (λ e x. halted m (stopped (setting_of b) m p x e i))))
        (playing.resume s p (run_from ps) a).final

    answered_stands : (z : PickAnswer) (k : Stack) → AnsweredBy b m s p z k → Stands z k (playing.step (table_of b) s p)
    unfolding playing.resume playing.after_pass playing.after_move playing.stopped
    answered_stands answer.Passed k (e, same) =
        along (Stands answer.Passed k) (sym e) (rest (stayed m k) s (along (λ (k : Stack). Related b (stayed m k) s) (sym same) rel) reach)
    answered_stands (answer.Moved v) k (u, e, entered, rel') =
        along (Stands (answer.Moved v) k) (sym e) (rest (after m p v k) u.state rel' (move_reached b ok s p u reach e))
    answered_stands (answer.Stopped stop.End x) k h = absurd h
    answered_stands (answer.Stopped stop.Race x) k (y, e, written) = along (Stands (answer.Stopped stop.Race x) k) (sym e) rel
    answered_stands (answer.Stopped (stop.NoRoom R) x) k (e, none_written) = along (Stands (answer.Stopped (stop.NoRoom R) x) k) (sym e) rel

    abbrev turn : Picked
    turn = turn_by ws rs (setting_of b) m p

    pick_stands : Stands turn.answer turn.stack (playing.step (table_of b) s p)
    pick_stands = answered_stands turn.answer turn.stack (picks b ws rs ok loaded m s rel reach p small)

  -- after any picks it stands for where the abstract machine's run stands
  pub stands_for : (ps : List ℕ) (i : ℕ) → ((j : ℕ) → j < length ps → get_or ps j 0 ≤ 7)
      → (m : EngineState) (s : machine.State) → Related b m s → Reached (table_of b) (program_of b) s
      → Related b (engine_of (after_picks m ps i)) (run_from ps s).final
  unfolding standing playing.run playing.stopped
  stands_for [] i small m s rel reach = rel
  stands_for (p ∷ ps) i small m s rel reach =
      let low : p ≤ 7 = small 0 (omega arith) in
      along
      (λ (q : ℕ).
      Related b
      (engine_of (by_answer (turn_by ws rs (setting_of b) m q).answer (after_picks (stayed m (turn_by ws rs (setting_of b) m q).stack) ps (i + 1))
      (λ v. after_picks (after m q v (turn_by ws rs (setting_of b) m q).stack) ps (i + 1)) (λ e x. halted m (stopped (setting_of b) m q x e i))))
      (playing.resume s p (run_from ps) (playing.step (table_of b) s p)).final)
      (sym (mod-eq_of_lt {m = 8} (omega arith)))
      (pick_stands m s rel reach p (omega arith) ps i (stands_for ps (i + 1) (λ j h. small (suc j) (omega arith))))
