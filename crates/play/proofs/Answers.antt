-- The code's run on an accepted plan is the defined one. Assumes nothing.
use Prim.Native.Nat.{ℕ, ◌*◌, ◌-◌, ◌≤◌, ◌<◌, min}
use native.Mathlib.Omega.{arith}
use mathlib.Core.Path.{◌≡◌, refl, sym, ap, ◌∙◌, subst as along}
use mathlib.Core.Bool.{Bool, true, false}
use mathlib.Core.List.{List, [], ◌∷◌, map}
use mathlib.Core.Option.{none}
use lib.ListN.{length, get_or, take, length-take}
use lib.Seq.{get_or-take}
use Rattle.format.specs.Area.{overwrite}
use Rattle.plan_packed.specs.Format.{version, procedures, terms, volatiles}
use Rattle.plan_packed.specs.Trees.{program_of}
use Rattle.plan_packed.specs.Check.{refusal}
use Rattle.log_records.specs.Record.{Record}
use Rattle.log_records.specs.Packed.{bytes_of}
use Rattle.rules.specs.Run as run
use Rattle.rules.specs.Run.{instances, log}
use Rattle.rules.specs.Play.{run_of}
use Rattle.run_outcome.specs.declared.NoRoom.TheVariants as room
use Rattle.run_outcome.specs.declared.Stop.{Stop}
use Rattle.run_outcome.specs.declared.Stop.TheVariants as stop
use Rattle.run_outcome.specs.declared.Wait.TheVariants as wait
use Rattle.run_outcome.specs.declared.Stuck.TheVariants as stuck
use Rattle.run_outcome.specs.declared.ThreadState.{ThreadState}
use Rattle.run_outcome.specs.declared.ThreadState.TheVariants as state
use Rattle.run_outcome.specs.declared.Thread.{Thread}
use Rattle.run_outcome.specs.declared.Outcome.{Outcome}
use Rattle.run_state.specs.declared.Setting.{Setting}
use Rattle.run_engine.specs.Inner.Engine.{Played, play_of, start_of, CountedBefore}
use Rattle.run_tally.specs.declared.Ran.{Ran}
use Rattle.refinement.proofs.Meant as meant
use Rattle.refinement.proofs.States.{setting_of}
use Rattle.refinement.proofs.Plays.{state_meant, stop_meant, outcome_meant, plays_recorded, plays_defined}
use Rattle.plan_packed.specs.Inner.Steps.{word_at, Loaded}
use Rattle.play.specs.Inner.Roots.{Roots}
use Rattle.play.specs.Answer.{room_of, stop_of, wait_of, stuck_of, status_of, outcome_of}
use Rattle.play.specs.Inner.RunOn.{Given, RunOn, MovesOn, RunBy}
use Rattle.play.proofs.EveryMove.{records_are_moves, machine_stop}

-- ---- the code's words mean what the refinement says

stop_same : (s : Stop) → stop_of s ≡ stop_meant s
unfolding stop_of room_of
stop_same stop.End = refl
stop_same stop.Race = refl
stop_same (stop.NoRoom room.Thread) = refl
stop_same (stop.NoRoom room.Object) = refl
stop_same (stop.NoRoom room.Key) = refl
stop_same (stop.NoRoom room.Depth) = refl

state_same : (x : ThreadState) → status_of x ≡ state_meant x
unfolding status_of wait_of stuck_of
state_same state.Absent = refl
state_same (state.Finished v) = refl
state_same state.Ready = refl
state_same (state.Waiting (wait.Monitor o)) = refl
state_same (state.Waiting (wait.Join o)) = refl
state_same (state.Waiting (wait.Notify o)) = refl
state_same (state.Stuck (stuck.Field o f)) = refl
state_same (state.Stuck (stuck.Thread o)) = refl
state_same (state.Stuck (stuck.Monitor o)) = refl
state_same (state.Stuck stuck.NoRule) = refl
state_same (state.Lacking o f) = refl

threads_same : (l : List Thread) → map (λ (t : Thread). status_of t.state) l ≡ map (λ (t : Thread). state_meant t.state) l
threads_same [] = refl
threads_same (t ∷ l) = λ i. state_same t.state i ∷ threads_same l i

outcome_same : (o : Outcome) → outcome_of o ≡ outcome_meant o
unfolding outcome_of
outcome_same o = λ i. record {
  stop = stop_same o.stop i;
  picks = o.picks;
  moves = o.moves;
  records = o.records;
  threads =
      threads_same o.threads i;
  totals = map (λ (t : Thread). t.learnt) o.threads;
}

-- ---- the run

module _ (plan ws rs area : List ℕ) (passes : refusal plan ≡ none) (words : Loaded plan (terms plan) ws) (roots : Roots plan (procedures plan) rs) where
  loaded : meant.WordsAndRoots plan ws rs
  unfolding word_at
  loaded = record { words = words.each; roots = roots }

  -- the code's play of these picks
  abbrev code : List ℕ → Played
  code ps = play_of ws rs (setting_of plan) (start_of false rs area) ps 0

  module _ (ps : List ℕ) (small : (j : ℕ) → j < length ps → get_or ps j 0 ≤ 7) (wide : 3 * length ps ≤ length area) where
    defined : (outcome_meant (code ps).outcome ≡ run.outcome_of (program_of plan) (run.play (program_of plan) ps))
        × ((code ps).area ≡ overwrite (bytes_of (log (run.play (program_of plan) ps))) area)
    defined = plays_defined plan ws rs passes loaded ps area small wide

    pub outcome_defined : outcome_of (code ps).outcome ≡ run.outcome_of (program_of plan) (run_of plan ps)
    unfolding run_of
    outcome_defined = outcome_same _ ∙ defined.0

    area_defined : (code ps).area ≡ overwrite (bytes_of (log (run_of plan ps))) area
    unfolding run_of
    area_defined = defined.1

    moves_defined : (code ps).outcome.moves ≡ length (instances (run_of plan ps))
    unfolding outcome_of run.outcome_of
    moves_defined = ap (λ (o : run.Outcome). o.moves) outcome_defined

    records_defined : (code ps).outcome.records ≡ length (log (run_of plan ps))
    unfolding outcome_of run.outcome_of
    records_defined = ap (λ (o : run.Outcome). o.records) outcome_defined

-- the first picks of a schedule are picks of eight threads too, and fewer
module _ (ps : List ℕ) (k : ℕ) where
  first_small : ((j : ℕ) → j < length ps → get_or ps j 0 ≤ 7) → (j : ℕ) → j < length (take k ps) → get_or (take k ps) j 0 ≤ 7
  first_small h j l =
      let q : length (take k ps) ≡ min k (length ps) = length-take k ps in
      along (λ (x : ℕ). x ≤ 7) (sym (get_or-take k ps j 0 (omega arith))) (h j (omega arith))

  first_wide : (n : ℕ) → 3 * length ps ≤ n → 3 * length (take k ps) ≤ n
  first_wide n h = let q : length (take k ps) ≡ min k (length ps) = length-take k ps in omega arith

-- the code's run is the defined one
module _ (plan ws rs picks area : List ℕ) (given : Given plan ws picks area) (roots : Roots plan (procedures plan) rs) (r : Ran) (after : List ℕ) where
  -- it did what the machine does, with a record for every move or for those that have one
  pub record RanAs (every : Bool) (g : Setting) : Type 0 where
    pub outcome : r.outcome ≡ (play_of ws rs g (start_of every rs area) picks 0).outcome
    pub area_left : after ≡ (play_of ws rs g (start_of every rs area) picks 0).area
    pub before : CountedBefore ws rs g (start_of every rs area) picks r

  records_on : RanAs false (setting_of plan) → RunOn plan picks area after r
  records_on e =
      let k : ℕ = min r.outcome.picks (length picks - 1) in
      let p = given.plan_passes in
      let w = given.loaded in
      let s = first_small picks k given.small in
      let l = first_wide picks k (length area) given.wide in
      record {
        outcome = ap outcome_of e.outcome ∙ outcome_defined plan ws rs area p w roots picks given.small given.wide;
        area = e.area_left ∙ area_defined plan ws rs area p w roots picks given.small given.wide;
        moves_before = e.before.moves ∙ moves_defined plan ws rs area p w roots (take k picks) s l;
        records_before = e.before.records ∙ records_defined plan ws rs area p w roots (take k picks) s l;
      }

  moves_on : RanAs true (setting_of plan) → MovesOn plan picks area after r
  moves_on e =
      let p = given.plan_passes in
      let x = plays_recorded plan ws rs p (loaded plan ws rs area p given.loaded roots) picks area given.small given.wide true in
      let L = records_are_moves plan p picks in
      record {
        stop = stop_same r.outcome.stop ∙ ap (λ (o : Outcome). stop_meant o.stop) e.outcome ∙ x.0 ∙ machine_stop plan p picks;
        records = ap (λ (o : Outcome). o.records) e.outcome ∙ x.1 ∙ ap length L;
        area = e.area_left ∙ x.2 ∙ ap (λ (K : List Record). overwrite (bytes_of K) area) L;
      }

  by_records : (every : Bool) → RanAs every (setting_of plan) → RunBy every plan picks area after r
  by_records true e = moves_on e
  by_records false e = records_on e

  pub run_on : (every : Bool) (mask v : ℕ) → mask ≡ volatiles plan → v ≡ version plan → RanAs every (record { mask = mask; version = v })
      → RunBy every plan picks area after r
  run_on every mask v em ev e =
      by_records every (along (λ (x : ℕ). RanAs every (record { mask = volatiles plan; version = x })) ev
      (along (λ (x : ℕ). RanAs every (record { mask = x; version = v })) em e))
