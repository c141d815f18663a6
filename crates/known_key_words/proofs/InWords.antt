-- Every set, at every moment, in the words of the running code: of every play that nothing refuses, after every pick. Assumes nothing.
use Prim.Native.Nat.{ℕ, ◌+◌, ◌*◌, ◌≤◌, ◌<◌, min}
use native.Mathlib.Omega.{arith}
use mathlib.Core.Path.{◌≡◌, refl, sym, ap, ◌∙◌, subst as along}
use mathlib.Core.Bool.{false}
use mathlib.Core.List.{List, [], map, append-nil}
use mathlib.Core.Option
use mathlib.Core.Option.{Option, some, none}
use lib.ListN.{length, get_or, get_elem?, take, length-take, length-map}
use lib.Seq.{get_or-take}
use Rattle.format.specs.Area.{overwrite}
use Rattle.run_keys.specs.Inner.KeySet.{keys_of}
use Rattle.plan_packed.specs.Format.{procedures, terms, root}
use Rattle.plan_packed.specs.Trees.{program_of}
use Rattle.plan_packed.specs.Check.{refusal}
use Rattle.plan_packed.specs.Inner.Steps as steps
use Rattle.plan_packed.proofs.Decoded.{well_formed}
use Rattle.log_records.specs.Packed.{bytes_of}
use Rattle.rules.specs.State.{Thread}
use Rattle.rules.specs.Run.{Run, play, log}
use Rattle.rules.specs.Play.{play_refusal, run_of}
use Rattle.rules.proofs.StateLaws.{there as thread-at}
use Rattle.machine.specs.Inner.Machine as machine
use Rattle.machine.specs.Inner.Playing as playing
use Rattle.machine.specs.Inner.Playing.{table_of}
use Rattle.machine.proofs.StateMeaning.{thread_meant, get_map}
use Rattle.machine.proofs.Plays.{start_reached, plays}
use Rattle.run_state.specs.declared.Setting.{Setting}
use Rattle.run_engine.specs.Inner.Engine.{Played, head_at, play_of, start_of}
use Rattle.refinement.proofs.Meant.{WordsAndRoots}
use Rattle.refinement.proofs.States.{setting_of, Related}
use Rattle.refinement.proofs.Starts.{start_related}
use Rattle.refinement.proofs.Plays.{plays_defined}
use Rattle.run_refusals.proofs.Passed.{Passed, passed}
use Rattle.known_keys.specs.KnownKeys.{HoldsJust}
use Rattle.known_keys.proofs.EverySet.{every_set_played}
use Rattle.known_key_words.specs.Standing.{Standing, going, halted, engine_of, area_of, standing, go_on}
use Rattle.known_key_words.specs.InWords.{InWords, InWordsAfterEveryPick}
use Rattle.known_key_words.proofs.Standing.{plays_on, stands_for}

-- the area of a play that has no more picks
area_here : (ws rs : List ℕ) (g : Setting) (i : ℕ) (s : Standing) → area_of s ≡ (go_on ws rs g [] i s).area
unfolding play_of
area_here ws rs g i (going m) = refl
area_here ws rs g i (halted m r) = refl

module _ (plan area ws rs : List ℕ) (ok : refusal plan ≡ none) (loaded : WordsAndRoots plan ws rs)
    (ps : List ℕ) (small : (j : ℕ) → j < length ps → get_or ps j 0 ≤ 7) (wide : 3 * length ps ≤ length area) where
  abbrev here : Standing
  here = standing ws rs (setting_of plan) (start_of false rs area) ps 0

  abbrev final : machine.State
  final = (playing.machine_run plan ps).final

  related : Related plan (engine_of here) final
  unfolding playing.machine_run
  related = stands_for plan ws rs ok loaded ps 0 small (start_of false rs area) playing.start (start_related plan ws rs ok loaded false area)
      (start_reached plan ok)

  run_threads : (play (program_of plan) ps).final.threads ≡ map (thread_meant (table_of plan)) final.threads
  run_threads = ap (λ (r : Run). r.final.threads) (plays plan ok ps)

  -- a thread of the abstract machine is one of the run, with its set
  thread_of_lem : (t : ℕ) (x : machine.Thread) → get_elem? final.threads t ≡ some x
      → get_elem? (play (program_of plan) ps).final.threads t ≡ some (thread_meant (table_of plan) x)
  thread_of_lem t x h =
      ap (λ (l : List Thread). get_elem? l t) run_threads
      ∙ get_map (thread_meant (table_of plan)) final.threads t
      ∙ ap (λ (y : Option machine.Thread). Option.map (thread_meant (table_of plan)) y) h

  threads_counted : (engine_of here).tally.counts.threads ≡ length (play (program_of plan) ps).final.threads
  threads_counted =
      related.kept.threads_count
      ∙ sym (ap (λ (l : List Thread). length l) run_threads ∙ length-map final.threads (thread_meant (table_of plan)))

  set_of_lem : (t : ℕ) → t < (engine_of here).tally.counts.threads
      → HoldsJust (program_of plan).version (log (play (program_of plan) ps)) t (keys_of (head_at (engine_of here).heads t).keys)
  set_of_lem t h =
      let x = thread-at final.threads t (let e = related.kept.threads_count in omega arith) in
      along (HoldsJust (program_of plan).version (log (play (program_of plan) ps)) t) (sym (related.each t x.0 x.1).keys)
      (every_set_played (program_of plan) (well_formed plan ok) ps t (thread_meant (table_of plan) x.0) (thread_of_lem t x.0 x.1))

  log_there : area_of here ≡ overwrite (bytes_of (log (play (program_of plan) ps))) area
  log_there =
      area_here ws rs (setting_of plan) (0 + length ps) here
      ∙ ap (λ (r : Played). r.area) (sym (plays_on ws rs (setting_of plan) ps [] (start_of false rs area) 0))
      ∙ ap (λ (l : List ℕ). (play_of ws rs (setting_of plan) (start_of false rs area) l 0).area) (append-nil ps)
      ∙ (plays_defined plan ws rs ok loaded ps area small wide).1

  -- where the run on numbers stands after any picks
  pub in_words : InWords plan ps area here
  unfolding run_of
  in_words = record { present = threads_counted; sets = set_of_lem; log = log_there }

-- E9 over the running code's words: of every play that nothing refuses, after every pick. The words, the roots and the setting are those that `play` hands
-- to the engine.
pub every_set_in_words : (plan schedule area ws rs : List ℕ) → play_refusal plan schedule area ≡ none
    → steps.Loaded plan (terms plan) ws → ((p : ℕ) → p < procedures plan → get_or rs p 0 ≡ root plan p)
    → InWordsAfterEveryPick plan schedule area ws rs (setting_of plan)
unfolding steps.word_at
every_set_in_words plan schedule area ws rs e words roots n =
    let pass : Passed plan schedule area = passed plan schedule area e in
    let size : length (take n schedule) ≡ min n (length schedule) = length-take n schedule in
    in_words plan area ws rs pass.plan_passes (record { words = words.each; roots = roots }) (take n schedule)
    (λ j h. along (λ (q : ℕ). q ≤ 7) (sym (get_or-take n schedule j 0 (omega arith))) (pass.small j (omega arith)))
    (let w = pass.wide in omega arith)
