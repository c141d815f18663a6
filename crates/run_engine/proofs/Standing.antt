-- Where a run stands before a pick of its list: what is known of its arrays, and what a longer list leaves of that. Assumes nothing.
use Prim.Native.Nat.{ℕ, ◌-◌, ◌≤◌}
use native.Mathlib.Omega.{arith}
use mathlib.Core.Path.{◌≡◌, sym, ap, ◌∙◌}
use mathlib.Core.Bool.{Bool}
use mathlib.Core.List.{List, ◌++◌}
use lib.ListN.{length, take}
use lib.Seq.{take-take}
use Rattle.run_refocusing.specs.Inner.Refocusing.{Stack}
use Rattle.run_outcome.specs.declared.Stop.{Stop}
use Rattle.run_outcome.specs.declared.Stop.TheVariants as stop
use Rattle.run_state.specs.declared.Setting.{Setting}
use Rattle.run_state.specs.declared.Head.{Head}
use Rattle.run_state.specs.declared.Object.{Object}
use Rattle.run_tally.specs.declared.Tally.{Tally}
use Rattle.run_engine.specs.declared.kept.Kept.{Kept}
use Rattle.run_engine.specs.Inner.Engine.{Played, start_of, play_of}
use Rattle.run_engine.proofs.PassedOver.{Marked}
use Rattle.run_engine.proofs.Restored.{engine_of}

module _ (ws rs : List ℕ) (g : Setting) (every : Bool) (first : List ℕ) where
  -- the run of these picks from the start, with this log
  abbrev pub played : List ℕ → Played
  played ps = play_of ws rs g (start_of every rs first) ps 0

  -- before pick i of the list: the rest of the run from here is the whole run, and marked threads would be passed over
  pub record Standing (list : List ℕ) (i : ℕ) (log : List ℕ) (heads : List Head) (cells : List Kept) (objects : List Object) (places : List ℕ)
      (stack : Stack) (passed : List Bool) (tally : Tally) (halt : Stop) (moves_before records_before : ℕ) : Type 0 where
    pub few_moves : tally.moves ≤ i
    pub few_records : tally.records ≤ i
    pub kept : length log ≡ length first
    pub goes : (qs : List ℕ)
        → play_of ws rs g (engine_of heads cells objects places stack every tally log) qs i ≡ played (take i list ++ qs)
    pub unstopped : halt ≡ stop.End
    pub eight : length places ≡ 8
    pub moves : moves_before ≡ (played (take (i - 1) list)).outcome.moves
    pub records : records_before ≡ (played (take (i - 1) list)).outcome.records
    pub marked : Marked ws rs g (engine_of heads cells objects places stack every tally log) passed

  -- the same in a list whose first picks are those
  pub in_list : {list : List ℕ} {i : ℕ} {log : List ℕ} {heads : List Head} {cells : List Kept} {objects : List Object} {places : List ℕ} {stack : Stack}
      {passed : List Bool} {tally : Tally} {halt : Stop} {mb rb : ℕ} (longer : List ℕ) → take i longer ≡ take i list
      → Standing list i log heads cells objects places stack passed tally halt mb rb
      → Standing longer i log heads cells objects places stack passed tally halt mb rb
  in_list {list} {i} longer e s =
      record {
        few_moves = s.few_moves;
        few_records = s.few_records;
        kept = s.kept;
        goes = λ qs. s.goes qs ∙ ap (λ (l : List ℕ). played (l ++ qs)) (sym e);
        unstopped = s.unstopped;
        eight = s.eight;
        moves = s.moves ∙ ap (λ (l : List ℕ). (played l).outcome.moves) earlier;
        records = s.records ∙ ap (λ (l : List ℕ). (played l).outcome.records) earlier;
        marked = s.marked;
      }
    where
      earlier : take (i - 1) list ≡ take (i - 1) longer
      earlier =
          sym (take-take (i - 1) i list (omega arith)) ∙ ap (take (i - 1)) (sym e) ∙ take-take (i - 1) i longer (omega arith)

  -- the same by the same numbers
  pub standing_as : {list : List ℕ} {i j : ℕ} {log log' : List ℕ} {heads : List Head} {cells : List Kept} {objects : List Object} {places : List ℕ}
      {stack stack' : Stack} {passed : List Bool} {tally tally' : Tally} {halt halt' : Stop} {mb mb' rb rb' : ℕ} → j ≡ i → log' ≡ log → stack' ≡ stack
      → tally' ≡ tally → halt' ≡ halt → mb' ≡ mb → rb' ≡ rb → Standing list i log heads cells objects places stack passed tally halt mb rb
      → Standing list j log' heads cells objects places stack' passed tally' halt' mb' rb'
  standing_as ei el es et eh em er s = rw (ei, el, es, et, eh, em, er) s
