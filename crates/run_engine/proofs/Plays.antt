-- How a run begins, goes on, passes a pick over, and stops. Assumes nothing.
use mathlib.Core.Path.{◌≡◌, refl, sym, ap, ◌∙◌}
use mathlib.Core.Bool.{Bool, true, false}
use mathlib.Core.List.{List, [], ◌∷◌}
use Prim.Native.Nat.{ℕ, ◌+◌, ◌%◌, ◌<◌, ◌≤◌}
use borrow.Author.Tests.{le-leb, lt-leb}
use lib.ListN.{get_or, set, replicate}
use Rattle.run_refocusing.specs.Inner.Refocusing.{Stack}
use Rattle.run_outcome.specs.declared.Stop.{Stop}
use Rattle.run_state.specs.declared.Setting.{Setting}
use Rattle.run_state.specs.declared.Head.{Head}
use Rattle.run_state.specs.declared.Cell.{Cell}
use Rattle.run_state.specs.declared.Object.{Object}
use Rattle.run_state.specs.declared.Entry.{Entry}
use Rattle.run_tally.specs.declared.Tally.{Tally}
use Rattle.run_tally.specs.Inner.Tally.{shown_entry, tally_first, tally_put, tally_moved, log_put}
use Rattle.run_pick.specs.Inner.Answer.{Move, PickAnswer, PickAnswer as answer}
use Rattle.run_pick.specs.Inner.Pick.{no_head, Picked}
use Rattle.run_queue.specs.Inner.Queue.{after_of}
use Rattle.run_engine.specs.Inner.Engine.{EngineState, Played, head_at, cell_number, head_of, cell_first, no_object, end_of, stopped, with_forked, stayed, after}
use Rattle.run_engine.specs.Inner.Engine.{picked_by}
use Rattle.run_engine.specs.Inner.Engine.{turn_by, on_answer, start_of, play_of}

module _ (ws rs : List ℕ) (setting : Setting) where
  abbrev begun : Bool → Head → Head → List Cell → Object → Tally → List ℕ → EngineState
  begun every n h cs t s l =
      record {
        heads = set (replicate 16 n) 0 h;
        cells = cs;
        objects = replicate 33 t;
        places = replicate 8 0;
        stack = replicate 891 0;
        every = every;
        tally = s;
        log = l;
      }

  pub begins : (every : Bool) (ps l : List ℕ) (n h : Head) (cs : List Cell) (t : Object) (s : Tally)
      → n ≡ no_head → h ≡ head_of (get_or rs 0 0) → cs ≡ replicate 1024 cell_first → t ≡ no_object → s ≡ tally_first
      → play_of ws rs setting (begun every n h cs t s l) ps 0 ≡ play_of ws rs setting (start_of every rs l) ps 0
  unfolding start_of
  begins every ps l n h cs t s qn qh qc qt qs =
      ap (λ (n : Head). play_of ws rs setting (begun every n h cs t s l) ps 0) qn
      ∙ ap (λ (h : Head). play_of ws rs setting (begun every no_head h cs t s l) ps 0) qh
      ∙ ap (λ (cs : List Cell). play_of ws rs setting (begun every no_head (head_of (get_or rs 0 0)) cs t s l) ps 0) qc
      ∙ ap (λ (t : Object). play_of ws rs setting (begun every no_head (head_of (get_or rs 0 0)) (replicate 1024 cell_first) t s l) ps 0) qt
      ∙ ap (λ (s : Tally). play_of ws rs setting (begun every no_head (head_of (get_or rs 0 0)) (replicate 1024 cell_first) no_object s l) ps 0) qs

  module _ (m : EngineState) (p : ℕ) (ps : List ℕ) (i : ℕ) where
    -- the pick of a thread that is not there
    pub absent_passed : m.tally.counts.threads ≤ p % 8 → play_of ws rs setting (stayed m m.stack) ps (i + 1) ≡ play_of ws rs setting m (p ∷ ps) i
    unfolding play_of turn_by
    absent_passed h = rw (le-leb _ _ h)

    -- the pick of one that is, by its answer
    module _ (x : Picked) (here : p % 8 < m.tally.counts.threads) (came : x ≡ picked_by ws rs setting m (p % 8)) where
      abbrev rest : PickAnswer → Played
      rest z =
          on_answer z (play_of ws rs setting (stayed m x.stack) ps (i + 1)) (λ v. play_of ws rs setting (after m (p % 8) v x.stack) ps (i + 1))
          (λ e y. stopped setting m (p % 8) y e i)

      goes : (z : PickAnswer) → x.answer ≡ z → rest z ≡ play_of ws rs setting m (p ∷ ps) i
      unfolding play_of turn_by
      goes z e = rw (lt-leb _ _ here, ← came, e)

      pub passed : x.answer ≡ answer.Passed → play_of ws rs setting (stayed m x.stack) ps (i + 1) ≡ play_of ws rs setting m (p ∷ ps) i
      passed h = goes answer.Passed h

      pub moved : {v : Move} → x.answer ≡ answer.Moved v → (cs : List Cell) (hs : List Head) (ts : List Object) (qs : List ℕ) (s s' : Tally) (l : List ℕ)
          → cs ≡ set m.cells (cell_number (head_at m.heads (p % 8)).ready) v.cell
          → hs ≡ set (with_forked v.forks m.heads (m.tally.counts.threads % 9) v.forked) (p % 8) v.mover
          → ts ≡ set m.objects (m.tally.counts.objects % 33) v.object
          → qs ≡ after_of m.places (head_at m.heads (p % 8)).ready (p % 8)
          → s ≡ tally_put m.tally (shown_entry m.every v.entry) → s' ≡ tally_moved s v.counts
          → l ≡ log_put m.log m.tally.records (p % 8) (shown_entry m.every v.entry)
          → play_of ws rs setting (record { heads = hs; cells = cs; objects = ts; places = qs; stack = x.stack; every = m.every; tally = s'; log = l }) ps
          (i + 1)
          ≡ play_of ws rs setting m (p ∷ ps) i
      moved {v} e cs hs ts qs s s' l ec eh et eq es es' el = rw (ec, eh, et, eq, es', es, el) (goes (answer.Moved v) e)

      pub stops : {e : Stop} {y : Entry} → x.answer ≡ answer.Stopped e y → (e' : Stop) (j : ℕ) (s : Tally) (l : List ℕ) → e' ≡ e → j ≡ i
          → s ≡ tally_put m.tally y
          → l ≡ log_put m.log m.tally.records (p % 8) y
          → record { outcome = end_of e' j setting s m.heads m.cells m.objects m.places; area = l } ≡ play_of ws rs setting m (p ∷ ps) i
      stops {e} {y} h e' j s l qe qj qs ql = rw (qe, qj, qs, ql) (goes (answer.Stopped e y) h)

-- the heads with the mover's, where a thread was made and where none was
module _ {forks : Bool} (hs hs' : List Head) (q p : ℕ) {h h' : Head} (e : h ≡ h') where
  pub heads_forked : {y y' : Head} → forks ≡ true → y ≡ y' → hs' ≡ set (set hs q y) p h → hs' ≡ set (with_forked forks hs q y') p h'
  heads_forked {y} {y'} k j r = r ∙ rw (k, j, e)

  pub heads_alone : (y : Head) → forks ≡ false → hs' ≡ set hs p h → hs' ≡ set (with_forked forks hs q y) p h'
  heads_alone y k r = r ∙ rw (k, e)

-- an object put at the same number
pub object_put : (ts : List Object) (n k : ℕ) (t : Object) → n ≡ k → set ts n t ≡ set ts k t
object_put ts n k t e = ap (λ (n : ℕ). set ts n t) e

-- an end by the same numbers is the same end
pub ends_as : (setting : Setting) (hs : List Head) (cs : List Cell) (ts : List Object) (qs : List ℕ) (e e' : Stop) (i i' : ℕ) (s s' : Tally) (l l' : List ℕ)
    → e ≡ e' → i ≡ i' → s ≡ s' → l ≡ l'
    → ◌≡◌ {A = Played} (record { outcome = end_of e i setting s hs cs ts qs; area = l }) (record { outcome = end_of e' i' setting s' hs cs ts qs; area = l' })
ends_as setting hs cs ts qs e e' i i' s s' l l' ee ei es el = rw (ee, ei, es, el)
