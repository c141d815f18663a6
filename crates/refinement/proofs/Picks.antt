-- The code's answer to a pick is the abstract machine's, and a move keeps what the code's state stands for. Assumes nothing.
use Prim.Native.Nat.{ℕ, ◌<◌}
use native.Mathlib.Omega.{arith}
use mathlib.Core.Path.{◌≡◌, refl, ap, ap₂, ◌∙◌, subst as along}
use mathlib.Core.Bool.{Bool, true, false, cond, ◌&&◌, ◌||◌}
use mathlib.Core.List.{List}
use mathlib.Core.Option.{some, none}
use lib.Dec.{leb}
use borrow.Author.Tests.{leb-false, leb-true}
use Rattle.format.specs.Refusal.{or_else}
use Rattle.plan_packed.specs.Trees.{program_of}
use Rattle.plan_packed.specs.Check.{refusal}
use Rattle.log_records.specs.Record.{Record}
use Rattle.rules.specs.Room as rooms
use Rattle.machine.specs.Inner.Machine as machine
use Rattle.machine.specs.Inner.Playing.{table_of}
use Rattle.machine.specs.Inner.Playing as playing
use Rattle.machine.proofs.Runs.{Reached}
use Rattle.run_frames.specs.declared.refocusing.Ready.{Ready}
use Rattle.run_refocusing.specs.Inner.Refocusing.{Stack, Ended}
use Rattle.run_outcome.specs.declared.NoRoom.TheVariants as room
use Rattle.run_outcome.specs.declared.Stop.{Stop}
use Rattle.run_outcome.specs.declared.Stop.TheVariants as stop
use Rattle.run_state.specs.declared.Entry.{Entry}
use Rattle.run_state.specs.declared.acted.Act.{Act}
use Rattle.run_state.specs.declared.acted.Act.TheVariants as act
use Rattle.run_state.specs.declared.acted.Acted.{Acted}
use Rattle.run_look.specs.declared.Block.{Block}
use Rattle.run_look.specs.declared.Block.TheVariants as block
use Rattle.run_look.specs.declared.Sight.{Sight}
use Rattle.run_look.specs.declared.Sight.TheVariants as sight
use Rattle.run_pick.specs.declared.Met.{Met}
use Rattle.run_pick.specs.Inner.Answer.{PickAnswer, PickAnswer as answer}
use Rattle.run_pick.specs.Inner.Pick.{Picked, picked, no_room, no_head, forks_of, full_of, move_of, refocus_mover, start_by, refocus_by, make_by, act_met, pick_by}
use Rattle.run_pick.specs.Inner.Pick.{look_met, pick_of}
use Rattle.run_engine.specs.Inner.Engine as engine
use Rattle.run_engine.specs.Inner.Engine.{head_at, cell_number, met_by, after, turn_by}
use Rattle.refinement.proofs.Meant.{WordsAndRoots}
use Rattle.refinement.proofs.States.{setting_of, Related}
use Rattle.refinement.proofs.Looks.{Written, Entered, BlockedBy, MeetsBy, attempt_absent}
use Rattle.refinement.proofs.Moves.{room_meant, Mover, Does, Acts, met, Ahead}
use Rattle.refinement.proofs.Acts.{looks}
use Rattle.refinement.proofs.RoomAfter.{step_moves}
use Rattle.refinement.proofs.Moved.{refocused_forked, left, deep_after, related_after}

-- ---- the answer

-- a stop with its last record
abbrev pub StoppedBy : List ℕ → machine.State → ℕ → Stop → Entry → Type 0
StoppedBy b s p stop.End x = ⊥
StoppedBy b s p stop.Race x = (y : Record) × (playing.step (table_of b) s p ≡ playing.race y) × Written p x y
StoppedBy b s p (stop.NoRoom R) x = (playing.step (table_of b) s p ≡ playing.no_room (room_meant R)) × (x.kind ≡ 0)

-- what the code answers to a pick of thread p, leaving the frames k, is what the abstract machine answers
abbrev pub AnsweredBy : List ℕ → engine.EngineState → machine.State → ℕ → PickAnswer → Stack → Type 0
AnsweredBy b m s p answer.Passed k = (playing.step (table_of b) s p ≡ playing.passed) × (k ≡ m.stack)
AnsweredBy b m s p (answer.Moved v) k =
    (u : machine.Move) × (playing.step (table_of b) s p ≡ playing.moved u) × Entered p v.entry u.entry × Related b (after m p v k) u.state
AnsweredBy b m s p (answer.Stopped e x) k = StoppedBy b s p e x

abbrev pub By : List ℕ → engine.EngineState → machine.State → ℕ → Picked → Type 0
By b m s p z = AnsweredBy b m s p z.answer z.stack

-- a pick that is passed over
passed_by : (b : List ℕ) (s : machine.State) (p : ℕ) (x : Block) (r : Ready) → BlockedBy x r (machine.attempt (table_of b) s p)
    → playing.step (table_of b) s p ≡ playing.passed
unfolding playing.step playing.answer
passed_by b s p block.Finished r h = ap (playing.answer s p) h
passed_by b s p block.Monitor r h = ap (playing.answer s p) h
passed_by b s p block.Join r h = ap (playing.answer s p) h
passed_by b s p block.Notify r h = ap (playing.answer s p) h
passed_by b s p block.Field r h = ap (playing.answer s p) h
passed_by b s p block.Thread r h = ap (playing.answer s p) h
passed_by b s p block.NotHeld r h = ap (playing.answer s p) h
passed_by b s p block.NoRule r h = absurd h

module _ {b ws rs : List ℕ} (loaded : WordsAndRoots b ws rs) {m : engine.EngineState} {s : machine.State} {p : ℕ} (mover : Mover b m s p) {v : machine.Move}
    (attempts : machine.attempt (table_of b) s p ≡ machine.moves v) where
  abbrev r : Ready
  r = (head_at m.heads p).ready

  abbrev x : Met
  x = met m p

  -- there is room before the move
  module _ (a : Acted) (D : Does mover r (cell_number r) a v) where
    abbrev L : Ended
    L = refocus_mover ws rs x a m.stack

    abbrev Y : Bool → Ended
    Y forks = refocused_forked ws rs x L forks

    abbrev forked_full : Bool
    forked_full = forks_of x.head && full_of (Y (forks_of x.head)).refocused

    answered : (d : Bool) → (full_of L.refocused || forked_full) ≡ d → playing.step (table_of b) s p ≡ playing.within_room v
        (cond d (some rooms.Room.depth) none)
    unfolding or_else
    answered d e = step_moves b s p v none _ attempts D.lacks (deep_after loaded mover a D ∙ ap (λ (d : Bool). cond d (some rooms.Room.depth) none) e)

    -- a move that has refocused
    moved : (f : Bool) → forks_of x.head ≡ f → full_of L.refocused ≡ false → (f && full_of (Y f).refocused) ≡ false
        → AnsweredBy b m s p (answer.Moved (left ws rs x a m.stack f)) (Y f).stack
    unfolding playing.within_room
    moved f e full forked =
        let none_full : forked_full ≡ false = ap (λ (f : Bool). f && full_of (Y f).refocused) e ∙ forked in (
          v,
          answered false (ap (λ (d : Bool). d || forked_full) full ∙ none_full),
          D.entered,
          along (λ (f : Bool). Related b (after m p (left ws rs x a m.stack f) (Y f).stack) v.state) e (related_after loaded mover a D full none_full),
        )

    done : By b m s p (refocus_by ws rs x a L)
    unfolding refocus_by start_by playing.within_room
    done = by (full_of L.refocused) (forks_of x.head) (full_of (Y true).refocused) refl refl refl
      where
        by : (d f y : Bool) → full_of L.refocused ≡ d → forks_of x.head ≡ f → full_of (Y true).refocused ≡ y
            → By b m s p (cond d (picked L.stack (no_room room.Depth))
            (cond f
            (cond y (picked (Y true).stack (no_room room.Depth)) (picked (Y true).stack (answer.Moved (left ws rs x a m.stack true))))
            (picked L.stack (answer.Moved (move_of x a L.refocused no_head false)))))
        by true f y ed ef ey = (answered true (ap (λ (d : Bool). d || forked_full) ed), refl)
        by false true true ed ef ey = (answered true (ap₂ (λ (d f : Bool). d || (f && full_of (Y f).refocused)) ed ef ∙ ey), refl)
        by false true false ed ef ey = moved true ef ed ey
        by false false y ed ef ey = moved false ef ed refl

  -- by the room before the move
  made : (z : Act) → Acts mover r (cell_number r) z v → By b m s p (make_by ws rs x z m.stack)
  unfolding playing.within_room or_else
  made (act.Done a) D = done a D
  made (act.NoRoom R) lack = (step_moves b s p v (some (room_meant R)) _ attempts lack refl, refl)

-- ---- a pick

module _ (b ws rs : List ℕ) (ok : refusal b ≡ none) (loaded : WordsAndRoots b ws rs) (m : engine.EngineState) (s : machine.State) (rel : Related b m s)
    (reach : Reached (table_of b) (program_of b) s) (p : ℕ) (small : p < 8) where
  -- of a thread that is there
  met_by_lem : (w : Sight) → MeetsBy w p (head_at m.heads p).ready (machine.attempt (table_of b) s p) (Ahead b m s p)
      → By b m s p (pick_by ws rs (setting_of b) (met m p) w m.stack)
  unfolding playing.step playing.answer
  met_by_lem sight.Ready h = made loaded h.2.mover h.1 (act_met (setting_of b) (met m p)) h.2.acts
  met_by_lem sight.Lacking h = (h.0, ap (playing.answer s p) h.1, h.4)
  met_by_lem (sight.Blocked x) h = (passed_by b s p x (head_at m.heads p).ready h, refl)

  -- THE CODE'S ANSWER TO A PICK IS THE ABSTRACT MACHINE'S
  pub picks : By b m s p (turn_by ws rs (setting_of b) m p)
  unfolding turn_by met_by pick_of playing.step playing.answer
  picks = by (leb m.tally.counts.threads p) refl
    where
      by : (z : Bool) → leb m.tally.counts.threads p ≡ z
          → By b m s p (cond z (picked m.stack answer.Passed) (pick_by ws rs (setting_of b) (met m p) (look_met (setting_of b) (met m p)) m.stack))
      by true e = (
        ap (playing.answer s p)
            (attempt_absent (table_of b) s p (let h = leb-true m.tally.counts.threads p e in let y = rel.kept.threads_count in omega arith)),
        refl,
      )
      by false e = met_by_lem (look_met (setting_of b) (met m p)) (looks b ok m s rel reach p small (leb-false m.tally.counts.threads p e))
