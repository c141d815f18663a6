-- The steps of a pick on the engine's state: how it begins, and what it comes to. Assumes nothing.
use mathlib.Core.Path.{◌≡◌, refl, sym, ap, ◌∙◌}
use mathlib.Core.Bool.{true, false}
use mathlib.Core.List.{List, [], ◌∷◌}
use Prim.Native.Nat.{ℕ, ◌+◌, ◌%◌, ◌≤◌}
use native.Mathlib.Omega.{arith}
use lib.ListN.{get_or}
use types.Run.{OneOf, miss}
use denote.Enum.Declared.{tag_of}
use Rattle.run_frames.specs.declared.refocusing.Ready.{Ready}
use Rattle.run_refocusing.specs.declared.Refocused.{Refocused}
use Rattle.run_refocusing.specs.Inner.Refocusing.{Ends}
use Rattle.run_outcome.specs.declared.NoRoom.TheVariants as room
use Rattle.run_outcome.specs.declared.Stop.{Stop}
use Rattle.run_state.specs.declared.Setting.{Setting}
use Rattle.run_state.specs.declared.Head.{Head}
use Rattle.run_state.specs.declared.Cell.{Cell}
use Rattle.run_state.specs.declared.Counts.{Counts}
use Rattle.run_state.specs.declared.Entry.{Entry}
use Rattle.run_state.specs.declared.acted.Acted.{Acted}
use Rattle.run_state.specs.Inner.Acted.{no_entry, nothing}
use Rattle.run_act.specs.Inner.Act.{goes_on_by, act_pure}
use Rattle.run_pick.specs.contracts.Begun as begun-type
use Rattle.run_pick.specs.declared.Met.{Met}
use Rattle.run_pick.specs.declared.Begun.{Begun}
use Rattle.run_pick.specs.declared.Begun.TheVariants as begun
use Rattle.run_pick.specs.Inner.Answer.{Move, PickAnswer as answer}
use Rattle.run_pick.specs.Inner.Pick.{picked, no_room, full_of, refocused_head, no_head, forks_of, begin_of, go_of, refocusings_from}
use Rattle.run_pick.proofs.GoesOn.{no_signal}
use Rattle.run_pick.proofs.Steps as steps
use Rattle.run_queue.specs.Inner.Queue.{after_of}
use Rattle.run_engine.specs.Inner.Engine.{EngineState, no_cell, head_at, cell_number, met_by, picked_by}

-- what a move of thread h leaves that does a and refocuses at l, with y the thread that it makes
abbrev pub left_by : Head → Acted → Refocused → Head → Move
left_by h a l y =
    record {
      mover = refocused_head l h.object a.keys (h.learnt % 256 + a.new);
      forked = y;
      cell = a.cell;
      object = a.object;
      counts = a.counts;
      entry = a.entry;
      forks = forks_of h;
    }

-- of one that only goes on elsewhere, whose cell is c
abbrev pub gone_by : Counts → Head → Cell → Refocused → Move
gone_by n h c l =
    record {
      mover = refocused_head l h.object h.keys (h.learnt % 256);
      forked = no_head;
      cell = c;
      object = nothing;
      counts = n;
      entry = no_entry;
      forks = false;
    }

-- a pick that neither moves nor stops
pub neither : (z : Begun) → OneOf (0 ∷ 1 ∷ []) (tag_of begun-type.the_type z) → OneOf (0 ∷ 2 ∷ 3 ∷ []) (tag_of begun-type.the_type z) → z ≡ begun.Passed
neither begun.Passed h k = refl
neither (begun.Stopped e y) h k = absurd (miss (0 ∷ 2 ∷ 3 ∷ []) 1 tt k)
neither (begun.Went g) h k = absurd (miss (0 ∷ 1 ∷ []) 2 tt h)
neither (begun.Acted a) h k = absurd (miss (0 ∷ 1 ∷ []) 3 tt h)

-- only a signal changes the queues
pub queues_left : (qs : List ℕ) (r : Ready) (p : ℕ) → goes_on_by r.redex ≡ true → qs ≡ after_of qs r p
unfolding after_of
queues_left qs r p e = rw (no_signal r.redex e)

module _ (ws rs : List ℕ) (g : Setting) (m : EngineState) (p : ℕ) where
  abbrev x : Met
  x = met_by m.tally.counts m.heads m.cells m.objects m.places p

  abbrev h : Head
  h = head_at m.heads p

  -- a move that only goes on elsewhere
  pub begins_on : {b : Begun} → goes_on_by (head_at m.heads p).ready.redex ≡ true → b ≡ begun.Went (act_pure (head_at m.heads p)) → b ≡ begin_of g x
  unfolding begin_of met_by
  begins_on {b} e q = q ∙ rw e

  module _ (b : Begun) (begins : b ≡ begin_of g (met_by m.tally.counts m.heads m.cells m.objects m.places p)) where
    pub passes : b ≡ begun.Passed → picked m.stack answer.Passed ≡ picked_by ws rs g m p
    passes z = steps.passes ws rs g x m.stack b begins z

    pub stops : {s : Stop} {y : Entry} → b ≡ begun.Stopped s y → picked m.stack (answer.Stopped s y) ≡ picked_by ws rs g m p
    stops z = steps.stops ws rs g x m.stack b begins z

    module _ {e : Ends} (refocuses : e ≡ refocusings_from ws rs m.tally.counts (head_at m.heads p) p (go_of b) m.stack) where
      pub full : OneOf (2 ∷ 3 ∷ []) (tag_of begun-type.the_type b) → full_of e.refocusings.last ≡ true
          → picked e.stack (no_room room.Depth) ≡ picked_by ws rs g m p
      unfolding met_by
      full o f = steps.full ws rs g x m.stack b begins refocuses o f

      module _ (room : full_of e.refocusings.last ≡ false) where
        module _ {a : Acted} (acts : b ≡ begun.Acted a) where
          pub moves : forks_of (head_at m.heads p) ≡ false
              → picked e.stack (answer.Moved (left_by (head_at m.heads p) a e.refocusings.last no_head)) ≡ picked_by ws rs g m p
          unfolding met_by
          moves n = rw n (steps.moves ws rs g x m.stack b begins refocuses room acts n)

          pub forks : forks_of (head_at m.heads p) ≡ true
              → picked e.stack (answer.Moved (left_by (head_at m.heads p) a e.refocusings.before
              (refocused_head e.refocusings.last m.tally.counts.objects (head_at m.heads p).keys 0)))
              ≡ picked_by ws rs g m p
          unfolding met_by
          forks n = rw n (steps.forks ws rs g x m.stack b begins refocuses room acts n)

        module _ (mover : OneOf (2 ∷ 3 ∷ []) (tag_of begun-type.the_type b)) (other : OneOf (0 ∷ 1 ∷ 2 ∷ []) (tag_of begun-type.the_type b)) where
          pub on : goes_on_by (head_at m.heads p).ready.redex ≡ true
          unfolding met_by
          on = steps.on ws rs g x m.stack b begins refocuses room mover other

          pub goes_on_lem : picked e.stack (answer.Moved (gone_by m.tally.counts (head_at m.heads p)
              (get_or m.cells (cell_number (head_at m.heads p).ready) no_cell) e.refocusings.last)) ≡ picked_by ws rs g m p
          unfolding met_by
          goes_on_lem =
              let l : h.learnt % 256 ≡ h.learnt % 256 + 0 = omega arith in
              ap (λ (n : ℕ). picked e.stack (answer.Moved (record {
                mover = refocused_head e.refocusings.last h.object h.keys n;
                forked = no_head;
                cell = get_or m.cells (cell_number h.ready) no_cell;
                object = nothing;
                counts = m.tally.counts;
                entry = no_entry;
                forks = false;
              }))) l
              ∙ steps.goes_on_lem ws rs g x m.stack b begins refocuses room mover other
