-- `explore` meets its contract: what its invariants say holds at first, after each turn and at the end. Assumes nothing.
use mathlib.Core.Path.{◌≡◌, refl, sym, ap, ◌∙◌, subst as along}
use mathlib.Core.Bool.{Bool, true, false, ◌&&◌}
use mathlib.Core.List.{List, [], ◌∷◌, ◌++◌, map, append-nil, append_assoc}
use mathlib.Core.Logic.{⊎_elim}
use Prim.Native.Nat.{ℕ, ◌≤◌, ◌<◌, ◌+◌, ◌-◌, ◌%◌, min}
use native.Mathlib.Decide.{dec_lt}
use native.Mathlib.Numerals.{add-one}
use native.Mathlib.Omega.{arith}
use lib.Dec.{ltb}
use lib.ListN.{length, get_or, set, take, drop, length-set, take-append-drop, replicate}
use lib.Seq.{length-take-le, take-suc, take-take, set-get_or}
use borrow.Author.Tests.{le-ltb, ltb-false, eq-eqb, ne_eqb}
use Rattle.format.proofs.Turns.{turns, one_turn, no_turn}
use Rattle.run_outcome.specs.declared.NoRoom.TheVariants as room
use Rattle.run_outcome.specs.declared.Stop.{Stop}
use Rattle.run_outcome.specs.declared.Thread.{Thread}
use Rattle.run_outcome.specs.declared.Outcome.{Outcome}
use Rattle.run_state.specs.declared.Setting.{Setting}
use Rattle.run_state.specs.declared.Head.{Head}
use Rattle.run_state.specs.declared.Cell.{Cell}
use Rattle.run_state.specs.declared.Entry.{Entry}
use Rattle.run_state.specs.declared.acted.Acted.{Acted}
use Rattle.run_state.specs.Inner.Acted.{no_entry}
use Rattle.run_frames.specs.declared.refocusing.Refocusing.{Refocusing}
use Rattle.run_refocusing.specs.Inner.Refocusing.{Stack, Ends}
use Rattle.run_lists.specs.Inner.Lists.{Right}
use Rattle.run_act.specs.Inner.Act.{goes_on_by, changes_by}
use Rattle.run_tally.specs.declared.Tally.{Tally}
use Rattle.run_tally.specs.declared.Ran.{Ran}
use Rattle.run_tally.specs.Inner.Tally.{shown_entry, records_after, tally_put, log_put}
use types.Run.{OneOf}
use denote.Enum.Declared.{tag_of}
use Rattle.run_pick.specs.contracts.Begun as begun-type
use Rattle.run_pick.specs.declared.Begun.{Begun}
use Rattle.run_pick.specs.declared.Begun.TheVariants as how
use Rattle.run_pick.specs.Inner.Answer.{Move, PickAnswer as answer}
use Rattle.run_pick.specs.Inner.Pick.{Picked, picked, no_room, full_of, refocused_head, no_head, forks_of, begin_of, go_of, refocusings_from}
use Rattle.run_engine.specs.declared.kept.Kept.{Kept}
use Rattle.run_engine.specs.Inner.Kept.{restore_of}
use Rattle.run_engine.specs.Inner.Engine.{no_cell, EngineState, Played, head_at, cell_number, met_by, thread_by, threads_of, end_of, picked_by, start_of}
use Rattle.run_engine.specs.Inner.Engine.{play_of, CountedBefore}
use Rattle.run_open_threads.specs.Inner.Open.{open_at, unstopped, open_after, LowestFrom}
use Rattle.run_engine.specs.Inner.Exploring.{all_picks, pick_at}
use Rattle.run_engine.proofs.Looks.{met, put_thread, absent_at, all_threads_lem, eight_threads}
use Rattle.run_engine.proofs.Plays.{begins, absent_passed, passed, moved, stops, heads_forked, heads_alone, object_put, ends_as}
use Rattle.run_engine.proofs.Begins as steps
use Rattle.run_engine.proofs.Begins.{left_by, gone_by, neither, queues_left, begins_on}
use Rattle.run_engine.proofs.PassedOver.{none_marked, marked_too, passed_again}
use Rattle.run_engine.proofs.Restored.{engine_of, all_restored, restored_at, cell_put, cell_left}
use Rattle.run_engine.proofs.MovedCell.{cell_unchanged}
use Rattle.run_open_threads.proofs.Lowest.{lowest_ext}
use Rattle.run_engine.proofs.AllPicks.{kept_before}
use Rattle.run_engine.proofs.FirstLists.{first_lists}
use Rattle.run_engine.proofs.Standing as standing
use Rattle.run_engine.proofs.Standing.{Standing, in_list, standing_as}
use Rattle.run_engine.proofs.Rounds.{Round, first_round, next_round}
use Rattle.run_engine.proofs.Halts.{stop_halts, shut_after}
use borrow.Enum.Refused.{opened}
use Rattle.run_engine.proofs.explore.Goals as goal
use Rattle.run_engine.proofs.explore.Lts as lts
use Rattle.run_engine.proofs.explore.Lts.View as view
use Rattle.run_engine.proofs.explore.Reads as reads
use Rattle.run_engine.proofs.explore.Tie as tie
use Rattle.run_engine.proofs.explore.Goals.{After-loop-thread, After-note, After-pick_at-thread, After-refocus-refocusings, At-loop-i, At-loop-to}
use Rattle.run_engine.proofs.explore.Goals.{In-loop-i, Joined-goes_on, Left-loop-i, Then-lowest-eq8}

abbrev words : At-loop-to → List ℕ
words c = c.args.words.now

abbrev roots : At-loop-to → List ℕ
roots c = c.args.roots.now

abbrev setting : At-loop-to → Setting
setting c = c.args.setting

abbrev every : At-loop-to → Bool
every c = c.args.every

abbrev first : At-loop-to → List ℕ
first c = c.args.log.now

abbrev picks : At-loop-to → List ℕ
picks c = c.args.picks.now

-- the picks as far as they are known
abbrev list : At-loop-to → List ℕ
list c = all_picks (picks c) c.loop-to.notes

-- how many there are when the round is over
abbrev end : At-loop-to → ℕ
end c = c.loop-to.to

round : (c : At-loop-to) → Round (words c) (roots c) (setting c) (every c) (first c) (picks c) c.args.notes.now c.loop-to.notes c.loop-to.lowest
    c.loop-to.from (end c)
round c = c.loop-to.invariant.1

-- the run of these picks from the start
abbrev played : At-loop-to → List ℕ → Played
played c = standing.played (words c) (roots c) (setting c) (every c) (first c)

-- the run of the round's picks and of all before
abbrev whole : At-loop-to → Played
whole c = played c (take (end c) (list c))

-- the round that a turn is of
abbrev there : At-loop-i → At-loop-to
there c = (goal.at.At-loop-i c).At-loop-to

-- the turn that a pick is drawn in
abbrev turn : After-pick_at-thread → At-loop-i
turn c = (goal.at.After-pick_at-thread c).At-loop-i

abbrev within : After-pick_at-thread → At-loop-to
within c = there (turn c)

-- the pick that has begun, its turn and its round
abbrev asked : Joined-goes_on → After-pick_at-thread
asked c = (goal.at.Joined-goes_on c).After-pick_at-thread

abbrev stand : Joined-goes_on → At-loop-i
stand c = (goal.at.Joined-goes_on c).At-loop-i

abbrev around : Joined-goes_on → At-loop-to
around c = there (stand c)

-- the pick that is refocused
abbrev since : After-refocus-refocusings → Joined-goes_on
since c = (goal.at.After-refocus-refocusings c).Joined-goes_on

-- the turn that a round is left at, and the round
abbrev held : Left-loop-i → At-loop-i
held c = (goal.at.Left-loop-i c).At-loop-i

abbrev closed : Left-loop-i → At-loop-to
closed c = there (held c)

-- where a thread is seen: the engine's state where the round ended
abbrev left : After-loop-thread → Left-loop-i
left c = (goal.at.After-loop-thread c).Left-loop-i

-- the look at all threads, before the note and before the end
abbrev over : After-note → After-loop-thread
over c = (goal.at.After-note c).After-loop-thread

abbrev done : After-note → At-loop-to
done c = closed (left (over c))

abbrev last : Then-lowest-eq8 → After-loop-thread
last c = (goal.at.Then-lowest-eq8 c).After-loop-thread

-- the cells, restored
abbrev cells : At-loop-i → List Cell
cells c = map restore_of c.loop-i.cells

abbrev engine : At-loop-i → EngineState
engine c =
    engine_of c.loop-i.heads c.loop-i.cells c.loop-i.objects c.loop-i.places c.loop-i.stack (every (there c)) c.loop-i.tally c.loop-i.log

-- the run stands at a place, by a log that it began with
abbrev At : At-loop-i → List ℕ → Type 0
At c log =
    Standing (words (there c)) (roots (there c)) (setting (there c)) (every (there c)) log (list (there c)) c.loop-i.i c.loop-i.log c.loop-i.heads
    c.loop-i.cells c.loop-i.objects c.loop-i.places c.loop-i.stack c.loop-i.passed c.loop-i.tally c.loop-i.stop-1 c.loop-i.moves_before
    c.loop-i.records_before

here : (c : At-loop-i) → At c (first (there c))
here c = c.loop-i.invariant.3 (first (there c)) c.loop-to.invariant.0

-- there is such a pick, and it is one of few
started : (c : In-loop-i) → (c.loop-i.i < end (goal.at.In-loop-i c).At-loop-to) × (c.loop-i.i < 4096)
started c = let h = c.loop-i-test.true in (h, omega (arith, h, (round (goal.at.In-loop-i c).At-loop-to).few))

-- the pick that is drawn
abbrev pick : After-pick_at-thread → ℕ
pick c = c.pick_at-thread.result

-- it is the list's
drawn : (c : After-pick_at-thread) → get_or (list (within c)) c.loop-i.i 0 ≡ pick c
drawn c = (round (within c)).stretch c.loop-i.i c.loop-i.invariant.0 c.loop-i-test.true ∙ sym c.pick_at-thread.ensures

abbrev run : (c : After-pick_at-thread) (log : List ℕ) (v : At (turn c) log) → List ℕ → Played
run c log v = standing.played (words (within c)) (roots (within c)) (setting (within c)) (every (within c)) log

-- this pick and others are met after those before it
next : (c : After-pick_at-thread) (log : List ℕ) (v : At (turn c) log) (qs : List ℕ)
    → play_of (words (within c)) (roots (within c)) (setting (within c)) (engine (turn c)) (pick c ∷ qs) c.loop-i.i
    ≡ run c log v (take (c.loop-i.i + 1) (list (within c)) ++ qs)
next c log v qs =
    let h = (started (goal.at.After-pick_at-thread c).In-loop-i).0 in
    let d : c.loop-i.i < length (list (within c)) = omega (arith, h, (round (within c)).listed) in
    let e : take c.loop-i.i (list (within c)) ++ (pick c ∷ qs) ≡ take (c.loop-i.i + 1) (list (within c)) ++ qs =
    ap (λ (p : ℕ). take c.loop-i.i (list (within c)) ++ (p ∷ qs)) (sym (drawn c))
    ∙ rw (add-one, take-suc (list (within c)) c.loop-i.i 0 d, append_assoc) in
    v.goes (pick c ∷ qs) ∙ ap (run c log v) e

-- the counts where the turn begins are those of the picks before
before : (c : After-pick_at-thread) (log : List ℕ) (v : At (turn c) log) (k : ℕ) → k ≡ c.loop-i.i
    → play_of (words (within c)) (roots (within c)) (setting (within c)) (engine (turn c)) [] c.loop-i.i ≡ run c log v (take k (list (within c)))
before c log v k h =
    v.goes [] ∙ ap (run c log v) (append-nil (take c.loop-i.i (list (within c))) ∙ ap (λ (n : ℕ). take n (list (within c))) (sym h))

moves_before : (c : After-pick_at-thread) (log : List ℕ) (v : At (turn c) log) (k : ℕ) → k ≡ c.loop-i.i
    → c.loop-i.tally.moves ≡ (run c log v (take k (list (within c)))).outcome.moves
unfolding play_of
moves_before c log v k h = ap (λ (x : Played). x.outcome.moves) (before c log v k h)

records_before : (c : After-pick_at-thread) (log : List ℕ) (v : At (turn c) log) (k : ℕ) → k ≡ c.loop-i.i
    → c.loop-i.tally.records ≡ (run c log v (take k (list (within c)))).outcome.records
unfolding play_of
records_before c log v k h = ap (λ (x : Played). x.outcome.records) (before c log v k h)

pub loop-to-init : goal.loop-to-init
loop-to-init c =
    let a = c.args in
    let h = c.requires in (
      record {
        few_moves = rw c.first-tally.ensures (omega arith);
        few_records = rw c.first-tally.ensures (omega arith);
        kept = refl;
        goes = λ qs. begins a.words.now a.roots.now a.setting a.every qs a.log.now _ _ _ _ _
            c.no_head-heads.ensures c.first_head.ensures
            (all_restored 1024 c.zeros-cells.result
            ∙ ap (λ (x : Kept). replicate 1024 (restore_of x)) c.zeros-cells.ensures)
            c.first_object-objects.ensures c.first-tally.ensures;
        unstopped = refl;
        eight = refl;
        moves = unfold play_of start_of in refl;
        records = unfold play_of start_of in refl;
        marked = none_marked a.words.now a.roots.now a.setting _;
      },
      first_round a.words.now a.roots.now a.setting a.every a.log.now a.picks.now a.notes.now 0 _ h c.unseen-to.ensures,
      refl,
      first_lists a.words.now,
    )

pub loop-i-init : goal.loop-i-init
loop-i-init c = (omega arith, (round c).ordered, refl, λ first s. s, c.loop-to.invariant.3)

-- ---- the pick of a thread that is not there

pub loop-i-preserved-then-counts-thread : goal.loop-i-preserved-then-counts-thread
loop-i-preserved-then-counts-thread c =
    let r = (goal.at.loop-i-preserved-then-counts-thread c).At-loop-to in
    let d = (goal.at.loop-i-preserved-then-counts-thread c).After-pick_at-thread in
    let i = c.loop-i.invariant in
    let t = (started (goal.at.loop-i-preserved-then-counts-thread c).In-loop-i).0 in (
      omega (arith, i.0),
      omega (arith, t),
      i.2,
      λ first s. let v = i.3 first s in
          record {
            few_moves = omega (arith, v.few_moves);
            few_records = omega (arith, v.few_records);
            kept = v.kept;
            goes = λ qs.
                absent_passed (words r) (roots r) (setting r) (engine (turn d)) (pick d) qs c.loop-i.i c.if-counts-thread.true ∙ next d first v qs;
            unstopped = v.unstopped;
            eight = v.eight;
            moves = moves_before d first v (c.loop-i.i + 1 - 1) (omega arith);
            records = records_before d first v (c.loop-i.i + 1 - 1) (omega arith);
            marked = v.marked;
          },
      i.4,
    )

-- ---- the pick of one that was passed over since the last move

pub loop-i-preserved-then-passed-thread : goal.loop-i-preserved-then-passed-thread
loop-i-preserved-then-passed-thread c =
    let r = (goal.at.loop-i-preserved-then-passed-thread c).At-loop-to in
    let d = (goal.at.loop-i-preserved-then-passed-thread c).After-pick_at-thread in
    let i = c.loop-i.invariant in
    let t = (started (goal.at.loop-i-preserved-then-passed-thread c).In-loop-i).0 in (
      omega (arith, i.0),
      omega (arith, t),
      i.2,
      λ first s. let v = i.3 first s in
          record {
            few_moves = omega (arith, v.few_moves);
            few_records = omega (arith, v.few_records);
            kept = v.kept;
            goes = λ qs.
                passed_again (words r) (roots r) (setting r) (engine (turn d)) (pick d) qs c.loop-i.i
                (v.marked (pick d % 8) c.if-passed-thread.true) ∙ next d first v qs;
            unstopped = v.unstopped;
            eight = v.eight;
            moves = moves_before d first v (c.loop-i.i + 1 - 1) (omega arith);
            records = records_before d first v (c.loop-i.i + 1 - 1) (omega arith);
            marked = v.marked;
          },
      i.4,
    )

-- whose it is
abbrev mover : Joined-goes_on → ℕ
mover c = pick (asked c) % 8

abbrev head : Joined-goes_on → Head
head c = head_at c.loop-i.heads (pick (asked c) % 8)

abbrev begun_so : Joined-goes_on → Begun
begun_so c = c.if-goes_on.begun

-- whether it only goes on elsewhere
goes_on_lem : (c : Joined-goes_on) {t : Bool} → c.goes_on.result ≡ t → goes_on_by (head c).ready.redex ≡ t
goes_on_lem c e = sym c.goes_on.ensures ∙ e

begins_so : (c : Joined-goes_on)
    → begun_so c ≡ begin_of (setting (around c)) (met_by (engine (stand c)).tally.counts (engine (stand c)).heads (engine (stand c)).cells
    (engine (stand c)).objects (engine (stand c)).places (mover c))
begins_so c =
    let l = stand c in
    let r = around c in
    ⊎_elim (λ w. w.begun-is ∙ begins_on (words r) (roots r) (setting r) (engine l) (mover c) (goes_on_lem c w.if-goes_on.true) w.went-begun.ensures)
    (λ w. w.begun-is ∙ w.begin-begun.ensures
    ∙ ap (begin_of (setting r)) (met c.loop-i.tally.counts c.loop-i.heads (cells l) c.loop-i.objects c.loop-i.places (mover c)
    w.cell_of-number.result _ w.cell_of-number.ensures (w.restore-cell.ensures ∙ restored_at c.loop-i.cells w.cell_of-number.result)))
    c.if-goes_on.branch-raw

-- its thread is there
present : (c : Joined-goes_on) → pick (asked c) % 8 < c.loop-i.tally.counts.threads
present c = c.if-counts-thread.false

begun : (c : Joined-goes_on) → c.loop-i.i < end (around c)
begun c = (started (goal.at.Joined-goes_on c).In-loop-i).0

few : (c : Joined-goes_on) → c.loop-i.i < 4096
few c = (started (goal.at.Joined-goes_on c).In-loop-i).1

-- the engine's answer to it
abbrev answered : Joined-goes_on → Picked
answered c = picked_by (words (around c)) (roots (around c)) (setting (around c)) (engine (stand c)) (mover c)

-- ---- a pick that is passed over

passed_over : (c : Joined-goes_on) → begun_so c ≡ how.Passed → picked c.loop-i.stack answer.Passed ≡ answered c
passed_over c z =
    let r = around c in steps.passes (words r) (roots r) (setting r) (engine (stand c)) (mover c) (begun_so c) (begins_so c) z

pub loop-i-preserved-in_default-begun : goal.loop-i-preserved-in_default-begun
loop-i-preserved-in_default-begun c =
    let r = (goal.at.loop-i-preserved-in_default-begun c).At-loop-to in
    let l = (goal.at.loop-i-preserved-in_default-begun c).At-loop-i in
    let d = (goal.at.loop-i-preserved-in_default-begun c).After-pick_at-thread in
    let x = (goal.at.loop-i-preserved-in_default-begun c).Joined-goes_on in
    let i = c.loop-i.invariant in
    let t = begun x in
    let z = passed_over x (neither (begun_so x) c.in_default.in_default-own.keys2 (opened c.in_default-begun.in_default-begun-own.keys2)) in (
      omega (arith, i.0),
      omega (arith, t),
      i.2,
      λ first s. let v = i.3 first s in
          record {
            few_moves = omega (arith, v.few_moves);
            few_records = omega (arith, v.few_records);
            kept = v.kept;
            goes = λ qs.
                passed (words r) (roots r) (setting r) (engine l) (pick d) qs c.loop-i.i (picked c.loop-i.stack answer.Passed) (present x) z refl
                ∙ next d first v qs;
            unstopped = v.unstopped;
            eight = v.eight;
            moves = moves_before d first v (c.loop-i.i + 1 - 1) (omega arith);
            records = records_before d first v (c.loop-i.i + 1 - 1) (omega arith);
            marked = marked_too (words r) (roots r) (setting r) (engine l) c.loop-i.passed (pick d % 8) (picked c.loop-i.stack answer.Passed)
                (present x) z refl v.marked;
          },
      i.4,
    )

-- ---- a pick that stops as it begins

stops_so : (c : Joined-goes_on) {e : Stop} {y : Entry} → begun_so c ≡ how.Stopped e y → picked c.loop-i.stack (answer.Stopped e y) ≡ answered c
stops_so c z = let r = around c in steps.stops (words r) (roots r) (setting r) (engine (stand c)) (mover c) (begun_so c) (begins_so c) z

-- ---- the refocusings of a move

abbrev ends : After-refocus-refocusings → Ends
ends c = record { stack = c.refocus-refocusings.new.stack; refocusings = c.refocus-refocusings.result }

refocuses : (c : After-refocus-refocusings) → ends c
    ≡ refocusings_from (words (around (since c))) (roots (around (since c))) c.loop-i.tally.counts (head (since c)) (mover (since c))
    (go_of (begun_so (since c))) c.loop-i.stack
refocuses c =
    let r = around (since c) in
    c.refocus-refocusings.ensures.result_value
    ∙ ap (λ (g : Refocusing). refocusings_from (words r) (roots r) c.loop-i.tally.counts (head (since c)) (mover (since c)) g c.loop-i.stack)
    c.go_of-go.ensures

-- it is a move
moving : (c : After-refocus-refocusings) → OneOf (2 ∷ 3 ∷ []) (tag_of begun-type.the_type (begun_so (since c)))
moving c = c.in-Went.in-Went-own.keys1

-- without room
full_so : (c : After-refocus-refocusings) → full_of c.refocus-refocusings.result.last ≡ true
    → picked (ends c).stack (no_room room.Depth) ≡ answered (since c)
full_so c f =
    let x = since c in
    let r = around x in
    steps.full (words r) (roots r) (setting r) (engine (stand x)) (mover x) (begun_so x) (begins_so x) (refocuses c) (moving c) f

-- with room: a move that only goes on elsewhere
on : (c : After-refocus-refocusings) → full_of c.refocus-refocusings.result.last ≡ false
    → OneOf (0 ∷ 1 ∷ 2 ∷ []) (tag_of begun-type.the_type (begun_so (since c))) → goes_on_by (head (since c)).ready.redex ≡ true
on c roomy other =
    let x = since c in
    let r = around x in
    steps.on (words r) (roots r) (setting r) (engine (stand x)) (mover x) (begun_so x) (begins_so x) (refocuses c) roomy (moving c) other

gone_on_lem : (c : After-refocus-refocusings) → full_of c.refocus-refocusings.result.last ≡ false
    → OneOf (0 ∷ 1 ∷ 2 ∷ []) (tag_of begun-type.the_type (begun_so (since c)))
    → picked (ends c).stack (answer.Moved (gone_by c.loop-i.tally.counts (head (since c))
    (get_or (cells (stand (since c))) (cell_number (head (since c)).ready) no_cell) c.refocus-refocusings.result.last))
    ≡ answered (since c)
gone_on_lem c roomy other =
    let x = since c in
    let r = around x in
    steps.goes_on_lem (words r) (roots r) (setting r) (engine (stand x)) (mover x) (begun_so x) (begins_so x) (refocuses c) roomy (moving c) other

-- another: a fork; or not
forked : (c : After-refocus-refocusings) → full_of c.refocus-refocusings.result.last ≡ false → {a : Acted} → begun_so (since c) ≡ how.Acted a
    → forks_of (head (since c)) ≡ true
    → picked (ends c).stack (answer.Moved (left_by (head (since c)) a c.refocus-refocusings.result.before
    (refocused_head c.refocus-refocusings.result.last c.loop-i.tally.counts.objects (head (since c)).keys 0)))
    ≡ answered (since c)
forked c roomy acts n =
    let x = since c in
    let r = around x in
    steps.forks (words r) (roots r) (setting r) (engine (stand x)) (mover x) (begun_so x) (begins_so x) (refocuses c) roomy acts n

alone : (c : After-refocus-refocusings) → full_of c.refocus-refocusings.result.last ≡ false → {a : Acted} → begun_so (since c) ≡ how.Acted a
    → forks_of (head (since c)) ≡ false
    → picked (ends c).stack (answer.Moved (left_by (head (since c)) a c.refocus-refocusings.result.last no_head)) ≡ answered (since c)
alone c roomy acts n =
    let x = since c in
    let r = around x in
    steps.moves (words r) (roots r) (setting r) (engine (stand x)) (mover x) (begun_so x) (begins_so x) (refocuses c) roomy acts n

-- ---- a pick of a move that only goes on elsewhere

pub moved-tally-requires : goal.moved-tally-requires
moved-tally-requires c =
    let x = (goal.at.moved-tally-requires c).Joined-goes_on in
    let e : c.put_move-tally.result.moves ≡ c.loop-i.tally.moves = ap (λ (s : Tally). s.moves) c.put_move-tally.ensures.value.0 in
    omega (arith, e, (here (stand x)).few_moves, few x)

pub loop-i-preserved-in_default-begun-2 : goal.loop-i-preserved-in_default-begun-2
loop-i-preserved-in_default-begun-2 c =
    let r = (goal.at.loop-i-preserved-in_default-begun-2 c).At-loop-to in
    let l = (goal.at.loop-i-preserved-in_default-begun-2 c).At-loop-i in
    let d = (goal.at.loop-i-preserved-in_default-begun-2 c).After-pick_at-thread in
    let x = (goal.at.loop-i-preserved-in_default-begun-2 c).Joined-goes_on in
    let f = (goal.at.loop-i-preserved-in_default-begun-2 c).After-refocus-refocusings in
    let i = c.loop-i.invariant in
    let t = begun x in
    let put = c.put_move-tally in
    let none = c.no_entry-none.ensures in
    let other = opened c.in_default-begun-2.in_default-begun-2-own.keys2 in
    let roomy : full_of c.refocus-refocusings.result.last ≡ false = sym c.full.ensures ∙ c.if-full.false in
    let before : put.result.moves ≡ c.loop-i.tally.moves = ap (λ (s : Tally). s.moves) put.ensures.value.0 in
    let moves : c.moved-tally.result.moves ≡ put.result.moves + 1 = ap (λ (s : Tally). s.moves) c.moved-tally.ensures.0 in
    let records : c.moved-tally.result.records ≡ put.result.records = ap (λ (s : Tally). s.records) c.moved-tally.ensures.0 in (
      omega (arith, i.0),
      omega (arith, t),
      i.2,
      λ first s. let v = i.3 first s in
          record {
            few_moves = omega (arith, before, moves, v.few_moves);
            few_records = omega (arith, records, put.ensures.value.1, v.few_records);
            kept = put.auto.log ∙ v.kept;
            goes = λ qs.
                moved (words r) (roots r) (setting r) (engine l) (pick d) qs c.loop-i.i
                _ (present x) (gone_on_lem f roomy other) refl
                (cells l) _ _ c.loop-i.places put.result c.moved-tally.result put.new.log
                (sym (set-get_or (cells l) (cell_number (head x).ready) no_cell)) (ap (set c.loop-i.heads (mover x)) c.gone.ensures)
                (object_put c.loop-i.objects _ _ _ c.remainder.ensures
                ∙ ap (set c.loop-i.objects (c.loop-i.tally.counts.objects % 33)) c.no_object.ensures)
                (queues_left c.loop-i.places (head x).ready (mover x) (on f roomy other))
                (put.ensures.value.0 ∙ ap (λ (y : Entry). tally_put c.loop-i.tally (shown_entry (every r) y)) none) c.moved-tally.ensures.0
                (put.ensures.log_after ∙ ap (λ (y : Entry). log_put c.loop-i.log c.loop-i.tally.records (mover x) (shown_entry (every r) y)) none)
                ∙ next d first v qs;
            unstopped = v.unstopped;
            eight = v.eight;
            moves = moves_before d first v (c.loop-i.i + 1 - 1) (omega arith);
            records = records_before d first v (c.loop-i.i + 1 - 1) (omega arith);
            marked = none_marked (words r) (roots r) (setting r) _;
          },
      c.refocus-refocusings.ensures.right,
    )

-- ---- a pick of another move, or one that stops the run

pub slice_bounds-after-end : goal.slice_bounds-after-end
slice_bounds-after-end c = sym (here (goal.at.slice_bounds-after-end c).At-loop-i).eight

pub after-requires : goal.after-requires
after-requires c = ((here (goal.at.after-requires c).At-loop-i).eight, omega arith)

pub moved-tally-requires-in-loop-i : goal.moved-tally-requires-in-loop-i
moved-tally-requires-in-loop-i c =
    let x = (goal.at.moved-tally-requires-in-loop-i c).Joined-goes_on in
    let put = c.put_move-tally-in-loop-i in
    let e : put.result.moves ≡ c.loop-i.tally.moves = ap (λ (s : Tally). s.moves) put.ensures.value.0 in
    omega (arith, e, (here (stand x)).few_moves, few x)

-- its cell, where its redex changes none
unchanged : (c : Joined-goes_on) {v : Move} → (z : Picked) → z.answer ≡ answer.Moved v → z ≡ answered c → changes_by (head c).ready.redex ≡ false
    → v.cell ≡ get_or (cells (stand c)) (cell_number (head c).ready) no_cell
unchanged c {v} z e q h =
    let r = around c in
    cell_unchanged (words r) (roots r) (setting r) v (engine (stand c)) (mover c) h (ap (λ (y : Picked). y.answer) (sym q) ∙ e)

pub loop-i-preserved : goal.loop-i-preserved
loop-i-preserved c =
    let r = (goal.at.loop-i-preserved c).At-loop-to in
    let l = (goal.at.loop-i-preserved c).At-loop-i in
    let d = (goal.at.loop-i-preserved c).After-pick_at-thread in
    let x = (goal.at.loop-i-preserved c).Joined-goes_on in
    let f = (goal.at.loop-i-preserved c).After-refocus-refocusings in
    let i = c.loop-i.invariant in
    let t = begun x in
    let put = c.put_move-tally-in-loop-i in
    let queue = c.after in
    let j = c.if-ready-eq-FORK in
    let k = c.if-changes in
    let acts = c.in-Acted.is in
    let roomy : full_of c.refocus-refocusings.result.last ≡ false = sym c.full.ensures ∙ c.if-full.false in
    let same = c.changes.ensures in
    let before : put.result.moves ≡ c.loop-i.tally.moves = ap (λ (s : Tally). s.moves) put.ensures.value.0 in
    let moves : c.moved-tally-in-loop-i.result.moves ≡ put.result.moves + 1 = ap (λ (s : Tally). s.moves) c.moved-tally-in-loop-i.ensures.0 in
    let records : c.moved-tally-in-loop-i.result.records ≡ put.result.records = ap (λ (s : Tally). s.records) c.moved-tally-in-loop-i.ensures.0 in (
      omega (arith, i.0),
      omega (arith, t),
      i.2,
      λ first s. let v = i.3 first s in
          record {
            few_moves = omega (arith, before, moves, v.few_moves);
            few_records = omega (arith, records, put.ensures.value.1, v.few_records);
            kept = put.auto.log ∙ v.kept;
            goes = λ qs. ⊎_elim (λ w.
                let came = forked f roomy acts (eq-eqb _ _ w.if-ready-eq-FORK.true) in
                moved (words r) (roots r) (setting r) (engine l) (pick d) qs c.loop-i.i _ (present x) came refl
                (map restore_of k.cells) j.heads _ queue.new.places put.result c.moved-tally-in-loop-i.result put.new.log
                (⊎_elim (λ u. cell_put c.loop-i.cells k.cells _ _ _ u.keep.ensures
                (u.cells-is ∙ ap (λ (n : ℕ). set c.loop-i.cells n u.keep.result) u.cell_of-number-then-changes.ensures.cell))
                (λ u. cell_left c.loop-i.cells k.cells _ _ u.cells-is (unchanged x _ refl came (sym same ∙ u.if-changes.false))) k.branch-raw)
                (heads_forked c.loop-i.heads j.heads (c.loop-i.tally.counts.threads % 9) (mover x) w.moved.ensures (eq-eqb _ _ w.if-ready-eq-FORK.true)
                w.forked.ensures
                (w.heads-is ∙ ap (λ (n : ℕ). set (set c.loop-i.heads n w.forked.result) (mover x) w.moved.result) w.remainder-then-ready-eq-FORK.ensures))
                (object_put c.loop-i.objects _ _ _ c.remainder-in-loop-i.ensures) queue.ensures put.ensures.value.0 c.moved-tally-in-loop-i.ensures.0
                put.ensures.log_after) (λ w.
                let came = alone f roomy acts (ne_eqb _ _ w.if-ready-eq-FORK.false) in
                moved (words r) (roots r) (setting r) (engine l) (pick d) qs c.loop-i.i _ (present x) came refl
                (map restore_of k.cells) j.heads _ queue.new.places put.result c.moved-tally-in-loop-i.result put.new.log
                (⊎_elim (λ u. cell_put c.loop-i.cells k.cells _ _ _ u.keep.ensures
                (u.cells-is ∙ ap (λ (n : ℕ). set c.loop-i.cells n u.keep.result) u.cell_of-number-then-changes.ensures.cell))
                (λ u. cell_left c.loop-i.cells k.cells _ _ u.cells-is (unchanged x _ refl came (sym same ∙ u.if-changes.false))) k.branch-raw)
                (heads_alone c.loop-i.heads j.heads (c.loop-i.tally.counts.threads % 9) (mover x) w.moved-else-ready-eq-FORK.ensures no_head
                (ne_eqb _ _ w.if-ready-eq-FORK.false) w.heads-is)
                (object_put c.loop-i.objects _ _ _ c.remainder-in-loop-i.ensures) queue.ensures put.ensures.value.0 c.moved-tally-in-loop-i.ensures.0
                put.ensures.log_after) j.branch-raw ∙ next d first v qs;
            unstopped = v.unstopped;
            eight = queue.auto.places ∙ v.eight;
            moves = moves_before d first v (c.loop-i.i + 1 - 1) (omega arith);
            records = records_before d first v (c.loop-i.i + 1 - 1) (omega arith);
            marked = none_marked (words r) (roots r) (setting r) _;
          },
      c.refocus-refocusings.ensures.right,
    )

-- a pick that stops the run, with its last record: the run ends there, and no thread can be picked any more
stops_there : (c : Joined-goes_on) {e : Stop} {y : Entry} {k : Stack} → picked k (answer.Stopped e y) ≡ answered c
    → (e' : Stop) (j : ℕ) (s : Tally) (log : List ℕ) → e' ≡ e → j ≡ c.loop-i.i → s ≡ tally_put c.loop-i.tally y
    → log ≡ log_put c.loop-i.log c.loop-i.tally.records (mover c) y
    → ◌≡◌ {A = Played} (record {
      outcome = end_of e' j (setting (around c)) s c.loop-i.heads (cells (stand c)) c.loop-i.objects c.loop-i.places;
      area = log;
    }) (whole (around c))
stops_there c came e' j s log qe qj qs ql =
    let d = asked c in
    let l = stand c in
    let r = around c in
    let later = drop (c.loop-i.i + 1) (take (end r) (list r)) in
    let t : c.loop-i.i + 1 ≤ end r = omega (arith, begun c) in
    let q : take (c.loop-i.i + 1) (list r) ++ later ≡ take (end r) (list r) =
    ap (λ (ps : List ℕ). ps ++ later) (sym (take-take (c.loop-i.i + 1) (end r) (list r) t))
    ∙ take-append-drop (c.loop-i.i + 1) (take (end r) (list r)) in
    stops (words r) (roots r) (setting r) (engine l) (pick d) later c.loop-i.i _ (present c) came refl e' j s log qe qj qs ql
    ∙ next d (first r) (here l) later ∙ ap (played r) q

halts_there : (c : Joined-goes_on) {e : Stop} {y : Entry} {k : Stack} → picked k (answer.Stopped e y) ≡ answered c → {e' : Stop} → e' ≡ e
    → unstopped e' ≡ false
halts_there c {e} {y} came q =
    let r = around c in
    ap unstopped q ∙ stop_halts (words r) (roots r) (setting r) (engine (stand c)) (mover c) e y (ap (λ (z : Picked). z.answer) (sym came))

-- without a record, nothing is put
nothing_put : (s : Tally) → s ≡ tally_put s no_entry
unfolding records_after
nothing_put s = refl

nothing_logged : (log : List ℕ) (n p : ℕ) → log ≡ log_put log n p no_entry
unfolding log_put
nothing_logged log n p = refl

-- the steps up to where a pick is drawn, to where it has begun, and to its refocusings; and those places
abbrev Steps-drawn : Type 0
Steps-drawn =
    lts.After-pick_at tie.the-claims reads.Pre reads.Post goal.the-invariant-loop-i goal.the-decreases-loop-i goal.the-invariant-loop-thread
    goal.the-decreases-loop-thread goal.the-invariant-loop-to goal.the-decreases-loop-to tie.handed_clauses

abbrev drawn_by : Steps-drawn → After-pick_at-thread
drawn_by =
    view.up-After-pick_at-thread tie.the-claims reads.Pre reads.Post goal.the-invariant-loop-i goal.the-decreases-loop-i goal.the-invariant-loop-thread
    goal.the-decreases-loop-thread goal.the-invariant-loop-to goal.the-decreases-loop-to tie.handed_clauses

abbrev Steps-begun : Type 0
Steps-begun =
    lts.Joined3 tie.the-claims reads.Pre reads.Post goal.the-invariant-loop-i goal.the-decreases-loop-i goal.the-invariant-loop-thread
    goal.the-decreases-loop-thread goal.the-invariant-loop-to goal.the-decreases-loop-to tie.handed_clauses

abbrev begun_by : Steps-begun → Joined-goes_on
begun_by =
    view.up-Joined-goes_on tie.the-claims reads.Pre reads.Post goal.the-invariant-loop-i goal.the-decreases-loop-i goal.the-invariant-loop-thread
    goal.the-decreases-loop-thread goal.the-invariant-loop-to goal.the-decreases-loop-to tie.handed_clauses

abbrev Steps-refocused : Type 0
Steps-refocused =
    lts.After-refocus tie.the-claims reads.Pre reads.Post goal.the-invariant-loop-i goal.the-decreases-loop-i goal.the-invariant-loop-thread
    goal.the-decreases-loop-thread goal.the-invariant-loop-to goal.the-decreases-loop-to tie.handed_clauses

abbrev refocused_by : Steps-refocused → After-refocus-refocusings
refocused_by =
    view.up-After-refocus-refocusings tie.the-claims reads.Pre reads.Post goal.the-invariant-loop-i goal.the-decreases-loop-i goal.the-invariant-loop-thread
    goal.the-decreases-loop-thread goal.the-invariant-loop-to goal.the-decreases-loop-to tie.handed_clauses

-- a round was left at its end, or by a stop, after which no thread can be picked any more
left_so : (c : Left-loop-i)
    → (◌≡◌ {A = Played} (record {
      outcome =
          end_of c.loop-i-test.stop c.loop-i-test.dealt (setting (closed c)) c.loop-i-test.tally c.loop-i.heads (cells (held c))
          c.loop-i.objects c.loop-i.places;
      area = c.loop-i-test.log;
    }) (whole (closed c))) × (c.loop-i-test.dealt < end (closed c) → unstopped c.loop-i-test.stop ≡ false)
unfolding play_of
left_so c =
    let i = c.loop-i.invariant in
    let l = held c in
    let r = closed c in
    let v = here (held c) in
    ⊎_elim (λ w.
    let t : c.loop-i.i ≡ end r = omega (arith, w.loop-i-test.false, i.1) in
    let q : play_of (words r) (roots r) (setting r) (engine l) [] c.loop-i.i ≡ whole r =
    v.goes [] ∙ ap (played r) (append-nil (take c.loop-i.i (list r)) ∙ ap (λ (n : ℕ). take n (list r)) t) in (
      ends_as (setting r) c.loop-i.heads (cells l) c.loop-i.objects c.loop-i.places _ _ _ _ _ _ _ _ (w.stop-is ∙ v.unstopped) (w.dealt-is ∙ i.2 ∙ sym t)
          w.tally-is w.log-is ∙ q,
      λ h. absurd (omega (arith, h, w.dealt-is, i.2)),
    )) (⊎_elim (λ w.
    let y : Steps-begun = record {
      before = record {
        before = record {
          before = record {
            before = record {
              before = record {
                before = record {
                  before = record {
                    before = record { before = record { before = c.before.before; loop-i-test = w.loop-i-test }; pick_at-thread = w.pick_at-thread };
                    counts-1 = w.counts-1;
                  };
                  struct_known-1 = w.struct_known-1;
                };
                if-counts-thread = w.if-counts-thread;
              };
              if-passed-thread = w.if-passed-thread;
            };
            head-1 = w.head-1;
          };
          ready-1 = w.ready-1;
        };
        goes_on = w.goes_on;
      };
      if-goes_on = w.if-goes_on;
    } in
    let x : Joined-goes_on = begun_by y in
    let came = stops_so x w.in-Stopped.is in (
      stops_there x came _ _ _ _ w.stop-is w.dealt-is (w.tally-is ∙ w.put-tally.ensures.value.0) (w.log-is ∙ w.put-tally.ensures.log_after),
      λ h. halts_there x came w.stop-is,
    )) (λ w.
    let y : Steps-begun = record {
      before = record {
        before = record {
          before = record {
            before = record {
              before = record {
                before = record {
                  before = record {
                    before = record { before = record { before = c.before.before; loop-i-test = w.loop-i-test }; pick_at-thread = w.pick_at-thread };
                    counts-1 = w.counts-1;
                  };
                  struct_known-1 = w.struct_known-1;
                };
                if-counts-thread = w.if-counts-thread;
              };
              if-passed-thread = w.if-passed-thread;
            };
            head-1 = w.head-1;
          };
          ready-1 = w.ready-1;
        };
        goes_on = w.goes_on;
      };
      if-goes_on = w.if-goes_on;
    } in
    let x : Joined-goes_on = begun_by y in
    let f : After-refocus-refocusings = refocused_by (record {
      before = record {
        before = record { before = record { before = record { before = y; in-Went = w.in-Went }; go_of-go = w.go_of-go }; lists-1 = w.lists-1 };
        stack-1 = w.stack-1;
      };
      refocus-refocusings = w.refocus-refocusings;
    }) in
    let came = full_so f (sym w.full.ensures ∙ w.if-full.true) in (
      stops_there x came _ _ _ _ w.stop-is w.dealt-is (w.tally-is ∙ nothing_put _) (w.log-is ∙ nothing_logged _ _ _),
      λ h. halts_there x came w.stop-is,
    ))) c.loop-i-test.branch-raw

ended : (c : Left-loop-i)
    → ◌≡◌ {A = Played} (record {
      outcome =
          end_of c.loop-i-test.stop c.loop-i-test.dealt (setting (closed c)) c.loop-i-test.tally c.loop-i.heads (cells (held c))
          c.loop-i.objects c.loop-i.places;
      area = c.loop-i-test.log;
    }) (whole (closed c))
ended c = (left_so c).0

-- without one, the run stands at the round's end
stood : (c : Left-loop-i) → end (closed c) ≤ c.loop-i-test.dealt
    → Standing (words (closed c)) (roots (closed c)) (setting (closed c)) (every (closed c)) (first (closed c)) (list (closed c)) (end (closed c))
    c.loop-i-test.log c.loop-i.heads c.loop-i.cells c.loop-i.objects c.loop-i.places c.loop-i-test.stack
    c.loop-i.passed c.loop-i-test.tally c.loop-i-test.stop c.loop-i-test.moves_before c.loop-i-test.records_before
stood c h =
    let r = closed c in
    ⊎_elim (λ w.
    let t : end r ≡ c.loop-i.i = omega (arith, w.loop-i-test.false, c.loop-i.invariant.1) in
    standing_as (words r) (roots r) (setting r) (every r) (first r) t w.log-is w.stack-is w.tally-is w.stop-is w.moves_before-is w.records_before-is
    (here (held c))) (⊎_elim (λ w. absurd (omega (arith, h, w.dealt-is, w.loop-i-test.true))) (λ w.
    absurd (omega (arith, h, w.dealt-is, w.loop-i-test.true)))) c.loop-i-test.branch-raw

-- the kept lists are right
right : (c : Left-loop-i) → Right (words (closed c)) c.loop-i-test.lists
right c =
    let i = c.loop-i.invariant in
    ⊎_elim (λ w. along (Right (words (closed c))) (sym w.lists-is) i.4)
    (⊎_elim (λ w. along (Right (words (closed c))) (sym w.lists-is) i.4)
    (λ w. along (Right (words (closed c))) (sym w.lists-is) w.refocus-refocusings.ensures.right)) c.loop-i-test.branch-raw

-- the counts before the last pick that was met
length_stretch : (c : Left-loop-i) → length (take (end (closed c)) (list (closed c))) ≡ end (closed c)
length_stretch c = length-take-le (end (closed c)) (list (closed c)) (round (closed c)).listed

-- so many picks came before it
abbrev k : Left-loop-i → ℕ
k c = min c.loop-i-test.dealt (length (take (end (closed c)) (list (closed c))) - 1)

-- the loop was left at its end
at_end : (c : Left-loop-i) → end (closed c) ≤ c.loop-i.i → c.loop-i-test.dealt ≡ c.loop-i.dealt → c.loop-i.i - 1 ≡ k c
at_end c h e = omega (arith, h, e, c.loop-i.invariant.1, c.loop-i.invariant.2, length_stretch c)

-- or by a stop
at_stop : (c : Left-loop-i) → c.loop-i.i < end (closed c) → c.loop-i-test.dealt ≡ c.loop-i.i → k c ≡ c.loop-i.i
at_stop c h e = omega (arith, h, e, length_stretch c)

few_k : (c : Left-loop-i) → k c ≤ end (closed c)
few_k c = omega (arith, length_stretch c)

same : (c : Left-loop-i) → take (k c) (list (closed c)) ≡ take (k c) (take (end (closed c)) (list (closed c)))
same c = sym (take-take (k c) (end (closed c)) (list (closed c)) (few_k c))

counted_moves : (c : Left-loop-i)
    → c.loop-i-test.moves_before ≡ (played (closed c) (take (k c) (take (end (closed c)) (list (closed c))))).outcome.moves
counted_moves c =
    let r = closed c in
    let v = here (held c) in
    ⊎_elim (λ w. w.moves_before-is ∙ v.moves
    ∙ ap (λ (n : ℕ). (played r (take n (list r))).outcome.moves) (at_end c w.loop-i-test.false w.dealt-is))
    (⊎_elim (λ w.
    let s : Steps-drawn = record { before = record { before = c.before.before; loop-i-test = w.loop-i-test }; pick_at-thread = w.pick_at-thread } in
    w.moves_before-is ∙ moves_before (drawn_by s) (first r) v (k c) (at_stop c w.loop-i-test.true w.dealt-is))
    (λ w.
    let s : Steps-drawn = record { before = record { before = c.before.before; loop-i-test = w.loop-i-test }; pick_at-thread = w.pick_at-thread } in
    w.moves_before-is ∙ moves_before (drawn_by s) (first r) v (k c) (at_stop c w.loop-i-test.true w.dealt-is))) c.loop-i-test.branch-raw
    ∙ ap (λ (ps : List ℕ). (played r ps).outcome.moves) (same c)

counted_records : (c : Left-loop-i)
    → c.loop-i-test.records_before ≡ (played (closed c) (take (k c) (take (end (closed c)) (list (closed c))))).outcome.records
counted_records c =
    let r = closed c in
    let v = here (held c) in
    ⊎_elim (λ w. w.records_before-is ∙ v.records
    ∙ ap (λ (n : ℕ). (played r (take n (list r))).outcome.records) (at_end c w.loop-i-test.false w.dealt-is))
    (⊎_elim (λ w.
    let s : Steps-drawn = record { before = record { before = c.before.before; loop-i-test = w.loop-i-test }; pick_at-thread = w.pick_at-thread } in
    w.records_before-is ∙ records_before (drawn_by s) (first r) v (k c) (at_stop c w.loop-i-test.true w.dealt-is))
    (λ w.
    let s : Steps-drawn = record { before = record { before = c.before.before; loop-i-test = w.loop-i-test }; pick_at-thread = w.pick_at-thread } in
    w.records_before-is ∙ records_before (drawn_by s) (first r) v (k c) (at_stop c w.loop-i-test.true w.dealt-is))) c.loop-i-test.branch-raw
    ∙ ap (λ (ps : List ℕ). (played r ps).outcome.records) (same c)

-- ---- the look at all threads

-- a thread put at its number
abbrev put : Left-loop-i → ℕ → List Thread → List Thread
put c =
    put_thread c.loop-i-test.tally.counts c.loop-i.heads (cells (held c)) c.loop-i.objects c.loop-i.places
    (setting (closed c))

-- all that is seen
abbrev seen : Left-loop-i → List Thread
seen c =
    threads_of (setting (closed c)) c.loop-i-test.tally.counts c.loop-i.heads (cells (held c)) c.loop-i.objects
    c.loop-i.places

pub loop-thread-init : goal.loop-thread-init
loop-thread-init c =
    let l = (goal.at.loop-thread-init c).At-loop-i in (
      omega arith,
      all_threads_lem c.loop-i-test.tally.counts c.loop-i.heads (cells l) c.loop-i.objects c.loop-i.places (setting (there l))
          c.loop-to.threads c.loop-to.invariant.2,
    )

-- one that is not there
pub loop-thread-preserved-then-thread-counts : goal.loop-thread-preserved-then-thread-counts
loop-thread-preserved-then-thread-counts c =
    let m = (goal.at.loop-thread-preserved-then-thread-counts c).Left-loop-i in
    let p = c.loop-thread.thread in
    let h : p < 8 = c.loop-thread-test.true in
    let e = c.no_thread.ensures
    ∙ sym (absent_at c.loop-i-test.tally.counts c.loop-i.heads (cells (held m)) c.loop-i.objects c.loop-i.places (setting (closed m)) p
    c.if-thread-counts.true) in (
      omega arith,
      ap (λ (x : Thread). turns (put m) (8 - (p + 1)) (p + 1) (set c.loop-thread.threads p x)) e
          ∙ sym (one_turn (put m) 8 p c.loop-thread.threads h) ∙ c.loop-thread.invariant.1,
    )

-- one that is
pub loop-thread-preserved : goal.loop-thread-preserved
loop-thread-preserved c =
    let m = (goal.at.loop-thread-preserved c).Left-loop-i in
    let p = c.loop-thread.thread in
    let k = c.cell_of-number-in-loop-thread in
    let o = c.restore-cell-in-loop-thread in
    let h : p < 8 = c.loop-thread-test.true in
    let e = c.thread_of.ensures
    ∙ ap (thread_by (setting (closed m))) (met c.loop-i-test.tally.counts c.loop-i.heads (cells (held m)) c.loop-i.objects c.loop-i.places p k.result
    o.result k.ensures (o.ensures ∙ restored_at c.loop-i.cells k.result)) in (
      omega arith,
      ap (λ (x : Thread). turns (put m) (8 - (p + 1)) (p + 1) (set c.loop-thread.threads p x)) e
          ∙ sym (one_turn (put m) 8 p c.loop-thread.threads h) ∙ c.loop-thread.invariant.1,
    )

-- all threads are seen
all_seen : (c : After-loop-thread) → c.loop-thread.threads ≡ seen (left c)
all_seen c =
    let z : 8 - c.loop-thread.thread ≡ 0 = omega (arith, c.loop-thread-test.false) in
    sym (no_turn (put (left c)) 8 c.loop-thread.thread c.loop-thread.threads z) ∙ c.loop-thread.invariant.1

-- the outcome as it stands
abbrev told : After-loop-thread → Outcome
told c =
    record {
      stop = c.loop-i-test.stop;
      picks = c.loop-i-test.dealt;
      moves = c.loop-i-test.tally.moves;
      records = c.loop-i-test.tally.records;
      threads = c.loop-thread.threads;
    }

-- is that of the round's picks and of all before
outcome_is : (c : After-loop-thread) → told c ≡ (whole (closed (left c))).outcome
outcome_is c =
    ap (λ (x : List Thread). record {
      stop = c.loop-i-test.stop;
      picks = c.loop-i-test.dealt;
      moves = c.loop-i-test.tally.moves;
      records = c.loop-i-test.tally.records;
      threads = x;
    }) (all_seen c)
    ∙ ap (λ (x : Played). x.outcome) (ended (left c))

-- ---- the run goes on

abbrev lowest : After-note → ℕ
lowest c = c.goes_on_by-lowest.result

by_this : (c : After-note) → c.goes_on_by-lowest.result < 8
by_this c = omega (arith, c.goes_on_by-lowest.ensures.within, c.if-lowest-eq8.false)

going : (c : After-note) → (ltb c.loop-i-test.dealt (end (done c)) ≡ false) × (end (done c) < length c.loop-to.notes)
    × LowestFrom (open_at c.loop-thread.threads) 0 c.goes_on_by-lowest.result
going c = c.goes_on_by-lowest.ensures.going (by_this c)

unhalted : (c : After-note) → end (done c) ≤ c.loop-i-test.dealt
unhalted c = ltb-false _ _ (going c).0

-- the threads show what can be picked
shown : (c : After-note) → (k : ℕ) → k < 8 → open_at c.loop-thread.threads k ≡ open_after (whole (done c)).outcome k
unfolding open_after
shown c k b =
    sym (ap (λ (x : Stop). unstopped x && open_at c.loop-thread.threads k) (stood (left (over c)) (unhalted c)).unstopped)
    ∙ ap (λ (x : Outcome). open_after x k) (outcome_is (over c))

low : (c : After-note) → LowestFrom (open_after (whole (done c)).outcome) 0 c.goes_on_by-lowest.result
low c = lowest_ext (open_at c.loop-thread.threads) (open_after (whole (done c)).outcome) 0 _ (shown c) (going c).2

-- the next higher thread
abbrev higher : After-note → ℕ
higher c = c.note.ensures.higher

high : (c : After-note)
    → LowestFrom (open_after (whole (done c)).outcome) (pick_at (picks (done c)) (end (done c)) c.goes_on_by-lowest.result % 8 + 1) c.note.ensures.higher
high c =
    along (λ (p : ℕ). LowestFrom (open_after (whole (done c)).outcome) (p % 8 + 1) c.note.ensures.higher) c.pick_at-pick.ensures
    (lowest_ext (open_at c.loop-thread.threads) (open_after (whole (done c)).outcome) _ _ (shown c) c.note.ensures.above)

inside : (c : After-note) → end (done c) < length c.args.notes.now
inside c = omega (arith, (going c).1, (round (done c)).kept)

pub loop-to-preserved : goal.loop-to-preserved
loop-to-preserved c =
    let r = (goal.at.loop-to-preserved c).At-loop-to in
    let m = (goal.at.loop-to-preserved c).Left-loop-i in
    let before = c.args.notes.now in (
      in_list (words r) (roots r) (setting r) (every r) (first r) _ (kept_before (picks r) c.loop-to.notes (end r) c.note.result (end r) (omega arith))
          (stood m (unhalted c)),
      along (λ (x : ℕ). Round (words r) (roots r) (setting r) (every r) (first r) (picks r) before (set c.loop-to.notes (end r) x) (lowest c) (end r)
          (end r + 1)) (sym c.note.ensures.is)
          (next_round (words r) (roots r) (setting r) (every r) (first r) (picks r) before c.loop-to.notes c.loop-to.lowest c.loop-to.from (end r) (round r)
          c.requires (inside c) (lowest c) (higher c) (by_this c) (low c) (high c)),
      ap length (all_seen (goal.at.loop-to-preserved c).After-loop-thread)
          ∙ eight_threads c.loop-i-test.tally.counts c.loop-i.heads (cells (held m)) c.loop-i.objects c.loop-i.places (setting r),
      right m,
    )

pub note-requires : goal.note-requires
note-requires c = c.goes_on_by-lowest.ensures.within

pub bounds-notes-to : goal.bounds-notes-to
bounds-notes-to c = (going c).1

pub overflow_add-to : goal.overflow_add-to
overflow_add-to c = record { fits = omega (arith, inside c, c.requires.few_notes) }

pub loop-to-smaller : goal.loop-to-smaller
loop-to-smaller c = omega (arith, (going c).1, length-set c.loop-to.notes (end (goal.at.loop-to-smaller c).At-loop-to) c.note.result)

-- ---- it is over

pub shape_of-notes : goal.shape_of-notes
shape_of-notes c = (round (goal.at.shape_of-notes c).At-loop-to).kept

pub shape_of-log : goal.shape_of-log
shape_of-log c =
    let v = here (goal.at.shape_of-log c).At-loop-i in
    ⊎_elim (λ w. ap length w.log-is ∙ v.kept)
    (⊎_elim (λ w. ap length w.log-is ∙ w.put-tally.auto.log ∙ v.kept) (λ w. ap length w.log-is ∙ v.kept))
    c.loop-i-test.branch-raw

halted : (c : Then-lowest-eq8) → c.loop-i-test.dealt < end (closed (left (last c))) → unstopped c.loop-i-test.stop ≡ false
halted c = (left_so (left (last c))).1

-- short of the last place, it has stopped or no thread can be picked
shut_off : (c : Then-lowest-eq8)
    → end (closed (left (last c))) < length c.loop-to.notes → (k : ℕ)
    → k < 8 → Dec (c.loop-i-test.dealt < end (closed (left (last c))))
    → open_after (whole (closed (left (last c)))).outcome k ≡ false
unfolding open_after
shut_off c b k h (yes d) =
    ap (λ (x : Outcome). open_after x k) (sym (outcome_is (last c))) ∙ shut_after (told (last c)) k (halted c d)
shut_off c b k h (no d) =
    ap (λ (x : Outcome). open_after x k) (sym (outcome_is (last c)))
    ∙ ap (λ (x : Stop). unstopped x && open_at c.loop-thread.threads k) (stood (left (last c)) (omega (arith, d))).unstopped
    ∙ c.goes_on_by-lowest.ensures.none c.if-lowest-eq8.true (le-ltb c.loop-i-test.dealt (end (closed (left (last c)))) (omega (arith, d))) b k h

pub returns : goal.returns
returns c =
    let r = (goal.at.returns c).At-loop-to in
    let m = (goal.at.returns c).Left-loop-i in
    let a = (goal.at.returns c).After-loop-thread in
    let e = c.result-ran.ensures in
    record {
      kept = (round r).kept;
      within = (round r).listed;
      unnoted = (round r).unnoted;
      places = (round r).places;
      outcome = ap (λ (x : Ran). x.outcome) e ∙ outcome_is a;
      area = ap (λ (x : Played). x.area) (ended m);
      counted = along (CountedBefore (words r) (roots r) (setting r) (start_of (every r) (roots r) (first r)) (take (end r) (list r))) (sym e)
          (record { moves = counted_moves m; records = counted_records m });
      noted = (round r).noted;
      shut = λ b k h.
          ap (λ (x : Ran). open_after x.outcome k) e
          ∙ ap (λ (x : Outcome). open_after x k) (outcome_is a)
          ∙ shut_off (goal.at.returns c).Then-lowest-eq8 (omega (arith, b, (round r).kept)) k h (dec_lt c.loop-i-test.dealt (end r));
    }

-- ---- what a turn asks

one_less : (n : ℕ) → n < 8 → 8 - (n + 1) < 8 - n
one_less n h = omega arith

pub overflow_step-thread-in-loop-thread : goal.overflow_step-thread-in-loop-thread
overflow_step-thread-in-loop-thread c = record { fits = omega (arith, c.loop-thread-test.true) }

pub loop-thread-smaller : goal.loop-thread-smaller
loop-thread-smaller c = one_less _ c.loop-thread-test.true

pub offset_bounds-objects-remainder : goal.offset_bounds-objects-remainder
offset_bounds-objects-remainder c = record { fits = omega (arith, c.remainder.ensures) }

pub bounds-objects-remainder : goal.bounds-objects-remainder
bounds-objects-remainder c = omega (arith, c.remainder.ensures)

pub overflow_step-i-in_default-begun-2 : goal.overflow_step-i-in_default-begun-2
overflow_step-i-in_default-begun-2 c = record { fits = omega (arith, few (goal.at.overflow_step-i-in_default-begun-2 c).Joined-goes_on) }

pub loop-i-smaller-in_default-begun-2 : goal.loop-i-smaller-in_default-begun-2
loop-i-smaller-in_default-begun-2 c = omega (arith, begun (goal.at.loop-i-smaller-in_default-begun-2 c).Joined-goes_on)

pub offset_bounds-heads-remainder : goal.offset_bounds-heads-remainder
offset_bounds-heads-remainder c = record { fits = omega (arith, c.remainder-then-ready-eq-FORK.ensures) }

pub bounds-heads-remainder : goal.bounds-heads-remainder
bounds-heads-remainder c = omega (arith, c.remainder-then-ready-eq-FORK.ensures)

pub offset_bounds-cells-number-then-changes : goal.offset_bounds-cells-number-then-changes
offset_bounds-cells-number-then-changes c = record { fits = omega (arith, c.cell_of-number-then-changes.ensures.inside) }

pub bounds-cells-number-then-changes : goal.bounds-cells-number-then-changes
bounds-cells-number-then-changes c = c.cell_of-number-then-changes.ensures.inside

pub offset_bounds-objects-remainder-in-loop-i : goal.offset_bounds-objects-remainder-in-loop-i
offset_bounds-objects-remainder-in-loop-i c = record { fits = omega (arith, c.remainder-in-loop-i.ensures) }

pub bounds-objects-remainder-in-loop-i : goal.bounds-objects-remainder-in-loop-i
bounds-objects-remainder-in-loop-i c = omega (arith, c.remainder-in-loop-i.ensures)

pub overflow_step-i-in-loop-i : goal.overflow_step-i-in-loop-i
overflow_step-i-in-loop-i c = record { fits = omega (arith, few (goal.at.overflow_step-i-in-loop-i c).Joined-goes_on) }

pub loop-i-smaller : goal.loop-i-smaller
loop-i-smaller c = omega (arith, begun (goal.at.loop-i-smaller c).Joined-goes_on)
