-- What the code finds of the last pick is the preview. Assumes nothing.
use Prim.Native.Nat.{ℕ, ◌+◌, ◌*◌, ◌-◌, ◌/◌, ◌%◌, ◌≤◌, ◌<◌, min}
use native.Mathlib.Omega.{arith}
use native.Mathlib.Nat.{sub-zero}
use mathlib.Core.Path.{◌≡◌, refl, sym, ap, ◌∙◌, subst as along}
use mathlib.Core.Bool.{true≢false}
use mathlib.Core.List.{List, [], ◌∷◌, ◌++◌, append-nil}
use mathlib.Core.Option.{some, none}
use lib.ListN.{length, get_or, get_elem?, take, drop, length-append, take-append-drop}
use lib.Seq.{get_or-take, take_at, get_or-append_seam}
use Rattle.format.specs.Area.{overwrite}
use Rattle.format.proofs.AreaLaws.{overwrite_first, overwrite_covers}
use Rattle.plan_packed.specs.Trees.{program_of}
use Rattle.plan_packed.proofs.Decoded.{well_formed}
use Rattle.log_records.specs.Record.{Record}
use Rattle.log_records.specs.Packed.{packed, three_bytes, bytes_of, record_at}
use Rattle.log_records.proofs.Tidy.{Tidy, tidy_at}
use Rattle.log_records.proofs.RoundTrip.{length_bytes, Placed, bytes_placed, packed_back}
use Rattle.rules.specs.State.{State, start}
use Rattle.rules.specs.Step.{attempt}
use Rattle.rules.specs.Room.{Room}
use Rattle.rules.specs.Run as run
use Rattle.rules.specs.Run.{MadeMove, Run, Status, status, log, instances, stopped, play}
use Rattle.rules.specs.Play.{run_of}
use Rattle.rules.proofs.Equivalence.{complete_passed}
use Rattle.rules.proofs.TidyRuns.{tidy_play}
use Rattle.rules.proofs.RunAppend.{and_then, instances_append, log_append, all_dealt_with, none_lacked, stopped_short, records_grow}
use Rattle.run_outcome.specs.declared.NoRoom.{NoRoom}
use Rattle.run_outcome.specs.declared.NoRoom.TheVariants as room
use Rattle.run_outcome.specs.declared.Stop.{Stop}
use Rattle.run_outcome.specs.declared.Stop.TheVariants as stop
use Rattle.run_open_threads.specs.Inner.Open.{absent}
use Rattle.run_engine.specs.Inner.Engine.{picks_before}
use Rattle.run_tally.specs.declared.Ran.{Ran}
use Rattle.play.specs.Answer.{room_of, stop_of, status_of, outcome_of}
use Rattle.play.specs.Inner.RunOn.{Given, RunOn}
use Rattle.play.proofs.Threads.{status_of_lem}
use Rattle.text.specs.Inner.Wrote.{Wrote}
use Rattle.run_last_pick.specs.declared.Preview as code
use Rattle.preview.specs.Preview as preview
use Rattle.preview.specs.Preview.{Preview, shown_after, with_pick}
use Rattle.preview.specs.PlaysAs.{one_pick_more, stopped_next, PlaysAs, STOPPED, PASSED, MOVED, RACE, NO-ROOM}
use Rattle.preview.specs.Answer.{bytes_in, record_of, preview_of, BytesAsLogged, LoggedAs}
use Rattle.run_last_pick.specs.Inner.LastPick.{record_in, last_record, last_pick, LastGiven}
use Rattle.preview.proofs.PlaysAs.{stopped_next_lem, preview_plays}
use Rattle.run_last_pick.proofs.LastPick.{early, full, raced, passed, moved, recorded}

-- ---- the code's stop, by what it means

ended : (s : Stop) → stop_of s ≡ run.Stop.end → s ≡ stop.End
unfolding stop_of
ended stop.End e = refl
ended stop.Race e = absurd (true≢false cc)
ended (stop.NoRoom k) e = absurd (true≢false cc)

lacked : (s : Stop) → stop_of s ≡ run.Stop.race → s ≡ stop.Race
unfolding stop_of
lacked stop.End e = absurd (true≢false cc)
lacked stop.Race e = refl
lacked (stop.NoRoom k) e = absurd (true≢false cc)

no_room_lem : (s : Stop) (k : Room) → stop_of s ≡ run.Stop.no_room k → (x : NoRoom) × (s ≡ stop.NoRoom x) × (room_of x ≡ k)
unfolding stop_of
no_room_lem stop.End k e = absurd (true≢false cc)
no_room_lem stop.Race k e = absurd (true≢false cc)
no_room_lem (stop.NoRoom x) k e = (x, refl, cc)

-- ---- the bytes of the last record

-- the last of some records and one more
last_of_lem : (L : List Record) (e : Record) → get_elem? (L ++ (e ∷ [])) (length L) ≡ some e
last_of_lem [] e = refl
last_of_lem (x ∷ L) e = last_of_lem L e

module _ (L : List Record) (area after : List ℕ) (left : after ≡ overwrite (bytes_of L) area) where
  begins : take (length (bytes_of L)) after ≡ bytes_of L
  begins = ap (take (length (bytes_of L))) left ∙ overwrite_first (bytes_of L) area

  covers : 3 * length L ≤ length after
  covers = omega (arith, length_bytes L, ap (λ (l : List ℕ). length l) left, overwrite_covers (bytes_of L) area)

  byte : (j : ℕ) → j < 3 * length L → get_or after j 0 ≡ get_or (bytes_of L) j 0
  byte j h = sym (get_or-take (length (bytes_of L)) after j 0 (omega (arith, length_bytes L, h))) ∙ ap (λ (l : List ℕ). get_or l j 0) begins

  module _ (i : ℕ) (e : Record) (h : i < length L) (at : get_elem? L i ≡ some e) (tidy : Tidy e) where
    -- they are its three bytes
    placed : Placed (bytes_in (record_in after i)) 0 e
    placed =
        let p = bytes_placed L i e at in
        record {
          high = byte (3 * i) (omega arith) ∙ p.high;
          middle = byte (3 * i + 1) (omega arith) ∙ p.middle;
          low =
              byte (3 * i + 2) (omega arith) ∙ p.low;
        }

    pub record_is : record_of (record_in after i) ≡ e
    unfolding record_of
    record_is = packed_back (bytes_in (record_in after i)) 0 e tidy placed

    pub bytes_are : BytesAsLogged (record_in after i)
    unfolding bytes_of three_bytes
    bytes_are = rw record_is (λ k. placed.high k ∷ placed.middle k ∷ placed.low k ∷ [])

-- ---- the run of the schedule with the pick added

-- what its last pick did
abbrev last_of : Ran → ℕ → ℕ → List ℕ → code.Preview
last_of r = last_pick r.outcome r.before.moves r.before.records

-- what follows of it
pub record Found (r : Ran) (schedule : List ℕ) (pick : ℕ) (after : List ℕ) (x : Preview) : Type 0 where
  pub answer : preview_of (last_of r (length schedule) pick after) ≡ x
  pub as_logged : LoggedAs (last_of r (length schedule) pick after)
  pub raced_once : length schedule ≤ r.outcome.picks → r.outcome.stop ≡ stop.Race → 1 ≤ r.outcome.records

-- the pick is one of eight threads
pub one_of_eight : (plan schedule : List ℕ) (pick : ℕ) (ws area : List ℕ) → Given plan ws (with_pick schedule pick) area → pick < 8
one_of_eight plan schedule pick ws area given =
    let h : get_or (with_pick schedule pick) (length schedule) 0 ≤ 7 = given.small (length schedule) (omega (arith, length-append schedule (pick ∷ []))) in
    omega (arith, h, get_or-append_seam schedule pick [] 0)

module _ (plan schedule : List ℕ) (pick : ℕ) (ws area : List ℕ) (given : Given plan ws (with_pick schedule pick) area)
    (r : Ran) (after : List ℕ) (ran : RunOn plan (with_pick schedule pick) area after r) where
  abbrev n : ℕ
  n = length schedule

  small : pick < 8
  small = one_of_eight plan schedule pick ws area given

  abbrev shorter : Run
  shorter = run_of plan schedule

  abbrev longer : Run
  longer = run_of plan (with_pick schedule pick)

  length_with : length (with_pick schedule pick) ≡ n + 1
  length_with = length-append schedule (pick ∷ [])

  -- all picks before the last
  before_is : r.outcome.picks ≡ n + 1 → picks_before r.outcome.picks (with_pick schedule pick) ≡ schedule
  before_is e =
      let k : min r.outcome.picks (length (with_pick schedule pick) - 1) ≡ n = omega (arith, e, length_with) in
      ap (λ (m : ℕ). take m (with_pick schedule pick)) k ∙ take_at schedule (pick ∷ []) n refl

  module _ (t : Run) (same : t ≡ longer) where
    stop_is : stop_of r.outcome.stop ≡ t.stop
    unfolding outcome_of run.outcome_of
    stop_is = ap (λ (o : run.Outcome). o.stop) ran.outcome ∙ ap (λ (y : Run). y.stop) (sym same)

    picks_are : r.outcome.picks ≡ t.picks
    unfolding outcome_of run.outcome_of
    picks_are = ap (λ (o : run.Outcome). o.picks) ran.outcome ∙ ap (λ (y : Run). y.picks) (sym same)

    moves_are : r.outcome.moves ≡ length (instances t)
    unfolding outcome_of run.outcome_of
    moves_are = ap (λ (o : run.Outcome). o.moves) ran.outcome ∙ ap (λ (y : Run). length (instances y)) (sym same)

    records_are : r.outcome.records ≡ length (log t)
    unfolding outcome_of run.outcome_of
    records_are = ap (λ (o : run.Outcome). o.records) ran.outcome ∙ ap (λ (y : Run). length (log y)) (sym same)

    moves_before : t.picks ≡ n + 1 → r.before.moves ≡ length (instances shorter)
    moves_before e = ran.moves_before ∙ ap (λ (ps : List ℕ). length (instances (run_of plan ps))) (before_is (picks_are ∙ e))

    records_before : t.picks ≡ n + 1 → r.before.records ≡ length (log shorter)
    records_before e = ran.records_before ∙ ap (λ (ps : List ℕ). length (log (run_of plan ps))) (before_is (picks_are ∙ e))

    -- the last record
    module _ (e : Record) (log_is : log t ≡ log shorter ++ (e ∷ [])) where
      abbrev i : ℕ
      i = r.outcome.records - 1

      last_index : r.outcome.records ≡ length (log shorter) + 1
      last_index = records_are ∙ ap (λ (l : List Record). length l) log_is ∙ length-append (log shorter) (e ∷ [])

      longer_log : log longer ≡ log shorter ++ (e ∷ [])
      longer_log = ap (λ (y : Run). log y) (sym same) ∙ log_is

      i_is : i ≡ length (log shorter)
      i_is = omega (arith, last_index)

      at : get_elem? (log longer) i ≡ some e
      at = ap (λ (l : List Record). get_elem? l i) longer_log ∙ ap (get_elem? (log shorter ++ (e ∷ []))) i_is ∙ last_of_lem (log shorter) e

      tidy : Tidy e
      unfolding run_of
      tidy = tidy_at (log longer) (tidy_play (program_of plan) (well_formed plan given.plan_passes) (with_pick schedule pick)).all_tidy i e at

      below : i < length (log longer)
      below = omega (arith, last_index, ap (λ (l : List Record). length l) longer_log, length-append (log shorter) (e ∷ []))

      last_is : record_of (last_record after r.outcome) ≡ e
      last_is = record_is (log longer) area after ran.area i e below at tidy

      last_bytes : BytesAsLogged (last_record after r.outcome)
      last_bytes = bytes_are (log longer) area after ran.area i e below at tidy

  -- the schedule dealt with every pick of its own
  all_dealt : shorter.stop ≡ run.Stop.end → shorter.picks ≡ n
  unfolding run_of play
  all_dealt h = all_dealt_with (program_of plan) start schedule h

  short : (shorter.stop ≡ run.Stop.end → ⊥) → shorter.picks < n
  unfolding run_of play
  short h = stopped_short (program_of plan) start schedule h

  -- where it did not stop, the rule instances and the log go on in those of a run from where it stands
  more_instances : (u : Run) → length (instances (and_then shorter u)) ≡ length (instances shorter) + length (instances u)
  more_instances u = ap length (instances_append shorter u) ∙ length-append (instances shorter) (instances u)

  more_log : (u : Run) → shorter.stop ≡ run.Stop.end → log (and_then shorter u) ≡ log shorter ++ log u
  unfolding run_of play
  more_log u h = log_append shorter u (none_lacked (program_of plan) start schedule h)

  -- the run of one pick, with these moves
  abbrev next : List MadeMove → State → Run
  next ms s = record { stop = run.Stop.end; picks = 1; moves = ms; lacked = none; final = s }

  -- by what the code finds
  found_as : (y : code.Preview) (x : Preview) → last_of r n pick after ≡ y → preview_of y ≡ x → LoggedAs y
      → (n ≤ r.outcome.picks → r.outcome.stop ≡ stop.Race → 1 ≤ r.outcome.records) → Found r schedule pick after x
  found_as y x e a l o = record { answer = ap preview_of e ∙ a; as_logged = along LoggedAs (sym e) l; raced_once = o }

  -- no race
  ended_once : r.outcome.stop ≡ stop.End → n ≤ r.outcome.picks → r.outcome.stop ≡ stop.Race → 1 ≤ r.outcome.records
  ended_once e h q = absurd (true≢false cc)

  full_once : (k : NoRoom) → r.outcome.stop ≡ stop.NoRoom k → n ≤ r.outcome.picks → r.outcome.stop ≡ stop.Race → 1 ≤ r.outcome.records
  full_once k e h q = absurd (true≢false cc)

  -- the pick was dealt with
  one_more_lem : shorter.stop ≡ run.Stop.end → shorter.picks + 1 ≡ n + 1
  one_more_lem h = omega (arith, all_dealt h)

  pub found : (x : Preview) (t : Run) → t ≡ longer → PlaysAs (program_of plan) pick shorter x t → Found r schedule pick after x
  unfolding preview_of instances log stopped
  found x t same (STOPPED h) =
      let few : r.outcome.picks < n = omega (arith, short h, picks_are _ same) in
      found_as _ _ (early r.outcome r.before.moves r.before.records n pick after few)
      (ap (λ (e : run.Stop). Preview.stopped e) (stop_is _ same)) tt (λ q e. absurd (omega arith))
  found x t same (PASSED {a} h p) =
      let e : r.outcome.stop ≡ stop.End = ended _ (stop_is _ same) in
      let None-more = more_instances (next [] shorter.final) in
      let m : r.outcome.moves ≡ r.before.moves = omega (arith, None-more, moves_are _ same, moves_before _ same (one_more_lem h)) in
      let y : status_of (get_or r.outcome.threads pick absent).state ≡ status a =
      status_of_lem (program_of plan) longer r.outcome ran.outcome pick small
      ∙ ap (λ (z : State). status (attempt (program_of plan) z pick)) (ap (λ (u : Run). u.final) (sym same))
      ∙ ap status (complete_passed (program_of plan) shorter.final pick p) in
      found_as _ _ (passed r.outcome r.before.moves r.before.records n pick after (omega (arith, picks_are _ same, one_more_lem h)) e m)
      (ap (λ (z : Status). Preview.passed z) y) tt (ended_once e)
  found x t same (MOVED {R} {e = none} {s'} h m k) =
      let e : r.outcome.stop ≡ stop.End = ended _ (stop_is _ same) in
      let u : Run = next (record { thread = pick; rule = R; entry = none } ∷ []) s' in
      let grown = more_instances u in
      let n : r.outcome.records ≡ r.before.records = records_are _ same ∙ ap length (more_log u h ∙ append-nil (log shorter))
      ∙ sym (records_before _ same (one_more_lem h)) in
      found_as _ _ (moved r.outcome r.before.moves r.before.records _ pick after (omega (arith, picks_are _ same, one_more_lem h)) e
      (λ q. omega (arith, q, grown, moves_are _ same, moves_before _ same (one_more_lem h))) n) refl tt (ended_once e)
  found x t same (MOVED {R} {e = some e} {s'} h m k) =
      let q : r.outcome.stop ≡ stop.End = ended _ (stop_is _ same) in
      let u : Run = next (record { thread = pick; rule = R; entry = some e } ∷ []) s' in
      let grown = more_instances u in
      let last = more_log u h in
      found_as _ _ (recorded r.outcome r.before.moves r.before.records n pick after (omega (arith, picks_are _ same, one_more_lem h)) q
      (λ q. omega (arith, q, grown, moves_are _ same, moves_before _ same (one_more_lem h)))
      (λ q. omega (arith, q, last_index _ same e last, records_before _ same (one_more_lem h))))
      (ap (λ (z : Record). Preview.moved (some z)) (last_is _ same e last))
      (last_bytes _ same e last) (ended_once q)
  found x t same (RACE {e} h l) =
      let last : log (stopped_next shorter run.Stop.race (some e)) ≡ log shorter ++ (e ∷ []) =
      ap log (stopped_next_lem shorter run.Stop.race (some e)) ∙ more_log (stopped run.Stop.race (some e) shorter.final) h in
      found_as _ _ (raced r.outcome r.before.moves r.before.records n pick after
      (omega (arith, picks_are _ same, all_dealt h)) (lacked _ (stop_is _ same)))
      (ap (λ (z : Record). Preview.race z) (last_is _ same e last))
      (last_bytes _ same e last) (λ q y. omega (arith, last_index _ same e last))
  found x t same (NO-ROOM {k = k} h m q) =
      let w = no_room_lem _ k (stop_is _ same) in
      found_as _ _ (full r.outcome r.before.moves r.before.records n pick after (omega (arith, picks_are _ same, all_dealt h)) w.0 w.1)
      (ap (λ (z : Room). Preview.no_room z) w.2) tt (full_once w.0 w.1)

  -- what the code answers
  pub shown_found : Found r schedule pick after (shown_after (program_of plan) shorter pick)
  unfolding run_of
  shown_found = found _ longer refl (preview_plays (program_of plan) (well_formed plan given.plan_passes) schedule pick)

  -- and what it asks for
  before_fewer : r.before.records ≤ r.outcome.records
  unfolding run_of play
  before_fewer =
      let k : ℕ = min r.outcome.picks (length (with_pick schedule pick) - 1) in
      let h : length (log (play (program_of plan) (take k (with_pick schedule pick)))) ≤ length (log (play (program_of plan) (with_pick schedule pick))) =
      along (λ (ps : List ℕ). length (log (play (program_of plan) (take k (with_pick schedule pick)))) ≤ length (log (play (program_of plan) ps)))
      (take-append-drop k (with_pick schedule pick))
      (records_grow (program_of plan) start (take k (with_pick schedule pick)) (drop k (with_pick schedule pick))) in
      omega (arith, h, ran.records_before, records_are longer refl)

  pub last_given : LastGiven r.outcome r.before.records n pick after
  last_given =
      record {
        one_of_eight = small;
        within = omega (arith, covers (log longer) area after ran.area, records_are longer refl);
        raced = shown_found.raced_once;
        grown = before_fewer;
      }

-- the picks that were written are the schedule's and the pick
pub written : {before picks after : List ℕ} {r : ℕ} → Wrote before 0 picks after r → take (r - 0) after ≡ picks
written {after = after} {r = r} w = ap (λ (k : ℕ). take k after) (sub-zero r) ∙ w.text
