-- From the moves that a run left in the log to the schedule that is written. Assumes nothing.
use Prim.Native.Nat.{ℕ, zero, suc, ◌*◌, ◌/◌, ◌-◌, ◌≤◌, ◌<◌}
use native.Mathlib.Omega.{arith}
use mathlib.Core.Path.{◌≡◌, refl, sym, ap, ◌∙◌, subst as along}
use mathlib.Core.Bool.{true, false}
use mathlib.Core.List.{List, [], ◌∷◌}
use mathlib.Core.Option.{some, none}
use lib.ListN.{length, get_or, get_elem?, take, replicate, length-replicate}
use Rattle.format.specs.Version.{v1}
use Rattle.format.specs.Area.{overwrite}
use Rattle.format.proofs.AreaLaws.{overwrite_first, overwrite_covers}
use Rattle.plan_packed.specs.Format.{terms}
use Rattle.plan_packed.specs.Trees.{program_of}
use Rattle.plan_packed.specs.Check.{refusal}
use Rattle.plan_packed.proofs.Decoded.{well_formed}
use Rattle.log_records.specs.Record.{Record}
use Rattle.log_records.specs.Packed.{bytes_of, log_of}
use Rattle.log_records.proofs.RoundTrip.{length_bytes, length_log, log_of_bytes_of}
use Rattle.log_order.specs.Chains.{Unordered}
use Rattle.rules.specs.Run.{Stop}
use Rattle.rules.specs.Play.{schedule_refusal, run_of}
use Rattle.run_refusals.proofs.Passed.{Scheduled, scheduled}
use types.Run.{OneOf, miss}
use denote.Enum.Declared.{tag_of}
use Rattle.run_outcome.specs.contracts.Stop as stop-type
use Rattle.run_outcome.specs.declared.Stop as code-stop
use Rattle.run_outcome.specs.declared.Stop.TheVariants as stop
use Rattle.play.specs.Answer.{stop_of}
use Rattle.play.specs.Inner.RunOn.{Given, MovesOn}
use Rattle.run_tally.specs.declared.Ran.{Ran}
use Rattle.answers.specs.Answer.{Answer}
use Rattle.side_by_side.specs.Moves.{moves_of}
use Rattle.side_by_side.specs.LeftOut.{left_out}
use Rattle.side_by_side.specs.SideBySide.{WrittenFrom, Written, SideBySide}
use Rattle.side_by_side.proofs.TidyMoves.{tidy_moves}
use Rattle.side_by_side.proofs.Written.{written_once}
use Rattle.side_by_side.proofs.Plans.{plan_from_race, plan_unordered}
use Rattle.log_schedule_writer.specs.Inner.Kept.{Small}
use Rattle.log_schedule_writer.specs.Inner.WritesFrom as writes
use Rattle.log_schedule_writer.specs.Inner.WritesFrom.{RacedIn, WritesFrom}
use Rattle.witness.specs.Witness.{no_missing_key, race_refusal, Witnesses, refused, too_short, wrote}
use Rattle.plan_left_out.specs.Inner.Loads.{Loads}
use Rattle.witness.specs.Inner.Passing.{Passing}
use Rattle.witness.proofs.Refusals.{by_16, by_none}

-- a stop that is no race
pub no_race : (s : code-stop.Stop) → OneOf (0 ∷ 2 ∷ []) (tag_of stop-type.the_type s) → no_missing_key (stop_of s) ≡ true
unfolding stop_of
no_race stop.End h = refl
no_race stop.Race h = absurd (miss (0 ∷ 2 ∷ []) 1 tt h)
no_race (stop.NoRoom k) h = refl

-- the log that the run is lent
abbrev pub inner_log : List ℕ
inner_log = replicate 12288 0

module _ {plan words schedule : List ℕ} (P : Passing plan words schedule) where
  abbrev L : List Record
  L = moves_of (program_of plan) schedule

  abbrev ok : refusal plan ≡ none
  ok = P.loads.passes

  pub given : Given plan words schedule inner_log
  given =
      let s = scheduled plan schedule P.scheduled in
      let n : length inner_log ≡ 12288 = length-replicate {A = ℕ} 12288 0 in
      record { plan_passes = ok; loaded = P.loads.loaded; few = s.few; small = s.small; wide = omega (arith, s.few, n) }

  few_moves : length L ≤ 4096
  few_moves = omega (arith, (tidy_moves (program_of plan) (well_formed plan ok) schedule).1, (scheduled plan schedule P.scheduled).few)

  -- ---- the log after the run

  module _ (after : List ℕ) (r : Ran) (ran : MovesOn plan schedule inner_log after r) where
    pub few_records : r.outcome.records ≤ 4096
    few_records = omega (arith, ran.records, few_moves)

    pub within : (n : ℕ) → n ≡ 3 * r.outcome.records → n ≤ length after
    within n e = omega (arith, ran.records, length_bytes L, ap length ran.area, overwrite_covers (bytes_of L) inner_log)

    pub begins : (n : ℕ) → n ≡ 3 * r.outcome.records → take (n - 0) after ≡ bytes_of L
    begins n e =
        let k : n - 0 ≡ length (bytes_of L) = omega (arith, ran.records, length_bytes L) in
        ap (λ (m : ℕ). take m after) k ∙ ap (take (length (bytes_of L))) ran.area ∙ overwrite_first (bytes_of L) inner_log

    -- ---- it did not race

    pub not_raced : no_missing_key (stop_of r.outcome.stop) ≡ true → (area : List ℕ)
        → Witnesses plan schedule area (Answer.refused (record { number = 16; place = 0 })) area
    not_raced e area = refused (by_16 plan schedule P.scheduled P.not_left_out (sym (ap no_missing_key ran.stop) ∙ e))

    -- ---- it did

    module _ (e : stop_of r.outcome.stop ≡ Stop.race) where
      raced : (run_of plan schedule).stop ≡ Stop.race
      raced = sym ran.stop ∙ e

      none_refuses : race_refusal plan schedule ≡ none
      none_refuses = by_none plan schedule P.scheduled P.not_left_out (ap no_missing_key raced)

      -- the bytes are those of the moves
      module _ (b : List ℕ) (q : b ≡ bytes_of L) where
        its_moves : log_of b ≡ L
        its_moves = ap log_of q ∙ log_of_bytes_of L (tidy_moves (program_of plan) (well_formed plan ok) schedule).0

        its_length : length b / 3 ≡ length L
        its_length = sym (length_log b) ∙ ap length its_moves

        small_so : (qs : List ℕ) → WrittenFrom (log_of b) qs → Small qs
        small_so qs w k =
            let x = plan_from_race plan ok P.not_left_out schedule raced in
            let same : x.0 ≡ qs = written_once L x.0 qs x.1 (along (λ (K : List Record). WrittenFrom K qs) its_moves w) in
            along (λ (l : List ℕ). get_or l k 0 < 8) same (small_at x.0 x.2.below_8 k)
          where
            small_at : (l : List ℕ) → ((i n : ℕ) → get_elem? l i ≡ some n → n < 8) → (k : ℕ) → get_or l k 0 < 8
            small_at [] h k = omega arith
            small_at (x ∷ l) h zero = h 0 x refl
            small_at (x ∷ l) h (suc k) = small_at l (λ i n e. h (suc i) n e) k

        pub raced_in : RacedIn b
        raced_in =
            let u = plan_unordered plan ok P.not_left_out schedule raced in
            record {
              few = omega (arith, its_length, few_moves);
              failing = u.0;
              at_end = u.1 ∙ sym its_length;
              unordered = along (λ (K : List Record). Unordered v1 K u.0) (sym its_moves) u.2;
              small = small_so;
            }

        -- what is written from the moves is E10's answer
        pub witnessed : {area : List ℕ} {x : Answer} {l : List ℕ} → WritesFrom b area x l → Witnesses plan schedule area x l
        witnessed (writes.too_short {qs} w h) = too_short none_refuses (along (λ (K : List Record). WrittenFrom K qs) its_moves w) h
        witnessed {area} (writes.wrote {qs} w h) =
            let x = plan_from_race plan ok P.not_left_out schedule raced in
            let same : x.0 ≡ qs = written_once L x.0 qs x.1 (along (λ (K : List Record). WrittenFrom K qs) its_moves w) in
            along (λ (l : List ℕ). Witnesses plan schedule area (Answer.value (length l)) (overwrite l area)) same
            (wrote none_refuses x.1 x.2 (along (λ (l : List ℕ). length l ≤ length area) (sym same) h))
