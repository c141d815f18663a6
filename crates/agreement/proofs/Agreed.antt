-- Demand 3, whole: every run of every accepted plan over any list of at most 4,096 picks agrees with its log. Assumes nothing.
use Prim.Native.Nat.{ℕ, ◌-◌, ◌<◌, ◌≤◌}
use native.Mathlib.Omega.{arith}
use mathlib.Core.Path.{◌≡◌, refl, sym, ap, ◌∙◌, subst as along}
use mathlib.Core.Bool.{true≢false}
use mathlib.Core.List.{List}
use mathlib.Core.Logic.Iff
use mathlib.Core.Logic.{◌↔◌}
use mathlib.Core.Option.{Option, some, none}
use lib.Dec.{T}
use lib.ListN.{length}
use Rattle.format.specs.Version.{Version, version_of}
use Rattle.log_order.specs.Chains.{At, Unordered}
use Rattle.log_conflicts.specs.Judge.{Judged, named, Names, names_first, names_none, Answers, refuses, judges, AnswersTold, right_version}
use Rattle.log_conflicts.proofs.Told.{told_known}
use Rattle.log_order.proofs.Agree.{agree, lacking_plain}
use Rattle.log_order.proofs.Past.{at_within}
use Rattle.log_conflicts.proofs.FirstConflict.{unordered→conflicting}
use Rattle.plan_packed.specs.Syntax.{Program}
use Rattle.plan_packed.specs.Format.{version}
use Rattle.plan_packed.specs.Trees.{program_of}
use Rattle.plan_packed.specs.Check.{refusal}
use Rattle.plan_packed.proofs.WellFormed.{WellFormedProgram}
use Rattle.plan_packed.proofs.Accepted.{accepted}
use Rattle.plan_packed.proofs.Decoded.{well_formed}
use Rattle.log_records.specs.Record.{Record, is_plain, lacks_key}
use Rattle.log_records.specs.Packed.{bytes_of, log_of}
use Rattle.log_records.specs.Refusals.{log_refusal}
use Rattle.log_records.proofs.Tidy.{LacksLast}
use Rattle.log_records.proofs.RoundTrip.{log_of_bytes_of}
use Rattle.log_records.proofs.Accepted.{well_formed_log}
use Rattle.rules.specs.Run.{Stop, end, race, no_room, Run, play, log}
use Rattle.rules.specs.Play.{run_of}
use Rattle.rules.proofs.Executed.{play_executes}
use Rattle.rules.proofs.RunKeys.{kept_play}
use Rattle.rules.proofs.StateLaws.{there}
use Rattle.rules.proofs.TidyRuns.{TidyRun, tidy_play}
use Rattle.agreement.specs.Agreement.{NamedBy, Agreement}
use Rattle.agreement.proofs.LastRecord.{LastLacks, last_lacks, last_access, lacks_stopped, race_recorded}

-- ---- what a judge says of a log whose accesses unordered after the last write are the stop

module _ (v : Version) (r : Run) (n : LastLacks r.stop (log r))
    (exact : (j : ℕ) (x : Record) → At (log r) j x → T (is_plain x.kind) → T (lacks_key x.kind) ↔ Unordered v (log r) j) where
  named_by : (a : Option ℕ) → Names v (log r) a → (e : Stop) → LastLacks e (log r) → NamedBy e (length (log r)) a
  named_by a m end l = tt
  named_by a m (no_room k) l = tt
  named_by (some j) (names_first c low) race l = at_within (log r) j c.access c.at_j
  named_by none (names_none f) race l = last l.0
    where
      last : 0 < length (log r) → ⊥
      last b =
          let x = there (log r) (length (log r) - 1) (omega arith) in
          let k = (l.1 (length (log r) - 1) x.0 x.1).1 (omega arith) in
          f (length (log r) - 1) (unordered→conflicting ((exact (length (log r) - 1) x.0 x.1 (lacking_plain x.0.kind k)).0 k))

  -- of the log in bytes, which are read back and not refused
  judged_bytes : log_of (bytes_of (log r)) ≡ log r → log_refusal (bytes_of (log r)) ≡ none → (a : Judged) → Answers v (bytes_of (log r)) a
      → (x : Option ℕ) × (a ≡ named x) × NamedBy r.stop (length (log r)) x
  judged_bytes w c (Judged.refused x) (refuses e) = absurd (true≢false cc)
  judged_bytes w c (Judged.named a) (judges e m) = (a, refl, named_by a (along (λ (L : List Record). Names v L a) w m) r.stop n)

-- ---- runs

lacks_last : (r : Run) → LastLacks r.stop (log r) → LacksLast (log r)
lacks_last r n i x h k = ((lacks_stopped r n i x h).0 k).is_last

-- any well-formed program, any list of at most 4,096 picks, picks passed over included
pub play_agrees : (g : Program) → WellFormedProgram g → (ps : List ℕ) → length ps ≤ 4096 → Agreement g ps (play g ps)
play_agrees g P ps few =
    record {
      stops = λ j x h a. Iff.trans (Iff.symm (lacks_stopped r n j x h)) (exact j x h a);
      lacks = lacks_stopped r n;
      recorded = race_recorded r n;
      that_access = λ j x h st. last_access (play_executes g P ps) st.raced j x h st.is_last;
      as_written = written;
      not_refused = clean;
      judged = judged_bytes g.version r n exact written clean;
    }
  where
    r : Run
    r = play g ps

    n : LastLacks r.stop (log r)
    n = last_lacks (play_executes g P ps)

    tidy : TidyRun ps r
    tidy = tidy_play g P ps

    exact : (j : ℕ) (x : Record) → At (log r) j x → T (is_plain x.kind) → T (lacks_key x.kind) ↔ Unordered g.version (log r) j
    exact = agree g.version (log r) (kept_play g P ps).legal

    written : log_of (bytes_of (log r)) ≡ log r
    written = log_of_bytes_of (log r) tidy.all_tidy

    clean : log_refusal (bytes_of (log r)) ≡ none
    clean = let b = tidy.few in well_formed_log (log r) tidy.all_tidy (lacks_last r n) (omega arith)

-- ---- accepted plans

run_is : (plan schedule : List ℕ) → run_of plan schedule ≡ play (program_of plan) schedule
unfolding run_of
run_is plan schedule = refl

-- demand 3: any accepted plan, any list of at most 4,096 picks
pub agreement : (plan schedule : List ℕ) → refusal plan ≡ none → length schedule ≤ 4096 → Agreement (program_of plan) schedule (run_of plan schedule)
agreement plan schedule h few =
    along (Agreement (program_of plan) schedule) (sym (run_is plan schedule)) (play_agrees (program_of plan) (well_formed plan h) schedule few)

-- "what E7 says of runs holds where it is told the plan's version" (document 02, E8): of an accepted plan the judge takes the number of the version, and
-- answers for the program's version
pub told_plan : (plan b : List ℕ) (a : Judged) → refusal plan ≡ none → AnswersTold (version plan) b a ↔ Answers (program_of plan).version b a
unfolding program_of
told_plan plan b a h = let known = (accepted plan h).version_known in (told_known known, right_version known)

-- a run's log has at most one access that nothing orders after the last write
pub one_unordered : {g : Program} {ps : List ℕ} {r : Run} → Agreement g ps r → (i j : ℕ) → Unordered g.version (log r) i
    → Unordered g.version (log r) j → i ≡ j
one_unordered A i j u w =
    let a = ((A.stops i u.access u.at_j u.plain).1 u).is_last in
    let b = ((A.stops j w.access w.at_j w.plain).1 w).is_last in
    omega arith
