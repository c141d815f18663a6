-- The number and the place of a plan's, a schedule's, a play's and a log's refusal are small. Assumes nothing.
use Prim.Native.Nat.{ℕ, ◌<◌, ◌≤◌}
use native.Mathlib.Omega.{arith}
use mathlib.Core.Path.{◌≡◌, sym}
use mathlib.Core.List.{List, [], ◌∷◌}
use lib.ListN.{length}
use borrow.Author.Tests.{ltb-false}
use Rattle.format.specs.Refusal.{Refusal, check, check_whole}
use Rattle.format.proofs.BitLaws.{bits_below}
use Rattle.format.proofs.RefusalLaws.{First, here, later}
use Rattle.plan_refusals.specs.Inner.Small.{Small, SmallRefusal, SmallCheck}
use Rattle.plan_refusals.proofs.Bounds.{small_by, small_checks, small_stages}
use Rattle.plan_packed.specs.Format.{procedures, terms}
use Rattle.plan_packed.specs.Check.{checks, refusal}
use Rattle.log_records.specs.Packed.{record_count}
use Rattle.log_records.specs.Refusals.{wrong_log_length, wrong_record, log_checks, log_refusal}
use Rattle.log_records.proofs.Accepted.{right_length}
use Rattle.rules.specs.Play.{too_many_picks, schedule_refusal, play_refusal}
use Rattle.run_schedule_refusals.specs.Inner.Checks.{pick_checks, area_checks}
use Rattle.run_refusals.proofs.RefusalChain.{schedule_stages, play_stages}

-- a check with the one place 0
pub whole : (k : ℕ) → k ≤ 24 → Small k 1
whole k h = (h, omega arith)

-- ---- of a plan

pub few_procedures : (b : List ℕ) → procedures b ≤ 4096
unfolding procedures
few_procedures b = let h : procedures b < 64 = bits_below b 4 6 in omega arith

pub few_terms : (b : List ℕ) → terms b ≤ 4096
unfolding terms
few_terms b = let h : terms b < 4096 = bits_below b 10 12 in omega arith

pub small_plan : (b : List ℕ) → SmallCheck (refusal b)
unfolding refusal checks
small_plan b =
    let t = few_terms b in
    let p = few_procedures b in
    small_checks (checks b)
    (whole 1 (omega arith), (whole 2 (omega arith), ((omega arith, p), ((omega arith, t), ((omega arith, t), ((omega arith, t), ((omega arith, p), tt)))))))

-- ---- of a play

small_picks : (schedule : List ℕ) (r : Refusal) → First (pick_checks schedule) r → SmallRefusal r
unfolding too_many_picks
small_picks schedule _ (here h) = (omega arith, let i = h.inside in omega arith)
small_picks schedule _ (later p (here h)) =
    let n : length schedule ≤ 4096 = ltb-false 4096 (length schedule) (p.right 0 (omega arith)) in
    (omega arith, let i = h.inside in omega arith)
small_picks schedule r (later p (later _ x12)) = elim x12 [ ]

pub small_schedule : (plan schedule : List ℕ) → SmallCheck (schedule_refusal plan schedule)
small_schedule plan schedule = rw (schedule_stages plan schedule) (small_stages _ _ (small_plan plan) (small_by (pick_checks schedule) (small_picks schedule)))

pub small_play : (plan schedule area : List ℕ) → SmallCheck (play_refusal plan schedule area)
small_play plan schedule area =
    rw (play_stages plan schedule area) (small_stages _ _ (small_schedule plan schedule) (small_checks (area_checks schedule area) (whole 10 (omega arith), tt)))

-- ---- of a log

small_records : (b : List ℕ) (r : Refusal) → First (check_whole 11 (wrong_log_length b) ∷ check 12 (record_count b) (wrong_record b) ∷ []) r → SmallRefusal r
small_records b _ (here h) = (omega arith, let i = h.inside in omega arith)
small_records b _ (later p (here h)) = let n = right_length b (p.right 0 (omega arith)) in (omega arith, let i = h.inside in omega arith)
small_records b r (later p (later _ x12)) = elim x12 [ ]

pub small_log : (b : List ℕ) → SmallCheck (log_refusal b)
unfolding log_refusal log_checks
small_log b = small_by (log_checks b) (small_records b)
