-- What the tools of document 02 answer is small: a value of 32 bits, or a refusal's number and place. Assumes nothing.
use Prim.Native.Nat.{ℕ, ◌+◌, ◌*◌, ◌≤◌, ◌<◌, ◌^◌}
use native.Mathlib.Omega.{arith}
use mathlib.Core.Path.{◌≡◌, refl, sym, ap, ◌∙◌}
use mathlib.Core.Bool.{Bool}
use mathlib.Core.List.{List, [], ◌∷◌}
use mathlib.Core.Option.{Option, some, none}
use lib.ListN.{length}
use Rattle.format.specs.Refusal.{Refusal, check_whole, first_refusal}
use Rattle.format.proofs.RefusalLaws.{both_none}
use Rattle.log_records.specs.Refusals.{log_refusal}
use Rattle.log_records.proofs.Accepted.{accepted}
use Rattle.plan_refusals.specs.Inner.Small.{SmallCheck}
use Rattle.plan_refusals.proofs.Bounds.{small_checks, small_stages}
use Rattle.answers.specs.Answer.{answer_by}
use Rattle.abi_convention.specs.Inner.Small.{SmallAnswer}
use Rattle.abi_convention.proofs.Wider.{wider}
use Rattle.waveform.specs.Comtrade.{file_of, short_output, comtrade_refusal, comtrade_answer}
use Rattle.waveform.proofs.Answers.{last, stages}
use Rattle.waveform.proofs.FileLength.{file_most}
use Rattle.plan_packed.specs.Trees.{program_of}
use Rattle.plan_packed.proofs.Decoded.{well_formed}
use Rattle.rules.specs.Run.{outcome_of, instances}
use Rattle.rules.specs.Play.{schedule_refusal, run_of}
use Rattle.rules.proofs.Executed.{play_executes}
use Rattle.run_refusals.proofs.Passed.{scheduled}
use Rattle.play.proofs.Moves.{few}
use Rattle.charge.specs.Charge.{price_by, charge_of, charged}
use Rattle.charge.proofs.Prices.{price_small}
use Rattle.plan_packed.specs.Format.{plan_length}
use Rattle.plan_packed.specs.Check.{refusal}
use Rattle.plan_packed.proofs.Passing.{length_of_lem, all_right}
use Rattle.plan_written.specs.Written.{written_plan}
use Rattle.plan_written.proofs.OneWay.{same_length}
use Rattle.canonical.specs.Canonical.{canonical_refusal, canonical_answer}
use Rattle.canonical.proofs.Chain.{output_checks, passes_both}
use Rattle.canonical.proofs.Chain as chain
use Rattle.costs.specs.Cost.{total}
use Rattle.costs.specs.Bound.{bound_refusal, bounded}
use Rattle.costs.proofs.Plans.{later_checks, bound_stages, totalled}
use Rattle.ruqzhemil.proofs.Refusals.{whole, few_procedures, few_terms, small_plan, small_log, small_schedule}

small_answer : (o : Option Refusal) (n : ℕ) → SmallCheck o → (o ≡ none → n < 2 ^ 32) → SmallAnswer (answer_by o n)
unfolding answer_by
small_answer none n s h = h refl
small_answer (some r) n s h = wider s

-- cents are few, as the moves are
pub small_charge : (plan schedule : List ℕ) (option : Bool) → SmallAnswer (charged plan schedule option)
unfolding charged charge_of outcome_of run_of
small_charge plan schedule option = small_answer (schedule_refusal plan schedule) _ (small_schedule plan schedule) few_cents
  where
    few_cents : schedule_refusal plan schedule ≡ none → price_by option (run_of plan schedule).stop (length (instances (run_of plan schedule))) < 2 ^ 32
    few_cents e =
        let s = scheduled plan schedule e in
        let m = (few (play_executes (program_of plan) (well_formed plan s.plan_passes) schedule)).1 in
        omega (arith, price_small option (run_of plan schedule).stop (length (instances (run_of plan schedule))) (omega (arith, s.few, m)))

pub small_comtrade : (log area : List ℕ) → SmallAnswer (comtrade_answer log area)
unfolding comtrade_answer
small_comtrade log area = small_answer (comtrade_refusal log area) (length (file_of log)) small few
  where
    small : SmallCheck (comtrade_refusal log area)
    small =
        rw (stages log area)
        (small_stages (log_refusal log) (last log area (short_output log area)) (small_log log)
        (small_checks (check_whole 24 (short_output log area) ∷ []) ((omega arith, omega arith), tt)))

    few : comtrade_refusal log area ≡ none → length (file_of log) < 2 ^ 32
    few e =
        let passed = (both_none (log_refusal log) (last log area (short_output log area)) (sym (stages log area) ∙ e)).0 in
        omega (arith, file_most log (accepted log passed).length_most)

few_by : (n p t : ℕ) → n ≡ 8 + 2 * p + 5 * t → p ≤ 4096 → t ≤ 4096 → n < 2 ^ 32
few_by n p t e few many = omega arith

pub few_bytes : (plan : List ℕ) → refusal plan ≡ none → length plan < 2 ^ 32
unfolding plan_length
few_bytes plan e = few_by _ _ _ (length_of_lem plan (all_right plan e).six.right₁) (few_procedures plan) (few_terms plan)

pub small_canonical : (plan area : List ℕ) → SmallAnswer (canonical_answer plan area)
unfolding canonical_answer
small_canonical plan area = small_answer (canonical_refusal plan area) (length (written_plan plan)) small few
  where
    small : SmallCheck (canonical_refusal plan area)
    small =
        rw (chain.stages plan area)
        (small_stages (refusal plan) (first_refusal (output_checks plan area)) (small_plan plan)
        (small_checks (output_checks plan area) ((omega arith, omega arith), tt)))

    few : canonical_refusal plan area ≡ none → length (written_plan plan) < 2 ^ 32
    few e = let passed = (passes_both plan area e).0 in omega (arith, same_length plan passed, few_bytes plan passed)

pub small_bound : (plan : List ℕ) → SmallAnswer (bounded plan)
unfolding bounded answer_by
small_bound plan = small_answer (bound_refusal plan) (total (program_of plan)) small few
  where
    small : SmallCheck (bound_refusal plan)
    small =
        rw (bound_stages plan)
        (small_stages (refusal plan) (first_refusal (later_checks plan)) (small_plan plan)
        (small_checks (later_checks plan) (whole 21 (omega arith), (whole 22 (omega arith), (whole 23 (omega arith), tt)))))

    few : bound_refusal plan ≡ none → total (program_of plan) < 2 ^ 32
    few e = omega (arith, (totalled plan (total (program_of plan)) (ap (λ (o : Option Refusal). answer_by o (total (program_of plan))) e)).most)
