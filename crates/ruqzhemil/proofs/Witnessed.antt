-- What the tool `witness` answers is small: the length of a schedule, or a refusal's number and place. Assumes nothing.
use Prim.Native.Nat.{ℕ, ◌≤◌, ◌<◌, ◌^◌}
use native.Mathlib.Omega.{arith}
use mathlib.Core.Path.{subst}
use mathlib.Core.List.{List}
use lib.ListN.{length}
use Rattle.format.specs.Refusal.{first_refusal}
use Rattle.plan_refusals.specs.Inner.Small.{SmallCheck}
use Rattle.plan_refusals.proofs.Bounds.{small_checks, small_stages}
use Rattle.rules.specs.Play.{schedule_refusal}
use Rattle.run_refusals.proofs.Passed.{scheduled}
use Rattle.answers.specs.Answer.{Answer}
use Rattle.witness.specs.Witness.{race_refusal, Witnesses}
use Rattle.witness.proofs.Refusals.{later_checks, stages, no_earlier}
use Rattle.abi_convention.specs.Inner.Small.{SmallAnswer}
use Rattle.abi_convention.proofs.Wider.{wider}
use Rattle.ruqzhemil.proofs.Refusals.{whole, small_schedule}

few_picks : (n k : ℕ) → n ≤ 4096 → k < n → k < 2 ^ 32
few_picks n k h l = omega arith

module _ (plan schedule : List ℕ) where
  small_race : SmallCheck (race_refusal plan schedule)
  small_race =
      rw (stages plan schedule)
      (small_stages (schedule_refusal plan schedule) (first_refusal (later_checks plan schedule)) (small_schedule plan schedule)
      (small_checks (later_checks plan schedule) (whole 15 (omega arith), (whole 16 (omega arith), tt))))

  pub small_witness : {area : List ℕ} {a : Answer} {after : List ℕ} → Witnesses plan schedule area a after → SmallAnswer a
  small_witness (Witnesses.refused e) = wider (subst SmallCheck e small_race)
  small_witness (Witnesses.too_short e w l) = (omega arith, omega arith)
  small_witness (Witnesses.wrote {qs} e w s l) =
      few_picks (length schedule) (length qs) (scheduled plan schedule (no_earlier plan schedule e)).few s.no_longer
