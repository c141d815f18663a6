use Rattle.log_records.specs.Packed.{record_count}
use Rattle.log_limits.proofs.Tables.{early_table, last_table}
use borrow.Author.Count.{below_more}
use lib.ListN.{length}
use native.Mathlib.Omega.{arith}
use mathlib.Core.Path.{sym, ◌∙◌}
use Prim.Native.Nat.{ℕ, ◌-◌, ◌/◌}
use Rattle.log_refusals.proofs.lowest_wrong.Goals as goal

pub returns-then-count-eq0 : goal.returns-then-count-eq0
unfolding record_count
returns-then-count-eq0 c = record { within = omega arith; here = λ h. absurd (omega arith); before = λ k h. absurd (omega arith) }

pub right_fours-tested-requires : goal.right_fours-tested-requires
right_fours-tested-requires c = record { least_value = c.least-early.ensures; zero_value = c.zero_bits-zero.ensures }

pub loop-index-init : goal.loop-index-init
loop-index-init c = c.right_fours-tested.ensures.right

pub wrong_record-requires : goal.wrong_record-requires
wrong_record-requires c =
    let n : ℕ = length c.args.log.now / 3 in
    let more = c.loop-index-test.true in
    record { index_in = omega arith; least_value = early_table _ c.loop-index.index n c.least-early.ensures (omega arith); zero_value = c.zero_bits-zero.ensures }

pub returns-then-wrong_record : goal.returns-then-wrong_record
unfolding record_count
returns-then-wrong_record c =
    record { within = omega arith; here = λ h. sym c.wrong_record.ensures ∙ c.if-wrong_record.true; before = c.loop-index.invariant }

pub loop-index-preserved : goal.loop-index-preserved
loop-index-preserved c = below_more _ _ c.loop-index.invariant (sym c.wrong_record.ensures ∙ c.if-wrong_record.false)

pub wrong_record-requires-2 : goal.wrong_record-requires-2
wrong_record-requires-2 c =
    let n : ℕ = length c.args.log.now / 3 in
    record { index_in = omega arith; least_value = last_table _ (n - 1) n c.least-last.ensures (omega arith); zero_value = c.zero_bits-zero.ensures }

pub returns-then-wrong_record-2 : goal.returns-then-wrong_record-2
unfolding record_count
returns-then-wrong_record-2 c = record {
  within = omega arith;
  here = λ h. sym c.wrong_record-2.ensures ∙ c.if-wrong_record-2.true;
  before = λ k h. c.loop-index.invariant k (omega arith);
}

pub returns : goal.returns
unfolding record_count
returns c =
    let right = below_more _ _ (λ k h. c.loop-index.invariant k (omega arith)) (sym c.wrong_record-2.ensures ∙ c.if-wrong_record-2.false) in
    record { within = omega arith; here = λ h. absurd (omega arith); before = λ k h. right k (omega arith) }
