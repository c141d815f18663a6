use Rattle.log_records.specs.Packed.{record_count}
use Rattle.log_refusals.proofs.Fours.{four_more}
use mathlib.Core.Path.{refl, sym, ◌∙◌}
use native.Mathlib.Omega.{arith}
use Rattle.log_refusals.proofs.right_fours.Goals as goal

pub loop-index-init : goal.loop-index-init
loop-index-init c = (omega arith, refl, λ k h. absurd (omega arith))

pub four_wrong-requires : goal.four_wrong-requires
four_wrong-requires c = record { index_in = omega (arith, c.loop-index.invariant.1); least_value = c.requires.least_value; zero_value = c.requires.zero_value }

pub returns-then-four_wrong : goal.returns-then-four_wrong
unfolding record_count
returns-then-four_wrong c = let l = c.loop-index in record { within = omega (arith, l.invariant.1); right = l.invariant.2 }

pub loop-index-preserved : goal.loop-index-preserved
loop-index-preserved c =
    let l = c.loop-index in (omega arith, l.invariant.1, four_more _ _ l.invariant.2 (sym c.four_wrong.ensures ∙ c.if-four_wrong.false))

pub returns : goal.returns
unfolding record_count
returns c = let l = c.loop-index in record { within = omega (arith, l.invariant.1); right = l.invariant.2 }
