-- `Gap::length` meets its contract. Assumes nothing.
use native.Mathlib.Numerals.{add-one}
use lib.ListN.{length-replicate}
use Rattle.plan_pen.specs.Inner.Pens.{gap_bytes}
use Rattle.plan_pen.proofs.Gap.length.Goals as goal

pub returns-then-self : goal.returns-then-self
unfolding gap_bytes
returns-then-self c = simp (c.if-self.true, length-replicate, add-one)

pub returns : goal.returns
unfolding gap_bytes
returns c = simp (c.if-self.false, length-replicate)
