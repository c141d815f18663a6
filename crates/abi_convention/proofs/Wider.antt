-- A refusal with one of the papers' numbers is a refusal with a small number. Assumes nothing.
use Prim.Native.Nat.{ℕ}
use native.Mathlib.Omega.{arith}
use Rattle.plan_refusals.specs.Inner.Small.{Small}
use Rattle.abi_convention.specs.Inner.Small.{SmallNumber}

pub wider : {number place : ℕ} → Small number place → SmallNumber number place
wider h = (omega (arith, h.0), h.1)
