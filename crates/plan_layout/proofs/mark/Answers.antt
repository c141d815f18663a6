-- `mark` meets its contract. Assumes nothing.
use Prim.Native.Nat.{ℕ, ◌+◌, ◌%◌}
use native.Mathlib.Omega.{arith}
use mathlib.Core.Path.{◌≡◌, sym, ap₂}
use mathlib.Core.Bool.{Bool}
use borrow.Author.Tests.{le-leb, lt-leb}
use Rattle.plan_layout.proofs.mark.Goals as goal

pub returns-then-gap : goal.returns-then-gap
returns-then-gap c =
    let e : (64 + c.args.gap.spaces) % 64 ≡ c.args.gap.spaces = omega (arith, c.requires) in
    ap₂ (λ (n : ℕ) (b : Bool). record { spaces = n; feed = b }) e (rw (le-leb 64 (64 + c.args.gap.spaces) (omega arith)) (sym c.if-gap.true))

pub returns : goal.returns
returns c =
    let e : c.args.gap.spaces % 64 ≡ c.args.gap.spaces = omega (arith, c.requires) in
    ap₂ (λ (n : ℕ) (b : Bool). record { spaces = n; feed = b }) e (rw (lt-leb 64 c.args.gap.spaces (omega (arith, c.requires))) (sym c.if-gap.false))
