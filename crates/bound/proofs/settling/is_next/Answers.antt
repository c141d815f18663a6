-- `is_next`: by the procedure's bit, and then by its calls'.
use Prim.Native.Nat.{◌/◌, ◌%◌, ◌^◌}
use native.Mathlib.Omega.{arith}
use borrow.Author.Tests.{eq-eqb, ne_eqb}
use Rattle.run_keys.specs.Keys.{holds, union, subset}
use Rattle.bound.proofs.settling.is_next.Goals as goal

pub returns-then-done-procedure-eq0 : goal.returns-then-done-procedure-eq0
unfolding holds subset union
returns-then-done-procedure-eq0 c =
    let t = c.if-done-procedure-eq0.true in
    rw (ne_eqb (c.args.done / 2 ^ c.args.procedure % 2) 1 (λ e. omega arith))

pub returns-else-done-procedure-eq0 : goal.returns-else-done-procedure-eq0
unfolding holds
returns-else-done-procedure-eq0 c =
    let t = c.if-done-procedure-eq0.false in
    rw (ne_eqb _ _ t, eq-eqb (c.args.done / 2 ^ c.args.procedure % 2) 1 (omega arith))
