-- `witness_text` meets its contract. Assumes nothing.
use Prim.Native.Nat.{ℕ, ◌-◌}
use native.Mathlib.Omega.{arith}
use mathlib.Core.Path.{sym, ap}
use lib.ListN.{length-take, length-replicate}
use Rattle.text_run_words.proofs.Witnessed.{refused_told, value_told}
use borrow.Author.Rules.{rules}
use Rattle.text_run_words.proofs.witness_text.Goals as goal

pub put_refusal-requires : goal.put_refusal-requires
put_refusal-requires c = omega (arith, c.requires)

pub slice_bounds-put_digit_line-end : goal.slice_bounds-put_digit_line-end
slice_bounds-put_digit_line-end c =
    let witness = c.witness-answered in
    let a = c.args in
    let k = c.in-Ok in
    let t = value_told a.plan.now a.schedule.now _ (length-replicate {A = ℕ} 4096 0) witness.result _ witness.ensures k.length k.is in
    omega (arith, t.0, witness.auto.area, length-replicate {A = ℕ} 4096 0)

pub put_digit_line-requires : goal.put_digit_line-requires
put_digit_line-requires c =
    let witness = c.witness-answered in
    let a = c.args in
    let k = c.in-Ok in
    let t = value_told a.plan.now a.schedule.now _ (length-replicate {A = ℕ} 4096 0) witness.result _ witness.ensures k.length k.is in
    omega (arith, t.0, length-take (k.length - 0) witness.new.area)

pub returns-in-Err : goal.returns-in-Err
returns-in-Err c =
    let witness = c.witness-answered in
    let a = c.args in
    let size = length-replicate {A = ℕ} 4096 0 in
    let t = refused_told a.plan.now a.schedule.now _ size witness.result _ witness.ensures _ c.in-Err.is in
    record { text = _; says = t; wrote = c.put_refusal.ensures }

pub returns-in-Ok : goal.returns-in-Ok
returns-in-Ok c =
    let put-digit-line = c.put_digit_line in
    let witness = c.witness-answered in
    let a = c.args in
    let k = c.in-Ok in
    let t = value_told a.plan.now a.schedule.now _ (length-replicate {A = ℕ} 4096 0) witness.result _ witness.ensures k.length k.is in
    record { text = _; says = t.1; wrote = put-digit-line.ensures }
