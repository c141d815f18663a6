-- `interleavings_text` meets its contract. Assumes nothing.
use Prim.Native.Nat.{ℕ}
use native.Mathlib.Omega.{arith}
use lib.ListN.{length-replicate}
use Rattle.text_interleaving_lines.specs.Lines.{refuses}
use Rattle.text_interleaving_lines.proofs.Stepping.{first_refused_lem, first_begun}
use borrow.Author.Rules.{rules}
use Rattle.text_interleaving_lines.proofs.interleavings_text.Goals as goal

pub put_refusal-requires : goal.put_refusal-requires
put_refusal-requires c = omega (arith, c.requires)

pub put_list-requires : goal.put_list-requires
put_list-requires c =
    let k = c.in-Ok in
    let r = c.first_interleaving-first in
    let begun = first_begun c.args.plan.now c.args.n _ (omega (arith, length-replicate {A = ℕ} 64 0)) r.result _ r.ensures in
    (begun k.length k.is r.auto.area, omega (arith, c.requires))

pub returns-in-Err : goal.returns-in-Err
returns-in-Err c =
    let r = c.first_interleaving-first in
    let e = first_refused_lem c.args.plan.now c.args.n _ (omega (arith, length-replicate {A = ℕ} 64 0)) r.result _ r.ensures in
    record { text = _; says = refuses (e _ c.in-Err.is); wrote = c.put_refusal.ensures }
