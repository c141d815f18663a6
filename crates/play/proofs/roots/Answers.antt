use mathlib.Core.Path.{◌≡◌, refl, ◌∙◌}
use Prim.Native.Nat.{ℕ, ◌<◌}
use native.Mathlib.Omega.{arith}
use lib.ListN.{length, length-set}
use borrow.Author.Rules.{rules}
use Rattle.plan_packed.specs.Format.{root}
use Rattle.format.proofs.Filled.{filled}
use Rattle.play.proofs.roots.Goals as goal

pub loop-procedure-init : goal.loop-procedure-init
loop-procedure-init c = (refl, λ i q. absurd (omega arith))

pub loop-procedure-preserved : goal.loop-procedure-preserved
loop-procedure-preserved c =
    let l = c.loop-procedure in
    let n : l.procedure < length l.all = rw l.invariant.0 (omega arith) in (
      length-set l.all l.procedure _ ∙ l.invariant.0,
      filled {A = ℕ} l.all l.procedure c.root.result 0 (λ (p x : ℕ). x ≡ root c.args.plan.now p) n
          l.invariant.1 c.root.ensures,
    )

pub returns : goal.returns
returns c i q = let l = c.loop-procedure in l.invariant.1 i (omega arith)
