use mathlib.Core.Path.{◌≡◌, refl, ◌∙◌}
use Prim.Native.Nat.{ℕ, ◌<◌}
use native.Mathlib.Omega.{arith}
use lib.ListN.{length, length-set}
use Rattle.format.proofs.BitLaws.{shl_one}
use Rattle.format.proofs.Filled.{filled}
use Rattle.run_keys.specs.Keys.{singleton}
use Rattle.bound.proofs.settling.bits.Goals as goal

pub loop-procedure-init : goal.loop-procedure-init
loop-procedure-init c = record { each = λ q h. absurd (omega arith); size = refl }

pub loop-procedure-preserved : goal.loop-procedure-preserved
loop-procedure-preserved c =
    let l = c.loop-procedure in
    let b = l.invariant in
    let n : l.procedure < length l.all = rw b.size (omega arith) in
    record {
      each = filled {A = ℕ} l.all l.procedure _ 0 (λ (q x : ℕ). x ≡ singleton q) n b.each (shl_one l.procedure (omega arith));
      size = length-set l.all l.procedure _ ∙ b.size;
    }

pub returns : goal.returns
returns c = let l = c.loop-procedure in record { each = λ q h. l.invariant.each q (omega arith); size = l.invariant.size }
