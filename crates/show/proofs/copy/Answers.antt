-- `copy` meets its contract. Assumes nothing.
use native.Mathlib.Omega.{arith}
use mathlib.Core.Path.{◌≡◌, refl, ap, ◌∙◌}
use mathlib.Core.Logic.{inl, inr}
use mathlib.Core.List.{◌++◌}
use Prim.Native.Nat.{ℕ}
use lib.ListN.{length, drop}
use Rattle.format.specs.Area.{overwrite}
use Rattle.text.proofs.Added.{added_whole}
use Rattle.std.specs.Prelude.{Err}
use Rattle.show.proofs.copy.Goals as goal

pub returns-then-area-text : goal.returns-then-area-text
returns-then-area-text c = inl (record { short = c.if-area-text.true; kept = refl; refused = ap Err c.at.ensures })

pub returns : goal.returns
unfolding overwrite
returns c =
    let w = c.put_word.ensures in
    let a = c.args.area.now in
    let t = c.args.text.now in
    let n : c.put_word.result ≡ length t = omega (arith, w.next) in
    inr (record {
      long = c.if-area-text.false;
      text = added_whole w ∙ ap (λ (k : ℕ). t ++ drop k a) n;
      answer = refl;
    })
