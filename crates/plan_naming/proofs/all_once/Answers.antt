use mathlib.Core.Path.{◌≡◌, refl, ap, sym, ◌∙◌}
use mathlib.Core.Bool.{Bool, true, false, ◌&&◌, not, false≢true}
use mathlib.Core.List.{List}
use Prim.Native.Nat.{ℕ, ◌+◌, ◌<◌}
use native.Mathlib.Omega.{arith}
use lib.Dec.{eqb}
use lib.ListN.{get_or, take}
use borrow.Author.Count.{below_more}
use Rattle.std.proofs.lemmas.List.{length-take-le, get_or-take}
use Rattle.plan_packed.specs.Inner.Steps.{not_once}
use Rattle.plan_naming.proofs.all_once.Goals as goal

both : (a b : Bool) → (a && b) ≡ true → (a ≡ true) × (b ≡ true)
both true b h = (refl, h)
both false b h = absurd (false≢true h)

-- one more of the first n terms is counted once
more : (times : List ℕ) (n i : ℕ) (once : Bool) → i < n → (once ≡ true → (k : ℕ) → k < i → not_once times k ≡ false)
    → (once && eqb (get_or (take n times) i 0) 1) ≡ true → (k : ℕ) → k < i + 1 → not_once times k ≡ false
unfolding not_once
more times n i once h before e =
    let e' = both once (eqb (get_or (take n times) i 0) 1) e in
    let same : get_or (take n times) i 0 ≡ get_or times i 0 = get_or-take n times i 0 h in
    below_more _ _ (before e'.0) (ap (λ (x : ℕ). not (eqb x 1)) (sym same) ∙ ap not e'.1)

pub loop-named-preserved : goal.loop-named-preserved
loop-named-preserved c =
    let a = c.args in
    let l = c.loop-named in
    let h : l.named-index < a.count = omega (arith, length-take-le a.count a.times.now (omega arith)) in
    more a.times.now a.count l.named-index l.once h l.invariant
