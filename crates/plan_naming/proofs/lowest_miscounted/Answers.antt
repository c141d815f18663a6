-- `lowest_miscounted`: the first of the terms that is counted otherwise than once. Assumes nothing.
use mathlib.Core.Path.{◌≡◌, ap, sym, ◌∙◌}
use mathlib.Core.Logic.{◌≢◌}
use mathlib.Core.Bool.{false, not}
use mathlib.Core.List.{List}
use Rattle.std.proofs.Common.{Option, None, Some}
use Prim.Native.Nat.{ℕ, ◌≤◌, ◌<◌}
use native.Mathlib.Omega.{arith}
use lib.Dec.{eqb}
use lib.ListN.{length, get_or, take}
use borrow.Author.Rules.{rules}
use borrow.Author.Tests.{eq-eqb, ne_eqb, tests}
use Rattle.std.specs.List.{AllWithin, HoldsAt}
use Rattle.std.specs.Option.{MatchOption, unwrap_or}
use Rattle.std.proofs.lemmas.Iterator.{IsFirst-from_position, YieldsList-from_slice}
use Rattle.std.proofs.lemmas.List.{length-take-le, get_or-take}
use Rattle.format.specs.Inner.Lowest.{Lowest}
use Rattle.format.proofs.LowestLaws.{found, found_none}
use Rattle.plan_packed.specs.Inner.Steps.{not_once}
use Rattle.plan_naming.proofs.lowest_miscounted.Goals as goal

-- of the first n terms, those below i are counted once
before : (times : List ℕ) (n i : ℕ) → i ≤ n → AllWithin (λ x. x ≡ 1) (take n times) 0 i → (k : ℕ) → k < i → not_once times k ≡ false
unfolding not_once
before times n i h all k q =
    let g : k < n = omega arith in
    let e : get_or times k 0 ≡ 1 = sym (get_or-take n times k 0 g) ∙ all k 0 (omega arith) q in
    ap not (eq-eqb (get_or times k 0) 1 e)

-- the first that is found, or the count
lowest : (times : List ℕ) (n : ℕ) (r : Option ℕ) → n ≤ length times
    → MatchOption r (AllWithin (λ x. x ≡ 1) (take n times) 0 (length (take n times)))
    (λ i. (i < length (take n times)) × HoldsAt (λ x. x ≢ 1) (take n times) i × AllWithin (λ x. x ≡ 1) (take n times) 0 i)
    → Lowest (not_once times) n (unwrap_or r n)
unfolding not_once
lowest times n None h m =
    let s : length (take n times) ≡ n = length-take-le n times h in
    found_none (not_once times) n n (omega arith) (omega arith) (before times n n (omega arith) (λ k d g q. m k d g (omega (arith, s))))
lowest times n (Some i) h m =
    let s : i < n = omega (arith, length-take-le n times h, m.0) in
    let same : get_or (take n times) i 0 ≡ get_or times i 0 = get_or-take n times i 0 s in
    found (not_once times) n i s (ap (λ (x : ℕ). not (eqb x 1)) (sym same) ∙ ap not (ne_eqb (get_or (take n times) i 0) 1 (m.1 0)))
    (before times n i (omega arith) m.2)

pub returns-then-all_once : goal.returns-then-all_once
returns-then-all_once c =
    let a = c.args in
    found_none (not_once a.times.now) a.count a.count (omega arith) (omega arith) (c.all_once.ensures c.if-all_once.true)

pub returns : goal.returns
returns c =
    let a = c.args in
    let first = IsFirst-from_position _ _ c.position.result (λ x. x ≢ 1) (λ x. x ≡ 1) c.position.ensures.ran
    (YieldsList-from_slice (take a.count a.times.now) cc)
    (λ x q k. search (rules, tests)) (λ x q k. search (rules, tests)) in
    rw c.unwrap_or.ensures (lowest a.times.now a.count c.position.result (omega arith) first)
