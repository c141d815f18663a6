use Prim.Native.Nat.{ℕ, ◌-◌, ◌%◌, ◌≤◌, ◌<◌}
use native.Mathlib.Decide.{ℕ_discrete}
use native.Mathlib.Omega.{arith}
use mathlib.Core.Path.{◌≡◌, ap, subst as along}
use mathlib.Core.List.{List}
use lib.ListN.{get_or}
use borrow.Author.Rules.{rules}
use Rattle.run_place_notes.proofs.last_departure.Goals as goal

-- one note more without a higher thread
from_here : (notes : List ℕ) (count place : ℕ) → ((i : ℕ) → place ≤ i → i < count → 8 ≤ get_or notes i 0 % 16) → 8 ≤ get_or notes (place - 1) 0 % 16
    → (i : ℕ) → place - 1 ≤ i → i < count → 8 ≤ get_or notes i 0 % 16
from_here notes count place later here i h b = by (ℕ_discrete (place - 1) i)
  where
    by : Dec (place - 1 ≡ i) → 8 ≤ get_or notes i 0 % 16
    by (yes e) = along (λ (j : ℕ). 8 ≤ get_or notes j 0 % 16) e here
    by (no e) = later i (omega (arith, h, e)) b

pub loop-place-init : goal.loop-place-init
loop-place-init c i a b = absurd (omega arith)

pub returns-then-pick-lt8 : goal.returns-then-pick-lt8
returns-then-pick-lt8 c =
    record {
      inside = omega arith;
      here = ap (λ (x : ℕ). x % 16) c.wide-pick.ensures.0;
      of_eight = c.if-pick-lt8.true;
      last = λ i a b. c.loop-place.invariant i (omega arith) b;
    }

pub loop-place-preserved : goal.loop-place-preserved
loop-place-preserved c =
    let a = c.args in
    let e : 8 ≤ get_or a.notes.now (c.loop-place.place - 1) 0 % 16 = along (λ (x : ℕ). 8 ≤ x % 16) c.wide-pick.ensures.0 c.if-pick-lt8.false in
    from_here a.notes.now a.count c.loop-place.place c.loop-place.invariant e

pub returns : goal.returns
returns c i b = c.loop-place.invariant i (omega arith) b
