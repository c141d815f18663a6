-- `classes`: each number of the array is the class of its byte, in one computed test. Assumes nothing.
use Prim.Native.Nat.{ℕ}
use mathlib.Core.Path.{◌≡◌, refl, sym}
use mathlib.Core.Bool.{not}
use mathlib.Core.List.{List, [], ◌∷◌}
use mathlib.Core.Option.{Option, some, none, none-ne-some}
use lib.Dec.{eqb}
use lib.ListN.{get_or}
use Rattle.format.specs.Refusal.{lowest}
use Rattle.plan_notation.proofs.Tested.{equated}
use Rattle.plan_scanner.specs.Inner.Classes.{class_of, Classed}
use Rattle.plan_scanner.proofs.classes.classes.Goals as goal

-- the lowest byte with another number: by cases, so that the table is computed once and not for each byte
lowest_other : List ℕ → Option ℕ
lowest_other [] = some 0
lowest_other (x ∷ xs) = lowest (λ (c : ℕ). not (eqb (get_or (x ∷ xs) c 0) (class_of c))) 256

classed : (table : List ℕ) → lowest_other table ≡ none → Classed table
unfolding lowest_other Classed
classed [] e = absurd (none-ne-some 0 (sym e))
classed (x ∷ xs) e = equated _ class_of 256 e

pub returns : goal.returns
unfolding lowest_other class_of lowest
returns c = classed _ refl
