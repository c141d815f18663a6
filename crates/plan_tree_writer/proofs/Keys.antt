-- A number that is one of a list's, or none of them. Assumes nothing.
use Prim.Native.Nat.{ℕ, ◌≤◌}
use native.Mathlib.Omega.{arith}
use mathlib.Core.Path.{◌≡◌, refl, sym, subst, ◌∙◌}
use mathlib.Core.Logic.{⊎_elim}
use mathlib.Core.Bool.{Bool, true, false}
use mathlib.Core.List.{List, [], ◌∷◌}
use lib.Dec.{T, eqb}
use mir.Val.{has_key}
use types.Run.{OneOf, hit}
use borrow.Author.Tests.{ne_eqb, eqb-false}
use Rattle.format.proofs.RefusalLaws.{neither}
use Rattle.format.proofs.Ranges.{NoneOf}
use Rattle.plan_tree_writer.specs.Inner.Left.{singles, pairs}

pub no_key : (js : List ℕ) (k : ℕ) → NoneOf k js → has_key js k ≡ false
no_key [] k n = refl
no_key (j ∷ js) k n = rw (ne_eqb j k (λ e. n.1 (sym e)), no_key js k n.0)

none_left : (js : List ℕ) (k : ℕ) → has_key js k ≡ false → NoneOf k js
none_left [] k h = tt
none_left (j ∷ js) k h = let p = neither (eqb j k) (has_key js k) h in (none_left js k p.1, λ e. eqb-false j k p.0 (sym e))

-- what a test said, of the number by another name
pub found : (js : List ℕ) (k j : ℕ) {r : Bool} → k ≡ j → r ≡ has_key js k → r ≡ true → OneOf js j
found js k j e h t = subst (OneOf js) e (hit js k (subst T (sym (sym h ∙ t)) tt))

pub missed : (js : List ℕ) (k j : ℕ) {r : Bool} → k ≡ j → r ≡ has_key js k → r ≡ false → NoneOf j js
missed js k j e h t = subst (λ (i : ℕ). NoneOf i js) e (none_left js k (sym h ∙ t))

pub single_tag : (k : ℕ) → OneOf singles k → k ≤ 20
single_tag k h =
    ⊎_elim (λ e. omega arith)
    (⊎_elim (λ e. omega arith) (⊎_elim (λ e. omega arith) (⊎_elim (λ e. omega arith) (⊎_elim (λ e. omega arith) (λ e. omega arith))))) h

pub pair_tag : (k : ℕ) → OneOf pairs k → k ≤ 20
pair_tag k h = ⊎_elim (λ e. omega arith) (⊎_elim (λ e. omega arith) (λ e. omega arith)) h
