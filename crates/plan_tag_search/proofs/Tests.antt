-- Whether a number at the front of a list passes a test. Assumes nothing.
use Prim.Native.Nat.{ℕ, zero, suc, ◌+◌, ◌≤◌}
use native.Mathlib.Omega.{arith}
use mathlib.Core.Path.{◌≡◌, refl, ap, ◌∙◌}
use mathlib.Core.Bool.{Bool, ◌||◌}
use mathlib.Core.List.{List}
use lib.ListN.{length, take, get_or}
use Rattle.std.specs.List.{list_any}
use Rattle.std.proofs.lemmas.List.Folds.{list_any_more}
use Rattle.plan_packed.specs.Refusals.{any_below}

pub any_taken : (test : ℕ → Bool) (xs : List ℕ) (n : ℕ) → n ≤ length xs
    → list_any test (take n xs) ≡ any_below n (λ t. test (get_or xs t 0))
unfolding any_below
any_taken test xs zero h = refl
any_taken test xs (suc n) h =
    let one : suc n ≡ n + 1 = omega arith in
    ap (λ (m : ℕ). list_any test (take m xs)) one
    ∙ list_any_more test xs n 0 h
    ∙ ap (λ (b : Bool). b || test (get_or xs n 0)) (any_taken test xs n (omega arith))
