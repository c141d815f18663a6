-- The table of the forms, a form at a time. Assumes nothing.
use Prim.Native.Nat.{ℕ, zero, suc, ◌+◌, ◌*◌, ◌≤◌, ◌<◌}
use native.Mathlib.Omega.{arith}
use mathlib.Core.Path.{◌≡◌, refl}
use mathlib.Core.Bool.{true, false}
use mathlib.Core.List.{List, [], ◌∷◌}
use lib.ListN.{get_or}
use Rattle.format.proofs.Ranges.{by_range}
use Rattle.plan_parsing.specs.Goals.{forms}
use Rattle.plan_parser_goals.specs.Inner.Encoded.{goal_of, unpacked}
use Rattle.plan_parser_goals.specs.Inner.Moves.{PackedForm, form_at}

-- the goals of each form, as digits
abbrev pub form_goals : List ℕ
form_goals =
    140
    ∷ (141 + 1024 * 165)
    ∷ 128
    ∷ (130 + 1024 * (512 + 1024 * 62))
    ∷ (133 + 1024 * (161 + 1024 * (43 + 1024 * (161 + 1024 * (66 + 1024 * 192)))))
    ∷ (134 + 1024 * (161 + 1024 * (45 + 1024 * (161 + 1024 * (44 + 1024 * 162)))))
    ∷ (135 + 1024 * (161 + 1024 * (46 + 1024 * 162)))
    ∷ (136 + 1024 * 193)
    ∷ (137 + 1024 * 167)
    ∷ (138 + 1024 * 167)
    ∷ (139 + 1024 * (161 + 1024 * (46 + 1024 * 161)))
    ∷ (146 + 1024 * 167)
    ∷ (147 + 1024 * 167)
    ∷ (148 + 1024 * 167)
    ∷ []

abbrev pub form_bindings : List ℕ
form_bindings = 3 ∷ 1 ∷ 3 ∷ 3 ∷ 0 ∷ 0 ∷ 0 ∷ 3 ∷ 2 ∷ 2 ∷ 0 ∷ 2 ∷ 2 ∷ 2 ∷ []

abbrev Packed : ℕ → Type 0
Packed i = PackedForm i (get_or form_goals i 0) × (get_or form_goals i 0 < 1152921504606846976)

pub goals_at : (i : ℕ) → i < 14 → PackedForm i (get_or form_goals i 0) × (get_or form_goals i 0 < 1152921504606846976)
unfolding unpacked goal_of forms
goals_at =
    by_range Packed 0 14 ((i : ℕ) → i < 14 → Packed i) (λ all i h. all i (omega arith) (omega arith))
    (λ gs. refl, omega arith)
    (λ gs. refl, omega arith)
    (λ gs. refl, omega arith)
    (λ gs. refl, omega arith)
    (λ gs. refl, omega arith)
    (λ gs. refl, omega arith)
    (λ gs. refl, omega arith)
    (λ gs. refl, omega arith)
    (λ gs. refl, omega arith)
    (λ gs. refl, omega arith)
    (λ gs. refl, omega arith)
    (λ gs. refl, omega arith)
    (λ gs. refl, omega arith)
    (λ gs. refl, omega arith)

abbrev Bound : ℕ → Type 0
Bound i = get_or form_bindings i 0 ≡ (form_at i).binding

pub binding_at : (i : ℕ) → i < 14 → get_or form_bindings i 0 ≡ (form_at i).binding
unfolding forms
binding_at =
    by_range Bound 0 14 ((i : ℕ) → i < 14 → Bound i) (λ all i h. all i (omega arith) (omega arith))
    refl refl refl refl refl refl refl refl refl refl refl refl refl refl

-- only `true` and `not` are conditions
pub form_condition : (i : ℕ) → i ≤ 1 → (form_at i).is_condition ≡ true
unfolding forms
form_condition zero h = refl
form_condition (suc zero) h = refl
form_condition (suc (suc i)) h = absurd (omega arith)

abbrev NoCondition : ℕ → Type 0
NoCondition i = (form_at i).is_condition ≡ false

pub form_expression : (i : ℕ) → 1 < i → i < 14 → (form_at i).is_condition ≡ false
unfolding forms
form_expression =
    by_range NoCondition 2 12 ((i : ℕ) → 1 < i → i < 14 → NoCondition i) (λ all i h k. all i (omega arith) (omega arith))
    refl refl refl refl refl refl refl refl refl refl refl refl
