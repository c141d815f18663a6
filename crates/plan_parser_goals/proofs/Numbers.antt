-- The goals, the reasons and the values of numbers. Assumes nothing.
use Prim.Native.Nat.{ℕ, zero, suc, ◌+◌, ◌-◌, ◌*◌, ◌/◌, ◌%◌, ◌≤◌, ◌<◌}
use native.Mathlib.Omega.{arith}
use mathlib.Core.Path.{◌≡◌, refl}
use mathlib.Core.Bool.{true, false}
use mathlib.Core.List.{List, [], ◌∷◌}
use borrow.Author.Tests.{lt-ltb, le-ltb, ne_eqb}
use Rattle.plan_parsing.specs.Goals.{Sort, either, expression, Goal, expect, operand, more, make, binder, fields, procedure, further, count, Value, number}
use Rattle.plan_parsing.specs.Goals.{of_expression, of_condition, of_arguments}
use Rattle.plan_parsing.specs.Parser.{Reason, wanted, is_expression, is_condition, takes_condition, fits, inside}
use Rattle.plan_parser_goals.specs.Inner.Encoded.{sort_of, goal_of, reason_of, stacked, value_sort}
use Rattle.plan_parser_goals.specs.Inner.Moves.{pushed}

-- ---- goals by the ranges of their numbers

module _ (c : ℕ) where
  pub expect_goal : c < 128 → goal_of c ≡ expect c
  unfolding goal_of
  expect_goal h = rw (lt-ltb c 128 h)

  pub make_goal : 128 ≤ c → c < 160 → goal_of c ≡ make (c - 128)
  unfolding goal_of
  make_goal h k = rw (le-ltb c 128 h, lt-ltb c 160 k)

  pub operand_goal : 160 ≤ c → c < 176 → goal_of c ≡ operand ((c - 160) / 3) (sort_of ((c - 160) % 3))
  unfolding goal_of
  operand_goal h k = rw (le-ltb c 128 (omega arith), le-ltb c 160 h, lt-ltb c 176 k)

  pub more_goal : 176 ≤ c → c < 192 → goal_of c ≡ more ((c - 176) / 3) (sort_of ((c - 176) % 3))
  unfolding goal_of
  more_goal h k = rw (le-ltb c 128 (omega arith), le-ltb c 160 (omega arith), le-ltb c 176 h, lt-ltb c 192 k)

  pub binder_goal : c ≡ 192 → goal_of c ≡ binder
  unfolding goal_of
  binder_goal e = rw e

  pub procedure_goal : c ≡ 193 → goal_of c ≡ procedure
  unfolding goal_of
  procedure_goal e = rw e

  pub count_goal : 194 ≤ c → c < 256 → goal_of c ≡ count
  unfolding goal_of
  count_goal h k =
      rw (
        le-ltb c 128 (omega arith),
        le-ltb c 160 (omega arith),
        le-ltb c 176 (omega arith),
        le-ltb c 192 (omega arith),
        ne_eqb c 192 (λ e. omega arith),
        ne_eqb c 193 (λ e. omega arith),
        lt-ltb c 256 k,
      )

  pub fields_goal : 256 ≤ c → c < 640 → goal_of c ≡ fields ((c - 256) / 32) ((c - 256) % 32)
  unfolding goal_of
  fields_goal h k =
      rw (
        le-ltb c 128 (omega arith),
        le-ltb c 160 (omega arith),
        le-ltb c 176 (omega arith),
        le-ltb c 192 (omega arith),
        ne_eqb c 192 (λ e. omega arith),
        ne_eqb c 193 (λ e. omega arith),
        le-ltb c 256 (omega arith),
        lt-ltb c 640 k,
      )

  pub further_goal : 640 ≤ c → goal_of c ≡ further (c - 640)
  unfolding goal_of
  further_goal h =
      rw (
        le-ltb c 128 (omega arith),
        le-ltb c 160 (omega arith),
        le-ltb c 176 (omega arith),
        le-ltb c 192 (omega arith),
        ne_eqb c 192 (λ e. omega arith),
        ne_eqb c 193 (λ e. omega arith),
        le-ltb c 256 (omega arith),
        le-ltb c 640 h,
      )

  -- what may follow an operand
  pub more_above : 160 ≤ c → c < 176 → goal_of (c + 16) ≡ more ((c - 160) / 3) (sort_of ((c - 160) % 3))
  unfolding goal_of
  more_above h k =
      let e : c + 16 - 176 ≡ c - 160 = omega arith in
      rw (le-ltb (c + 16) 128 (omega arith), le-ltb (c + 16) 160 (omega arith), le-ltb (c + 16) 176 (omega arith), lt-ltb (c + 16) 192 (omega arith), e)

  pub reason_goal : c < 1000 → reason_of c ≡ wanted (goal_of c)
  unfolding reason_of
  reason_goal h = rw (ne_eqb c 1000 (λ e. omega arith), ne_eqb c 1001 (λ e. omega arith), ne_eqb c 1002 (λ e. omega arith))

-- ---- on the stacks

pub stacked_some : (c : ℕ) (g : Goal) (gs : List Goal) → 0 < c → goal_of c ≡ g → stacked c gs ≡ g ∷ gs
unfolding stacked
stacked_some c g gs h e = rw (ne_eqb c 0 (λ d. omega arith), e)

pub pushed_some : (v n : ℕ) (vs : List Value) → v ≡ 1024 + n → pushed v vs ≡ number n ∷ vs
unfolding pushed
pushed_some v n vs e = let d : v - 1024 ≡ n = omega arith in rw (ne_eqb v 0 (λ q. omega arith), d)

-- ---- sorts

pub expression_is : (v : Value) → value_sort v ≡ 1 → (is_expression v ≡ true) × (is_condition v ≡ false)
unfolding value_sort is_expression is_condition
expression_is (number n) e = absurd (omega arith)
expression_is (of_expression x) e = (refl, refl)
expression_is (of_condition x) e = absurd (omega arith)
expression_is (of_arguments x) e = absurd (omega arith)

pub condition_is : (v : Value) → value_sort v ≡ 2 → (is_expression v ≡ false) × (is_condition v ≡ true)
unfolding value_sort is_expression is_condition
condition_is (number n) e = absurd (omega arith)
condition_is (of_expression x) e = absurd (omega arith)
condition_is (of_condition x) e = (refl, refl)
condition_is (of_arguments x) e = absurd (omega arith)

pub neither_is : (v : Value) → (value_sort v ≡ 1 → ⊥) → (value_sort v ≡ 2 → ⊥) → (is_expression v ≡ false) × (is_condition v ≡ false)
unfolding value_sort is_expression is_condition
neither_is (number n) d e = (refl, refl)
neither_is (of_expression x) d e = absurd (d refl)
neither_is (of_condition x) d e = absurd (e refl)
neither_is (of_arguments x) d e = (refl, refl)

pub takes : (x : ℕ) → (x ≡ 1 → ⊥) → takes_condition (sort_of x) ≡ true
unfolding takes_condition sort_of
takes zero d = refl
takes (suc zero) d = absurd (d refl)
takes (suc (suc x)) d = refl

pub takes_not : (x : ℕ) → x ≡ 1 → takes_condition (sort_of x) ≡ false
unfolding takes_condition sort_of
takes_not x e = rw e

pub inside_expression : (x : ℕ) → x ≡ 1 → inside (sort_of x) ≡ expression
unfolding inside sort_of
inside_expression x e = rw e

pub inside_either : (x : ℕ) → (x ≡ 1 → ⊥) → inside (sort_of x) ≡ either
unfolding inside sort_of
inside_either zero d = refl
inside_either (suc zero) d = absurd (d refl)
inside_either (suc (suc x)) d = refl

-- a term is of the sort that is asked for, or not
pub fits_either : (x : ℕ) (v : Value) → x ≡ 0 → 1 ≤ value_sort v → value_sort v ≤ 2 → fits (sort_of x) v ≡ true
unfolding fits sort_of value_sort is_expression is_condition
fits_either x (number n) e h k = absurd (omega arith)
fits_either x (of_expression y) e h k = rw e
fits_either x (of_condition y) e h k = rw e
fits_either x (of_arguments y) e h k = absurd (omega arith)

pub fits_same : (x : ℕ) (v : Value) → x ≡ value_sort v → 1 ≤ value_sort v → value_sort v ≤ 2 → fits (sort_of x) v ≡ true
unfolding fits sort_of value_sort is_expression is_condition
fits_same x (number n) e h k = absurd (omega arith)
fits_same x (of_expression y) e h k = rw e
fits_same x (of_condition y) e h k = rw e
fits_same x (of_arguments y) e h k = absurd (omega arith)

pub fits_not : (x : ℕ) (v : Value) → x < 3 → (x ≡ 0 → ⊥) → (x ≡ value_sort v → ⊥) → fits (sort_of x) v ≡ false
unfolding fits sort_of value_sort is_expression is_condition
fits_not zero v l d e = absurd (d refl)
fits_not (suc zero) (number n) l d e = refl
fits_not (suc zero) (of_expression y) l d e = absurd (e refl)
fits_not (suc zero) (of_condition y) l d e = refl
fits_not (suc zero) (of_arguments y) l d e = refl
fits_not (suc (suc zero)) (number n) l d e = refl
fits_not (suc (suc zero)) (of_expression y) l d e = refl
fits_not (suc (suc zero)) (of_condition y) l d e = absurd (e refl)
fits_not (suc (suc zero)) (of_arguments y) l d e = refl
fits_not (suc (suc (suc x))) v l d e = absurd (omega arith)

pub fits_neither : (x : ℕ) (v : Value) → (value_sort v ≡ 1 → ⊥) → (value_sort v ≡ 2 → ⊥) → fits (sort_of x) v ≡ false
unfolding fits sort_of value_sort is_expression is_condition
fits_neither x (of_expression y) d e = absurd (d refl)
fits_neither x (of_condition y) d e = absurd (e refl)
fits_neither zero (number n) d e = refl
fits_neither (suc zero) (number n) d e = refl
fits_neither (suc (suc x)) (number n) d e = refl
fits_neither zero (of_arguments y) d e = refl
fits_neither (suc zero) (of_arguments y) d e = refl
fits_neither (suc (suc x)) (of_arguments y) d e = refl
