-- The arrays of goals and of values after a store. Assumes nothing.
use Prim.Native.Nat.{ℕ, zero, suc, ◌+◌, ◌-◌, ◌*◌, ◌/◌, ◌%◌, ◌≤◌, ◌<◌}
use native.Mathlib.Nat.{le_trans, mod-le, div-le_self}
use native.Mathlib.Numerals.{add-one}
use native.Mathlib.Decide.{dec_lt}
use native.Mathlib.Omega.{arith}
use mathlib.Core.Path.{◌≡◌, refl, sym, ap, ◌∙◌}
use mathlib.Core.Bool.{Bool, true, false, cond}
use mathlib.Core.List.{List, [], ◌∷◌, ◌++◌}
use lib.Dec.{ltb}
use lib.ListN.{length, get_or, set, drop, length-set}
use lib.Seq.{get_or-set_same, get_or-set_other, get_or-drop}
use borrow.Author.Tests.{eq-eqb, ne_eqb, lt-ltb, le-ltb}
use Rattle.plan_packed.specs.Inner.Operands.{tag_of}
use Rattle.plan_packed.specs.Inner.Steps.{tag_in, tree_in, list_in}
use Rattle.plan_packed.specs.Inner.Steps as array
use Rattle.plan_parsing.specs.Goals.{Goal, expect, number, of_expression, of_condition, of_arguments, number_in, value_at}
use Rattle.plan_parsing.specs.Plan.{procedure_goals}
use Rattle.plan_parser_goals.specs.Inner.Encoded.{goal_of, goals_of, stacked, value_of, term_value, values_of, value_sort}
use Rattle.plan_parser_goals.specs.Inner.Moves.{pushed}
use Rattle.plan_parser.specs.Inner.Stacks.{Stacked, Entries, Put, Looks, last_of, operand_at}
use Rattle.plan_parser_goals.proofs.Numbers.{expect_goal, stacked_some, pushed_some}

-- ---- goals

goals_frame : (goals : List ℕ) (i v n : ℕ) → n ≤ i → goals_of (set goals i v) n ≡ goals_of goals n
unfolding goals_of
goals_frame goals i v zero h = refl
goals_frame goals i v (suc n) h = rw (get_or-set_other goals i n v 0 (λ e. omega arith), goals_frame goals i v n (omega arith))

pub stacks_none : (goals : List ℕ) (top code : ℕ) → code ≡ 0 → Stacked (stacked code) goals top goals top
unfolding stacked
stacks_none goals top code e = record { goals_are = rw e; long = refl; above = omega arith }

pub stacks_one : (goals : List ℕ) (top code v : ℕ) → top < length goals → (code ≡ 0 → ⊥) → v ≡ code → Stacked (stacked code) goals top
    (set goals top v) (top + 1)
unfolding goals_of
stacks_one goals top code v h d e =
    record {
      goals_are = rw (
        add-one,
        get_or-set_same goals top v 0 (omega arith),
        goals_frame goals top v top (omega arith),
        e,
        stacked_some code (goal_of code)
            (goals_of goals top) (omega (arith, d)) refl,
      );
      long = length-set goals top v;
      above = omega arith;
    }

-- ---- values

module _ (words : List ℕ) where
  values_frame : (values : List ℕ) (i v n : ℕ) → n ≤ i → values_of words (set values i v) n ≡ values_of words values n
  unfolding values_of
  values_frame values i v zero h = refl
  values_frame values i v (suc n) h = rw (get_or-set_other values i n v 0 (λ e. omega arith), values_frame values i v n (omega arith))

  -- a value on the first n
  pub values_set : (values : List ℕ) (n v : ℕ) → n < length values → values_of words (set values n v) (n + 1) ≡ value_of words v ∷ values_of words values n
  unfolding values_of
  values_set values n v h = rw (add-one, get_or-set_same values n v 0 h, values_frame values n v n (omega arith))

  values_rest : (values : List ℕ) (n k : ℕ) → k ≤ 1 → drop k (values_of words values n) ≡ values_of words values (n - k)
  unfolding values_of
  values_rest values n zero h = let e : n ≡ n - 0 = omega arith in ap (values_of words values) e
  values_rest values zero (suc zero) h = refl
  values_rest values (suc n) (suc zero) h = let e : n ≡ suc n - 1 = omega arith in ap (values_of words values) e
  values_rest values n (suc (suc k)) h = absurd (omega arith)

pub puts_none : (values : List ℕ) (n popped value m : ℕ) → popped ≤ 1 → value ≡ 0 → m ≡ n - popped → Put popped value values n values m
unfolding pushed
puts_none values n popped value m h e q =
    record {
      values_are = λ words. rw (values_rest words values n popped h, e, q);
      long = refl;
      entries = λ left b d i k. d i (omega arith);
      few = omega arith;
    }

pub puts_one : (values : List ℕ) (n popped value m : ℕ) → n < length values → popped ≤ 1 → 1024 ≤ value → value < 1024 + 4294967296 → m ≡ n -
    popped
    → Put popped value values n (set values m value) (m + 1)
unfolding value_of
puts_one values n popped value m b h g s q =
    record {
      values_are =
          λ words. rw (
            values_set words values m value (omega arith),
            le-ltb value 1024 g,
            pushed_some value (value - 1024) (drop popped (values_of words values n)) (omega arith),
            values_rest words values n popped h,
            q,
          );
      long = length-set values m value;
      entries = λ left c d i k. each left c d i k (dec_lt i m);
      few = omega arith;
    }
  where
    each : (left : ℕ) → left ≤ 1024 → Entries left values n → (i : ℕ) → i < m + 1 → Dec (i < m) → (left ≤ get_or (set values m value) i 0) ×
        (get_or (set values m value) i 0 < 1024 + 4294967296)
    each left c d i k (yes p) = rw (get_or-set_other values m i value 0 (λ e. omega arith)) (d i (omega arith))
    each left c d i k (no p) =
        let e : i ≡ m = omega (arith, p) in
        rw (e, get_or-set_same values m value 0 (omega arith)) (omega arith, s)

-- ---- the sort of a value

module _ (words : List ℕ) (v : ℕ) where
  pub number_sort : 1023 < v → 0 ≡ value_sort (value_of words v)
  unfolding value_sort value_of
  number_sort h = rw (le-ltb v 1024 (omega arith))

  module _ (k : ℕ) (l : v ≤ 1023) (e : k ≡ tag_of (get_or words v 0)) where
    pub first_sort : k < 12 → 1 ≡ value_sort (value_of words v)
    unfolding value_sort value_of term_value tag_in
    first_sort h = rw (lt-ltb v 1024 (omega arith), ← e, lt-ltb k 12 h)

    pub second_sort : 12 ≤ k → k < 16 → 2 ≡ value_sort (value_of words v)
    unfolding value_sort value_of term_value tag_in
    second_sort g h = rw (lt-ltb v 1024 (omega arith), ← e, le-ltb k 12 g, lt-ltb k 16 h)

    pub third_sort : 16 ≤ k → k < 18 → 3 ≡ value_sort (value_of words v)
    unfolding value_sort value_of term_value tag_in
    third_sort g h = rw (lt-ltb v 1024 (omega arith), ← e, le-ltb k 12 (omega arith), le-ltb k 16 g, lt-ltb k 18 h)

    pub last_sort : 18 ≤ k → 1 ≡ value_sort (value_of words v)
    unfolding value_sort value_of term_value tag_in
    last_sort g = rw (lt-ltb v 1024 (omega arith), ← e, le-ltb k 12 (omega arith), le-ltb k 16 (omega arith), le-ltb k 18 g)

-- ---- goals upon goals

pub stacks_twice : (f g : List Goal → List Goal) (goals : List ℕ) (n : ℕ) (goals' : List ℕ) (n' : ℕ) (goals'' : List ℕ) (n'' : ℕ)
    → Stacked f goals n goals' n' → Stacked g goals' n' goals'' n'' → Stacked (λ gs. g (f gs)) goals n goals'' n''
stacks_twice f g goals n goals' n' goals'' n'' p q =
    record { goals_are = q.goals_are ∙ ap g p.goals_are; long = q.long ∙ p.long; above = let a = p.above in let b = q.above in omega arith }

-- ---- tokens

-- inside a list, what stands past its end does not matter
pub any_default : (l : List ℕ) (i d d' : ℕ) → i < length l → get_or l i d ≡ get_or l i d'
any_default [] i d d' h = absurd (omega arith)
any_default (x ∷ xs) zero d d' h = refl
any_default (x ∷ xs) (suc i) d d' h = any_default xs i d d' (omega arith)

-- ---- operands

module _ (values : List ℕ) (n b : ℕ) where
  pub operand_none : b ≡ 0 → 0 ≡ operand_at values n b
  unfolding operand_at
  operand_none e = rw (eq-eqb b 0 e)

  pub operand_term : (b ≡ 0 → ⊥) → get_or values (n - b) 0 < 1024 → get_or values (n - b) 0 ≡ operand_at values n b
  unfolding operand_at
  operand_term d h = rw (ne_eqb b 0 d, lt-ltb (get_or values (n - b) 0) 1024 h)

  pub operand_number : (b ≡ 0 → ⊥) → 1024 ≤ get_or values (n - b) 0 → get_or values (n - b) 0 - 1024 ≡ operand_at values n b
  unfolding operand_at
  operand_number d h = rw (ne_eqb b 0 d, le-ltb (get_or values (n - b) 0) 1024 h)

-- ---- six digits

-- each digit is at most the number
digit : (p k : ℕ) → p / k % 1024 ≤ p
digit p k = le_trans (mod-le (p / k) 1024) (div-le_self p k)

-- as many goals at most as the number has ones
pub six_few : (p t a b c d e f : ℕ) → a ≤ t + p % 1024 → b ≤ a + p / 1024 % 1024 → c ≤ b + p / 1048576 % 1024 → d ≤ c + p / 1073741824 % 1024
    → e ≤ d + p / 1099511627776 % 1024 → f ≤ e + p / 1125899906842624 % 1024 → f ≤ t + 6 * p
six_few p t a b c d e f ha hb hc hd he hf =
    sum (p % 1024) (p / 1024 % 1024) (p / 1048576 % 1024) (p / 1073741824 % 1024) (p / 1099511627776 % 1024) (p / 1125899906842624 % 1024)
    (omega arith) (digit p 1024) (digit p 1048576) (digit p 1073741824) (digit p 1099511627776) (digit p 1125899906842624) ha hb hc hd he hf
  where
    sum : (u v w x y z : ℕ) → u ≤ p → v ≤ p → w ≤ p → x ≤ p → y ≤ p → z ≤ p → a ≤ t + u → b ≤ a + v → c ≤ b + w → d ≤ c + x → e ≤ d + y → f ≤ e + z → f ≤ t
        + 6 * p
    sum u v w x y z hu hv hw hx hy hz ha hb hc hd he hf = omega arith

-- ---- what a step sees

pub last_none : (values : List ℕ) (n : ℕ) → n ≡ 0 → 1024 ≡ last_of values n
unfolding last_of
last_none values n e = rw (eq-eqb n 0 e)

pub last_some : (values : List ℕ) (n : ℕ) → (n ≡ 0 → ⊥) → get_or values (n - 1) 0 ≡ last_of values n
unfolding last_of
last_some values n d = rw (ne_eqb n 0 d)

last_value : (words values : List ℕ) (n : ℕ) → value_at (values_of words values n) 0 ≡ value_of words (last_of values n)
unfolding values_of last_of value_of
last_value words values zero = refl
last_value words values (suc n) = let e : suc n - 1 ≡ n = omega arith in rw (ne_eqb (suc n) 0 (λ d. omega arith), e)

pub last_small : (values : List ℕ) (n : ℕ) → Entries 0 values n → last_of values n < 1024 + 4294967296
unfolding last_of
last_small values zero h = omega arith
last_small values (suc n) h = let e : suc n - 1 ≡ n = omega arith in rw (ne_eqb (suc n) 0 (λ d. omega arith), e) (h n (omega arith)).1

term_number : (words : List ℕ) (v : ℕ) → number_in (term_value words v) ≡ 0
unfolding term_value number_in
term_number words v = choice (ltb (tag_in words v) 12) (ltb (tag_in words v) 16) (ltb (tag_in words v) 18)
  where
    choice : (a b c : Bool) → number_in (cond a (of_expression (tree_in words v))
        (cond b (of_condition (array.condition_in words v)) (cond c (of_arguments (list_in words v)) (of_expression (tree_in words v))))) ≡ 0
    choice true b c = refl
    choice false true c = refl
    choice false false true = refl
    choice false false false = refl

-- the number of a value
number_of : (words : List ℕ) (v : ℕ) → number_in (value_of words v) ≡ cond (ltb v 1024) 0 (v - 1024)
unfolding value_of number_in
number_of words v = choice (ltb v 1024)
  where
    choice : (b : Bool) → number_in (cond b (term_value words v) (number (v - 1024))) ≡ cond b 0 (v - 1024)
    choice true = term_number words v
    choice false = refl

module _ (tokens words values : List ℕ) (at n v first second third sort : ℕ) (e : v ≡ last_of values n) (small : Entries 0 values n)
    (p : (first ≡ get_or tokens at 69) × (69 ≤ first + 69 * (length tokens - at)))
    (q : (second ≡ get_or tokens (at + 1) 69) × (69 ≤ second + 69 * (length tokens - (at + 1))))
    (r : (third ≡ get_or tokens (at + 2) 69) × (69 ≤ third + 69 * (length tokens - (at + 2)))) (s : sort ≡ value_sort (value_of words v)) where
  last_number : cond (ltb v 1024) 0 (v - 1024) < 4294967296
  last_number = go (dec_lt v 1024)
    where
      go : Dec (v < 1024) → cond (ltb v 1024) 0 (v - 1024) < 4294967296
      go (yes h) = rw (lt-ltb v 1024 h) (omega arith)
      go (no h) = rw (le-ltb v 1024 (omega (arith, h))) (let z = last_small values n small in omega arith)

  pub looks : (m : ℕ) → m ≡ cond (ltb v 1024) 0 (v - 1024) → Looks tokens at words values n
      (record { first = first; second = second; third = third; sort = sort; number = m })
  looks m d =
      record {
        seen =
            record {
              first_is = let z : at + 0 ≡ at = omega arith in get_or-drop at tokens 0 69 ∙ rw z (sym p.0);
              second_is = get_or-drop at tokens 1 69 ∙ sym q.0;
              third_is = get_or-drop at tokens 2 69 ∙ sym r.0;
              sort_is = rw (last_value words values n, ← e) (sym s);
              number_is = rw (last_value words values n, ← e) (number_of words v ∙ sym d);
            };
        small = rw d last_number;
        first_inside = p.1;
        second_inside = q.1;
        third_inside = r.1;
      }

-- ---- the goals of a procedure

pub stacks_as : (f g : List Goal → List Goal) (goals : List ℕ) (n : ℕ) (goals' : List ℕ) (n' : ℕ) → ((gs : List Goal) → f gs ≡ g gs) → Stacked f goals n
    goals' n' → Stacked g goals n goals' n'
stacks_as f g goals n goals' n' e p = record { goals_are = p.goals_are ∙ e (goals_of goals n); long = p.long; above = p.above }

pub main_goals : (n : ℕ) → n ≡ 0 → (gs : List Goal) → stacked 161 gs ≡ procedure_goals n ++ gs
unfolding stacked goal_of procedure_goals
main_goals n e gs = rw e

pub heading_goals : (n : ℕ) → (n ≡ 0 → ⊥) → n < 32 → (gs : List Goal)
    → stacked 42 (stacked n (stacked 62 (stacked 194 (stacked 63 (stacked 66 (stacked 161 gs)))))) ≡ procedure_goals n ++ gs
unfolding stacked goal_of procedure_goals
heading_goals zero d h gs = absurd (d refl)
heading_goals (suc p) d h gs = ap (λ (gs : List Goal). stacked 42 gs) (stacked_some (suc p) (expect (suc p)) _ (omega arith)
    (expect_goal (suc p) (omega arith)))
