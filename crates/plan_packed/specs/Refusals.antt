-- What the plan's author can do wrong (document 01, "Who can cause a refusal", 1 to 7), each at its place. Assumes nothing.
use Rattle.std.specs.Prelude.{ℕ, zero, suc, ◌+◌, Bool, true, false, cond, ◌&&◌, ◌||◌, not, List, eqb, ltb, leb, length}
use Rattle.plan_packed.specs.Format.{version, procedures, terms, header_spare, volatiles, mask_bit, fields_from, parameters, root, plan_length, Operand}
use Rattle.plan_packed.specs.Format.{absent}
use Rattle.plan_packed.specs.Format.{slot, binder, mask, field_name, procedure, expression, condition, list, tag_count, Term, tag_at, term_at}
use Rattle.plan_packed.specs.Trees.{tree_at}
use Rattle.plan_packed.specs.Slots.{closed}

-- ---- numbers below n

-- the test passes at one of them
unfoldable pub any_below : ℕ → (ℕ → Bool) → Bool
any_below zero f = false
any_below (suc n) f = any_below n f || f n

-- the sum over all of them
unfoldable pub sum_below : ℕ → (ℕ → ℕ) → ℕ
sum_below zero f = 0
sum_below (suc n) f = sum_below n f + f n

-- 1 where the test passes
abbrev pub one_if : Bool → ℕ
one_if true = 1
one_if false = 0

-- ---- 1: "wrong length, or under 8 bytes"

unfoldable pub wrong_length : List ℕ → Bool
unfolding plan_length
wrong_length b = ltb (length b) 8 || not (eqb (length b) (plan_length b))

-- ---- 2: "header or mask against the above"

unfoldable pub wrong_header : List ℕ → Bool
unfolding version procedures terms header_spare volatiles mask_bit
wrong_header b =
    ltb 1 (version b)  -- "Plan version 0, which the check now accepts" (document 02, E8)
    || ltb (procedures b) 1
    || ltb 32 (procedures b)
    || ltb (terms b) 1
    || ltb 1024 (terms b)
    || not (eqb (header_spare b) 0)
    || not (eqb (mask_bit (volatiles b) 0) 1)  -- "Field 0 is the monitor and its bit is set."

-- ---- 3: "a procedure against the above, or a root not below the term count"

unfoldable pub wrong_procedure : List ℕ → ℕ → Bool
unfolding parameters root terms
wrong_procedure b p =
    ltb 8 (parameters b p)
    || (eqb p 0 && ltb 0 (parameters b p))  -- "Procedure 0 is main, without parameters."
    || leb (terms b) (root b p)

-- ---- 4: "a single term against the table: tag, slot, spare bits, fields, procedure, or a child index not above its own or not below the count"

-- value v at an operand of term t, in a plan with these numbers of procedures and terms
abbrev pub wrong_operand : ℕ → ℕ → ℕ → Operand → ℕ → Bool
wrong_operand procedure_count n t absent v = false
wrong_operand procedure_count n t slot v = ltb 7 v
wrong_operand procedure_count n t binder v = ltb 7 v && not (eqb v 15)
wrong_operand procedure_count n t mask v = eqb (mask_bit v 0) 1 || ltb 8 (length (fields_from v 0 32))  -- "A `new` names at most eight fields, never field 0."
wrong_operand procedure_count n t field_name v = eqb v 0  -- "Read and write never name field 0."
wrong_operand procedure_count n t procedure v = leb procedure_count v
wrong_operand procedure_count n t expression v = leb v t || leb n v
wrong_operand procedure_count n t condition v = leb v t || leb n v
wrong_operand procedure_count n t list v = leb v t || leb n v

-- the test passes at one of the three operands
unfoldable pub some_operand : (Operand → ℕ → Bool) → Term → Bool
some_operand f m = f m.first m.value₁ || f m.second m.value₂ || f m.third m.value₃

-- m as term t of a plan with these numbers of procedures and terms
unfoldable pub breaks_table : ℕ → ℕ → ℕ → Term → Bool
unfolding some_operand mask_bit fields_from
breaks_table procedure_count n t m =
    leb tag_count m.tag
    || some_operand (wrong_operand procedure_count n t) m
    || not (eqb m.spare 0)  -- "All spare bits are zero."

-- term t of the plan, by itself
unfoldable pub wrong_term : List ℕ → ℕ → Bool
unfolding breaks_table procedures terms term_at
wrong_term b t = breaks_table (procedures b) (terms b) t (term_at b t)

-- ---- 5: "a root or child of the wrong sort, or a call whose list is not as long as the parameters"

-- a term of this tag where the table wants another sort: "e is an expression (tags 0 to 11), c a condition (12 to 15), list is 16 or 17"; "expression
-- terms [..] tag 18 wait, 19 notify, 20 notify all" (document 02, E3)
abbrev pub misplaced : Operand → ℕ → Bool
misplaced absent k = false
misplaced slot k = false
misplaced binder k = false
misplaced mask k = false
misplaced field_name k = false
misplaced procedure k = false
misplaced expression k = leb 12 k && ltb k 18
misplaced condition k = ltb k 12 || leb 16 k
misplaced list k = ltb k 16 || leb 18 k

-- "counted in terms of tag 16, up to the first other tag": from term t on, no further than n
unfoldable pub list_length : List ℕ → ℕ → ℕ → ℕ
unfolding tag_at term_at
list_length b zero t = 0
list_length b (suc n) t = let rest = list_length b n (term_at b t).value₂ in cond (eqb (tag_at b t) 16) (suc rest) 0

-- "a call whose list is not as long as the parameters"; a list has no more terms than the plan
unfoldable pub wrong_call : List ℕ → ℕ → Bool
unfolding tag_at term_at list_length terms parameters
wrong_call b t = eqb (tag_at b t) 8 && not (eqb (list_length b (terms b) (term_at b t).value₂) (parameters b (term_at b t).value₁))

-- "A root is an expression."; "(for 5 the wrongly sorted term, or the call)"
unfoldable pub wrongly_sorted : List ℕ → ℕ → Bool
unfolding some_operand any_below wrong_call procedures terms root tag_at term_at
wrongly_sorted b t =
    (any_below (procedures b) (λ p. eqb (root b p) t && misplaced expression (tag_at b t))
    || any_below (terms b) (λ u. some_operand (λ kind v. eqb v t && misplaced kind (tag_at b t)) (term_at b u)))
    || wrong_call b t

-- ---- 6: "a term not named exactly once, by a parent or a procedure"

-- an operand that names a child: e, c and list are term indexes
abbrev pub is_child : Operand → Bool
is_child absent = false
is_child slot = false
is_child binder = false
is_child mask = false
is_child field_name = false
is_child procedure = false
is_child expression = true
is_child condition = true
is_child list = true

-- how often term m names term t
unfoldable pub times_in : Term → ℕ → ℕ
times_in m t = one_if (is_child m.first && eqb m.value₁ t) + one_if (is_child m.second && eqb m.value₂ t) + one_if
    (is_child m.third && eqb m.value₃ t)

-- how often term t is named, "by a parent or a procedure"
unfoldable pub times_named : List ℕ → ℕ → ℕ
unfolding sum_below times_in procedures terms root term_at
times_named b t = sum_below (procedures b) (λ p. one_if (eqb (root b p) t)) + sum_below (terms b) (λ u. times_in (term_at b u) t)

-- term t, "not named exactly once"
unfoldable pub not_named_once : List ℕ → ℕ → Bool
unfolding times_named
not_named_once b t = not (eqb (times_named b t) 1)

-- ---- 7: "a procedure whose root uses a slot that no parameter or enclosing let binds"

unfoldable pub uses_unbound_slot : List ℕ → ℕ → Bool
unfolding closed parameters root tree_at
uses_unbound_slot b p = not (closed (λ x. ltb x (parameters b p)) (tree_at b (root b p)))
