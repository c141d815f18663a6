-- The operand layouts as rows of numbers, one to a tag, from the table of terms (document 02, E4), and what checks 4 to 6 find by a row. For inner contracts:
-- no
-- reader of the entry's promise needs it. Assumes nothing.
use Rattle.std.specs.Prelude.{ℕ, suc, ◌+◌, ◌-◌, ◌/◌, ◌%◌, ◌^◌, ◌<◌, Bool, false, cond, ◌&&◌, ◌||◌, not, List, [], ◌∷◌, ◌++◌, eqb, get_or, take}
use Rattle.plan_packed.specs.Format.{Operand, absent, slot, binder, mask, field_name, procedure, expression, condition, list, width, Row, table, tag_count}
use Rattle.plan_packed.specs.Refusals.{wrong_operand}
use Rattle.plan_packed.specs.Inner.Steps.{an_expression, a_condition, a_list, tag_sort, Child, child_of, outside, tag_in}

-- ---- the rows

-- an operand that is a term, after n bits of operands: the number of its sort, and its place, how many bits stand to its right
abbrev pub term_after : ℕ → Operand → List ℕ
term_after n absent = []
term_after n slot = []
term_after n binder = []
term_after n mask = []
term_after n field_name = []
term_after n procedure = []
term_after n expression = an_expression ∷ (35 - (n + width expression)) ∷ []
term_after n condition = a_condition ∷ (35 - (n + width condition)) ∷ []
term_after n list = a_list ∷ (35 - (n + width list)) ∷ []

-- an operand that is no term: the number of its kind, and its place
abbrev pub other_after : ℕ → Operand → List ℕ
other_after n absent = []
other_after n slot = 1 ∷ (35 - (n + width slot)) ∷ []
other_after n binder = 2 ∷ (35 - (n + width binder)) ∷ []
other_after n mask = 3 ∷ (35 - (n + width mask)) ∷ []
other_after n field_name = 4 ∷ (35 - (n + width field_name)) ∷ []
other_after n procedure = 5 ∷ (35 - (n + width procedure)) ∷ []
other_after n expression = []
other_after n condition = []
other_after n list = []

-- what all operands of a row give, in their order
abbrev pub of_operands : (ℕ → Operand → List ℕ) → Row → List ℕ
of_operands f r = f 0 r.first ++ f (width r.first) r.second ++ f (width r.first + width r.second) r.third

-- what stands in a row for an operand that is not there: no sort or kind, and a place past all bits
abbrev pub nothing : List ℕ
nothing = 0 ∷ 63 ∷ []

-- the row of a tag: the sort of its terms; the number of spare bits; the operand that is no term; the operands that are terms
unfoldable pub row_numbers : ℕ → Row → List ℕ
unfolding tag_sort
row_numbers k r =
    (tag_sort k ∷ (35 - (width r.first + width r.second + width r.third)) ∷ [])
    ++ take 2 (of_operands other_after r ++ nothing)
    ++ take 6 (of_operands term_after r ++ nothing ++ nothing ++ nothing)

-- the rows of the tags from k on
unfoldable pub rows_from : ℕ → List Row → List (List ℕ)
unfolding row_numbers
rows_from k [] = []
rows_from k (r ∷ rs) = row_numbers k r ∷ rows_from (suc k) rs

-- "one row per tag, 0 to 20" (document 02, E4): what the rows of the code are shown to be
unfoldable pub layout_rows : List (List ℕ)
unfolding rows_from table
layout_rows = rows_from 0 table

-- a number of a tag's row
unfoldable pub number_at : ℕ → ℕ → ℕ
unfolding layout_rows
number_at k column = get_or (get_or layout_rows k []) column 0

-- ---- check 4 by a row

-- the operand that is no term, by the number of its kind
abbrev pub other_of : ℕ → Operand
other_of kind = get_or (absent ∷ slot ∷ binder ∷ mask ∷ field_name ∷ procedure ∷ []) kind absent

-- it is wrong, where these bits end with it
abbrev pub wrong_other : ℕ → ℕ → ℕ → Bool
wrong_other procedure_count kind bits = wrong_operand procedure_count 0 0 (other_of kind) (bits % 2 ^ width (other_of kind))

-- what ends at a place of 40 bits
abbrev pub bits_to : ℕ → ℕ → ℕ
bits_to place w = w / 2 ^ (place % 64)

-- what stands after it
abbrev pub bits_after : ℕ → ℕ → ℕ
bits_after place w = w % 2 ^ (place % 64)

-- the term index at a place of 40 bits
abbrev pub child_at : ℕ → ℕ → ℕ
child_at place w = bits_to place w % 1024

-- a term of these numbers, and the test of those after it, where there are any
abbrev pub wrong_from : ℕ → ℕ → ℕ → ℕ → ℕ → Bool → Bool
wrong_from n t w sort place rest = not (eqb sort 0) && (outside n t (child_at place w) || rest)

-- one of the operands that are terms is wrong
unfoldable pub wrong_terms : ℕ → ℕ → ℕ → ℕ → Bool
unfolding number_at
wrong_terms n t w k =
    wrong_from n t w (number_at k 4) (number_at k 5) (wrong_from n t w (number_at k 6) (number_at k 7) (wrong_from n t w (number_at k 8) (number_at k 9) false))

-- the 40 bits w are wrong by the row of tag k
unfoldable pub wrong_by_row : ℕ → ℕ → ℕ → ℕ → ℕ → Bool
unfolding wrong_terms number_at
wrong_by_row procedure_count n t w k =
    (wrong_other procedure_count (number_at k 2) (bits_to (number_at k 3) w) || wrong_terms n t w k)
    || not (eqb (bits_after (number_at k 1) w) 0)

-- ---- checks 5 and 6 by a row

-- every term of the array has a tag of the table
abbrev pub Tagged : List ℕ → Type 0
Tagged words = (t : ℕ) → tag_in words t < tag_count

-- a child of these numbers, and those after it, where there are any
abbrev pub children_from : ℕ → ℕ → ℕ → List Child → List Child
children_from w sort place rest = cond (eqb sort 0) [] (child_of sort (child_at place w) ∷ rest)

-- the children of the 40 bits w by the row of tag k
unfoldable pub children_by_row : ℕ → ℕ → List Child
unfolding number_at
children_by_row w k = children_from w (number_at k 4) (number_at k 5)
    (children_from w (number_at k 6) (number_at k 7) (children_from w (number_at k 8) (number_at k 9) []))
