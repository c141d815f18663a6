-- The parts of a term's 40 bits, for inner contracts: no reader of the entry's promise needs them. Assumes nothing.
use Rattle.std.specs.Prelude.{ℕ, ◌+◌, ◌-◌, ◌/◌, ◌%◌, ◌^◌, Bool, not, eqb}
use Rattle.plan_packed.specs.Format.{Operand, slot, binder, mask, field_name, procedure, expression, list, width}

-- the tag: the first five bits
abbrev pub tag_of : ℕ → ℕ
tag_of w = w / 2 ^ 35

-- the operand that stands after n bits of operands
abbrev pub operand_in : ℕ → Operand → ℕ → ℕ
operand_in n kind w = w / 2 ^ (35 - (n + width kind)) % 2 ^ width kind

-- what stands after n bits of operands, which are the last
abbrev pub spare_in : ℕ → ℕ → ℕ
spare_in n w = w % 2 ^ (35 - n)

-- a spare bit is set
abbrev pub spare_set : ℕ → ℕ → Bool
spare_set n w = not (eqb (spare_in n w) 0)

-- ---- the operands of the table, by what stands before them

-- a term as the first operand, after a term, and after two
abbrev pub first_of : ℕ → ℕ
first_of = operand_in 0 expression

abbrev pub second_of : ℕ → ℕ
second_of = operand_in (width expression) expression

abbrev pub third_of : ℕ → ℕ
third_of = operand_in (width expression + width expression) expression

-- the slot of a variable or of a let
abbrev pub slot_bits : ℕ → ℕ
slot_bits = operand_in 0 slot

-- the two terms after a let's slot
abbrev pub let_first : ℕ → ℕ
let_first = operand_in (width binder) expression

abbrev pub let_second : ℕ → ℕ
let_second = operand_in (width binder + width expression) expression

-- the field of a read or of a write
abbrev pub field_bits : ℕ → ℕ
field_bits = operand_in (width expression) field_name

-- the term after a write's field
abbrev pub write_second : ℕ → ℕ
write_second = operand_in (width expression + width field_name) expression

-- the procedure and the list of a call
abbrev pub procedure_bits : ℕ → ℕ
procedure_bits = operand_in 0 procedure

abbrev pub list_bits : ℕ → ℕ
list_bits = operand_in (width procedure) list

-- the fields of a new
abbrev pub mask_bits : ℕ → ℕ
mask_bits = operand_in 0 mask
