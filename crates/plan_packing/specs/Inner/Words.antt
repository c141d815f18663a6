-- The 40 bits of a term by its old ones and by its children's numbers, for inner contracts: no reader of the entry's promise needs them. Assumes nothing.
use Rattle.std.specs.Prelude.{ℕ, ◌+◌, ◌*◌, ◌^◌, cond, eqb}
use Rattle.plan_packed.specs.Inner.Operands.{tag_of, slot_bits, field_bits, mask_bits}
use Rattle.plan_written.specs.Terms.{word_of}

-- a term without children; any but a variable and a new is null
unfoldable pub leaf_word : ℕ → ℕ
leaf_word w = cond (eqb (tag_of w) 1) (word_of 1 (slot_bits w) 0 0) (cond (eqb (tag_of w) 2) (word_of 2 (mask_bits w) 0 0) 0)

-- a term with one child, which stands first
unfoldable pub one_word : ℕ → ℕ → ℕ
one_word w x = cond (eqb (tag_of w) 3) (word_of 3 x (field_bits w) 0) (tag_of w * 2 ^ 35 + x * 2 ^ 25)

-- a term with two children
unfoldable pub two_word : ℕ → ℕ → ℕ → ℕ
two_word w x y =
    cond (eqb (tag_of w) 4) (word_of 4 x (field_bits w) y) (cond (eqb (tag_of w) 5) (word_of 5 (slot_bits w) x y) (tag_of w * 2 ^ 35 + x * 2 ^ 25 + y * 2 ^ 15))
