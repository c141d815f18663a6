-- Terms by their 40-bit words: the machine that the code runs; no reader of the entries' promises needs it. Assumes nothing.
use Rattle.std.specs.Prelude.{ℕ, ◌%◌, cond, List, eqb, get_or}
use Rattle.plan_packed.specs.Inner.Operands.{tag_of, first_of, slot_bits}
use Rattle.run_term_words.specs.Inner.Slots.{slot_of}

unfoldable pub word_at : List ℕ → ℕ → ℕ
word_at ws t = get_or ws (t % 1024) 0

-- the value of an expression's word, 32 where it needs a move
unfoldable pub value_by : ℕ → ℕ → ℕ
value_by environment w = cond (eqb (tag_of w) 0) 0 (cond (eqb (tag_of w) 1) (slot_of environment (slot_bits w)) 32)

unfoldable pub value_of : List ℕ → ℕ → ℕ → ℕ
value_of ws environment t = value_by environment (word_at ws t)

-- the value of a condition, 0 false and 1 true, 2 where it needs a move
unfoldable pub truth_by : List ℕ → ℕ → ℕ
truth_by ws w = cond (eqb (tag_of w) 12) 1 (cond (eqb (tag_of w) 13) (cond (eqb (tag_of (word_at ws (first_of w))) 12) 0 2) 2)

unfoldable pub truth_of : List ℕ → ℕ → ℕ
truth_of ws t = truth_by ws (word_at ws t)
