-- A call's list as one number: a code to each of eight values, how many there are, and which list it is. For inner contracts: no reader of the entries'
-- promises needs it. Assumes nothing.
use Rattle.std.specs.Prelude.{ℕ, zero, suc, ◌+◌, ◌*◌, ◌/◌, ◌%◌, ◌^◌, ◌<◌, ◌≡◌, Bool, false, cond, List, eqb, ltb, get_or, length}
use Rattle.plan_packed.specs.Inner.Operands.{tag_of, first_of, second_of, slot_bits}
use Rattle.run_term_words.specs.Inner.Words.{word_at}
use Rattle.run_lists.specs.declared.Item.{Item}

-- from which bit of the slots a value comes whose word is w: 40, which is past all of them, where it is null
unfoldable pub code_by : ℕ → ℕ
code_by w = cond (eqb (tag_of w) 1) (cond (ltb (slot_bits w) 8) (slot_bits w * 5) 40) 40

-- what a code tells of the slots e
unfoldable pub value_in : ℕ → ℕ → ℕ
value_in e c = e % 1099511627776 / 2 ^ c % 32

-- a list at the term t has a value next
unfoldable pub valued_at : List ℕ → ℕ → Bool
valued_at ws t = cond (eqb (tag_of (word_at ws t)) 16) (ltb (tag_of (word_at ws (first_of (word_at ws t)))) 2) false

-- its code, the list behind it, and one for it; past the last value the list stays
unfoldable pub code_at : List ℕ → ℕ → ℕ
code_at ws t = cond (valued_at ws t) (code_by (word_at ws (first_of (word_at ws t)))) 40

unfoldable pub next_at : List ℕ → ℕ → ℕ
next_at ws t = cond (valued_at ws t) (second_of (word_at ws t)) t

unfoldable pub one_at : List ℕ → ℕ → ℕ
one_at ws t = cond (valued_at ws t) 1 0

abbrev pub next_from : List ℕ → ℕ → Item
next_from ws t = record { code = code_at ws t; rest = next_at ws t; one = one_at ws t }

-- of at most k values: their codes below the number x, the list behind them, and how many they are
unfoldable pub codes_from : ℕ → List ℕ → ℕ → ℕ → ℕ
codes_from zero ws t x = x
codes_from (suc k) ws t x = code_at ws t + codes_from k ws (next_at ws t) x * 64

unfoldable pub rest_from : ℕ → List ℕ → ℕ → ℕ
rest_from zero ws t = t
rest_from (suc k) ws t = rest_from k ws (next_at ws t)

unfoldable pub count_from : ℕ → List ℕ → ℕ → ℕ
count_from zero ws t = 0
count_from (suc k) ws t = one_at ws t + count_from k ws (next_at ws t)

-- a list, and how many values it has; 15 where it has more than eight, or an operand that is none
unfoldable pub head_by : List ℕ → ℕ → ℕ → ℕ → ℕ
head_by ws l r n = (l + 1) * 16 + cond (eqb (tag_of (word_at ws r)) 16) 15 n

abbrev pub head_of : List ℕ → ℕ → ℕ
head_of ws l = head_by ws l (rest_from 8 ws l) (count_from 8 ws l)

unfoldable pub told_of : List ℕ → ℕ → ℕ
told_of ws l = codes_from 8 ws l (head_of ws l)

-- the values of k codes, each in its slot
unfoldable pub values_of : ℕ → ℕ → ℕ → ℕ
values_of zero e c = 0
values_of (suc k) e c = value_in e (c % 64) + values_of k e (c / 64) * 32

-- the kept numbers: one that names a list is that list's
abbrev pub Right : List ℕ → List ℕ → Type 0
Right ws ls = (length ls ≡ 32) × ((l : ℕ) → l < 1024 → get_or ls (l % 32) 0 / 4503599627370496 ≡ l + 1 → get_or ls (l % 32) 0 ≡ told_of ws l)
