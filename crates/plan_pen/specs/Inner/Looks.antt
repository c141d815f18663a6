-- What each token says of the gap behind it and of the one before it, as sets of bits, for inner contracts: no reader of an entry's promise needs it. Assumes
-- nothing.
use Rattle.std.specs.Prelude.{ℕ, zero, suc, ◌+◌, Bool, cond, ◌||◌, List, [], ◌∷◌, eqb, ltb}
use Rattle.plan_notation.specs.Tokens.{volatile_word, procedure_word, in_word, else_word, do_word, new_word, let_word, if_word, opening, closing, comma, dot, text_end}
use Rattle.plan_notation.specs.Layout.{begins_expression}

-- a token that ends something, and one that begins something
unfoldable pub ends : ℕ → Bool
ends t = eqb t closing || eqb t in_word || eqb t else_word

unfoldable pub begins : ℕ → Bool
begins t = eqb t opening || eqb t let_word || eqb t if_word

-- a bit that is set by a test
abbrev bit : ℕ → Bool → ℕ
bit n b = cond b n 0

-- what a token says of the gap behind it
unfoldable pub behind : ℕ → ℕ
behind s =
    1
    + bit 2 (eqb s opening || eqb s dot || eqb s text_end)
    + bit 4 (eqb s new_word)
    + 8
    + bit 16 (eqb s in_word || eqb s do_word)
    + bit 32 (ltb s 32)

-- of the gap before it, and whether it ends or begins something
unfoldable pub ahead : ℕ → ℕ
unfolding ends begins begins_expression
ahead t =
    bit 1 (eqb t closing || eqb t comma || eqb t dot)
    + 2
    + bit 4 (eqb t opening)
    + bit 8 (eqb t volatile_word || eqb t procedure_word)
    + 16
    + bit 32 (begins_expression t)
    + bit 64 (ends t)
    + bit 128 (begins t)

-- the rows of n tokens from token k on
unfoldable pub looks_from : ℕ → ℕ → List (List ℕ)
unfolding behind ahead
looks_from k zero = []
looks_from k (suc n) = (behind k ∷ ahead k ∷ []) ∷ looks_from (suc k) n

-- those of all tokens and of none
unfoldable pub look_rows : List (List ℕ)
unfolding looks_from
look_rows = looks_from 0 70
