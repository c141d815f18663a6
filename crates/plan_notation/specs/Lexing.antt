-- From the bytes of a text to its tokens (docs/FORMAT.md, "A plan as text"). Assumes nothing.
use Rattle.std.specs.Prelude.{ℕ, zero, suc, ◌+◌, ◌-◌, ◌*◌, ◌^◌, Bool, cond, ◌&&◌, ◌||◌, List, [], ◌∷◌, ◌++◌, map, eqb, ltb, leb}
use Rattle.plan_notation.specs.Tokens.{opening, closing, comma, dot, equals, becomes, dash, text_end, unknown, text_of}

-- a token, and the number of its first byte in the text
pub record Token : Type 0 where
  pub code : ℕ
  pub place : ℕ

abbrev pub token : ℕ → ℕ → Token
token t i = record { code = t; place = i }

-- ---- bytes

-- white space: space, tabulator, line feed, carriage return
unfoldable pub is_blank : ℕ → Bool
is_blank c = eqb c 32 || eqb c 9 || eqb c 10 || eqb c 13

-- the digits 0 to 9 and the letters a to z, which names are made of, as 1 to 36; any other byte as 0
unfoldable pub digit_of : ℕ → ℕ
digit_of c = cond (leb 48 c && leb c 57) (c - 47) (cond (leb 97 c && leb c 122) (c - 86) 0)

-- the token that a byte is by itself
unfoldable pub mark_of : ℕ → ℕ
mark_of c =
    cond (eqb c 40) opening
    (cond (eqb c 41) closing (cond (eqb c 44) comma (cond (eqb c 46) dot (cond (eqb c 61) equals (cond (eqb c 45) dash unknown)))))

-- ---- names

-- a name as a number to the base 37; one of ten bytes or more, which no token has, is cut short
unfoldable pub grown : ℕ → ℕ → ℕ
grown v d = cond (ltb v (37 ^ 9)) (v * 37 + d) v

unfoldable pub value_from : ℕ → List ℕ → ℕ
unfolding grown digit_of
value_from v [] = v
value_from v (c ∷ cs) = value_from (grown v (digit_of c)) cs

-- the number of a token's text
unfoldable pub value_of : ℕ → ℕ
unfolding value_from text_of
value_of t = value_from 0 (text_of t)

-- the first of n tokens, from token t on, whose text is a name with this number
unfoldable pub name_from : ℕ → ℕ → ℕ → ℕ
unfolding value_of
name_from zero t v = unknown
name_from (suc n) t v = cond (eqb (value_of t) v) t (name_from n (suc t) v)

-- the token that a name is: a number, a slot or a word, 62 in all
unfoldable pub name_of : ℕ → ℕ
unfolding name_from
name_of v = name_from 62 0 v

-- ---- the tokens of a text

-- what has begun before a byte: nothing; a comment, which goes from `#` to the end of its line; a name, at a place, with its number so far; or a colon
pub data Begun : Type 0 where
  nothing : Begun
  comment : Begun
  name : ℕ → ℕ → Begun
  colon : ℕ → Begun

-- what byte c at place i begins, where nothing has begun
unfoldable pub begins : ℕ → ℕ → Begun
unfolding digit_of
begins i c = cond (eqb c 35) comment (cond (eqb c 58) (colon i) (cond (ltb 0 (digit_of c)) (name i (digit_of c)) nothing))

-- the token that it is by itself, if it is one
unfoldable pub alone : ℕ → ℕ → List Token
unfolding digit_of is_blank mark_of
alone i c = cond (is_blank c || eqb c 35 || eqb c 58 || ltb 0 (digit_of c)) [] (token (mark_of c) i ∷ [])

-- what has begun after byte c at place i
unfoldable pub begun_after : Begun → ℕ → ℕ → Begun
unfolding begins digit_of grown
begun_after nothing i c = begins i c
begun_after comment i c = cond (eqb c 10) nothing comment
begun_after (name s v) i c = cond (ltb 0 (digit_of c)) (name s (grown v (digit_of c))) (begins i c)
begun_after (colon s) i c = cond (eqb c 61) nothing (begins i c)

-- the tokens that end before or with it
unfoldable pub ended_by : Begun → ℕ → ℕ → List Token
unfolding alone digit_of name_of
ended_by nothing i c = alone i c
ended_by comment i c = []
ended_by (name s v) i c = cond (ltb 0 (digit_of c)) [] (token (name_of v) s ∷ alone i c)
ended_by (colon s) i c = cond (eqb c 61) (token becomes s ∷ []) (token unknown s ∷ alone i c)

-- the token that ends with the text
unfoldable pub ended_at_end : Begun → List Token
unfolding name_of
ended_at_end nothing = []
ended_at_end comment = []
ended_at_end (name s v) = token (name_of v) s ∷ []
ended_at_end (colon s) = token unknown s ∷ []

-- the tokens of the bytes from place i on, where this has begun, with the end of the text
unfoldable pub tokens_from : Begun → ℕ → List ℕ → List Token
unfolding begun_after ended_by ended_at_end
tokens_from b i [] = ended_at_end b ++ (token text_end i ∷ [])
tokens_from b i (c ∷ cs) = ended_by b i c ++ tokens_from (begun_after b i c) (suc i) cs

-- the tokens of a text
unfoldable pub tokens_of : List ℕ → List Token
unfolding tokens_from
tokens_of text = tokens_from nothing 0 text

-- their codes
unfoldable pub codes_of : List ℕ → List ℕ
unfolding tokens_of
codes_of text = map (λ (t : Token). t.code) (tokens_of text)

-- ---- lines and columns, both from 1

-- the line and the column behind these bytes, from a line and a column on
pub record Place : Type 0 where
  pub line : ℕ
  pub column : ℕ

unfoldable pub place_from : ℕ → ℕ → List ℕ → Place
place_from l k [] = record { line = l; column = k }
place_from l k (c ∷ cs) = cond (eqb c 10) (place_from (suc l) 1 cs) (place_from l (suc k) cs)

-- where the byte is that these come before
unfoldable pub place_after : List ℕ → Place
unfolding place_from
place_after bytes = place_from 1 1 bytes
