-- Tokens as text: spaces, lines, indentation (docs/FORMAT.md, "A plan as text"). Assumes nothing.
use Rattle.std.specs.Prelude.{ℕ, suc, ◌+◌, ◌-◌, ◌*◌, min, Bool, cond, not, ◌&&◌, ◌||◌, List, [], ◌∷◌, ◌++◌, eqb, ltb, leb, length, replicate}
use Rattle.plan_notation.specs.Tokens.{volatile_word, procedure_word, in_word, else_word, do_word, null_word, new_word, let_word, if_word, opening, closing, comma}
use Rattle.plan_notation.specs.Tokens.{dot, text_end, text_of}

-- where writing stands: the column, from 0; how many parentheses, lets up to their `in` and ifs up to their `else` have begun and not ended; the token before
pub record Pen : Type 0 where
  pub column : ℕ
  pub depth : ℕ
  pub last : ℕ

-- at the start no token is before
abbrev pub start : Pen
start = record { column = 0; depth = 0; last = text_end }

-- a space parts two tokens, but not before `)`, `,` and `.`, nor behind `(` and `.`, nor in `new(`, nor at the start
unfoldable pub apart : ℕ → ℕ → Bool
apart s t = not (eqb t closing || eqb t comma || eqb t dot || eqb s opening || eqb s dot || eqb s text_end || (eqb s new_word && eqb t opening))

-- a word or a slot that begins an expression
unfoldable pub begins_expression : ℕ → Bool
begins_expression t = (leb 32 t && ltb t 40) || (leb null_word t && ltb t opening)

-- a new line behind `in` and `do`, before `volatile` and `procedure`, and before main: there an expression begins behind a number
unfoldable pub breaks : ℕ → ℕ → Bool
unfolding begins_expression
breaks s t = eqb s in_word || eqb s do_word || eqb t volatile_word || eqb t procedure_word || (ltb s 32 && begins_expression t)

-- what ends with token t has begun one less deep
unfoldable pub depth_before : Pen → ℕ → ℕ
depth_before p t = cond (eqb t closing || eqb t in_word || eqb t else_word) (p.depth - 1) p.depth

unfoldable pub depth_after : Pen → ℕ → ℕ
unfolding depth_before
depth_after p t = cond (eqb t opening || eqb t let_word || eqb t if_word) (suc (depth_before p t)) (depth_before p t)

-- a line begins with two spaces for each depth, 40 at most
unfoldable pub indentation : Pen → ℕ → ℕ
unfolding depth_before
indentation p t = 2 * min (depth_before p t) 20

-- token t is on a new line: where the text breaks, or the line would have 100 columns
unfoldable pub on_new_line : Pen → ℕ → Bool
unfolding breaks text_of
on_new_line p t = breaks p.last t || ltb 98 (p.column + length (text_of t))

-- what stands before token t
unfoldable pub gap : Pen → ℕ → List ℕ
unfolding on_new_line indentation apart
gap p t = cond (on_new_line p t) (10 ∷ replicate (indentation p t) 32) (cond (apart p.last t) (32 ∷ []) [])

-- the column behind token t
unfoldable pub column_after : Pen → ℕ → ℕ
unfolding on_new_line indentation apart text_of
column_after p t = cond (on_new_line p t) (indentation p t) (cond (apart p.last t) (suc p.column) p.column) + length (text_of t)

unfoldable pub pen_after : Pen → ℕ → Pen
unfolding column_after depth_after
pen_after p t = record { column = column_after p t; depth = depth_after p t; last = t }

-- the text of some tokens, with a line feed behind the last
unfoldable pub laid_from : Pen → List ℕ → List ℕ
unfolding gap pen_after text_of
laid_from p [] = 10 ∷ []
laid_from p (t ∷ ts) = gap p t ++ (text_of t ++ laid_from (pen_after p t) ts)

unfoldable pub laid_out : List ℕ → List ℕ
unfolding laid_from
laid_out ts = laid_from start ts
