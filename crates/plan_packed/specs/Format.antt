-- The plan, bit by bit (document 01): where each number stands, and the table of terms. Assumes nothing.
use Rattle.std.specs.Prelude.{ℕ, zero, suc, ◌+◌, ◌*◌, ◌-◌, ◌/◌, ◌%◌, ◌^◌, cond, List, [], ◌∷◌, eqb, get_or}
use Rattle.format.specs.Bits.{bits_at}

-- "Header, 32 bits: version 4 (1), procedures 6 (1 to 32), terms 12 (1 to 1,024), spare 10."; since document 02, E8, version 0 or 1
unfoldable pub version : List ℕ → ℕ
unfolding bits_at
version b = bits_at b 0 4

-- "procedures 6 (1 to 32)"
unfoldable pub procedures : List ℕ → ℕ
unfolding bits_at
procedures b = bits_at b 4 6

-- "terms 12 (1 to 1,024)"
unfoldable pub terms : List ℕ → ℕ
unfolding bits_at
terms b = bits_at b 10 12

-- "spare 10"
unfoldable pub header_spare : List ℕ → ℕ
unfolding bits_at
header_spare b = bits_at b 22 10

-- "Volatile mask, 32 bits: the top bit is field 0, the next field 1, and so on."
unfoldable pub volatiles : List ℕ → ℕ
unfolding bits_at
volatiles b = bits_at b 32 32

-- the bit of field f in a mask
unfoldable pub mask_bit : ℕ → ℕ → ℕ
mask_bit m f = m / 2 ^ (31 - f) % 2

-- the fields that a mask names, among the n from field f on
unfoldable pub fields_from : ℕ → ℕ → ℕ → List ℕ
unfolding mask_bit
fields_from m f zero = []
fields_from m f (suc n) = let rest = fields_from m (suc f) n in cond (eqb (mask_bit m f) 1) (f ∷ rest) rest

-- "Procedure, 16 bits: parameters 4 (0 to 8), root term 12."
unfoldable pub parameters : List ℕ → ℕ → ℕ
unfolding bits_at
parameters b p = bits_at b (64 + 16 * p) 4

-- "root term 12"
unfoldable pub root : List ℕ → ℕ → ℕ
unfolding bits_at
root b p = bits_at b (68 + 16 * p) 12

-- "The length is 8 + 2 times procedures + 5 times terms."
unfoldable pub plan_length : List ℕ → ℕ
unfolding procedures terms
plan_length b = 8 + 2 * procedures b + 5 * terms b

-- ---- the table of terms

-- what an operand is: e, c and list are term indexes
pub data Operand : Type 0 where
  absent slot binder mask field_name procedure expression condition list : Operand

-- "A term index has 10 bits, a field 5, a procedure 5, a slot 4."
abbrev pub width : Operand → ℕ
width absent = 0
width slot = 4
width binder = 4
width mask = 32
width field_name = 5
width procedure = 5
width expression = 10
width condition = 10
width list = 10

-- the operands of a tag, in their order
pub record Row : Type 0 where
  pub first : Operand
  pub second : Operand
  pub third : Operand

-- a row of these operands
abbrev pub operands : Operand → Operand → Operand → Row
operands a b c = record { first = a; second = b; third = c }

-- "| tag | term | operands |"
unfoldable pub table : List Row
table =
    operands absent absent absent  -- 0 null
    ∷ operands slot absent absent  -- 1 variable: slot 0 to 7
    ∷ operands mask absent absent  -- 2 new: 32-bit field mask, top bit field 0
    ∷ operands expression field_name absent  -- 3 read: e, field
    ∷ operands expression field_name expression  -- 4 write: e, field, e
    ∷ operands binder expression expression  -- 5 let: slot 0 to 7, or 15 binds nothing; e, e
    ∷ operands condition expression expression  -- 6 if: c, e, e
    ∷ operands condition expression absent  -- 7 while: c, e
    ∷ operands procedure list absent  -- 8 call: procedure, list
    ∷ operands expression absent absent  -- 9 fork: e
    ∷ operands expression absent absent  -- 10 join: e
    ∷ operands expression expression absent  -- 11 synch: e, e (object, body)
    ∷ operands absent absent absent  -- 12 true
    ∷ operands condition absent absent  -- 13 not: c
    ∷ operands condition condition absent  -- 14 and: c, c
    ∷ operands expression expression absent  -- 15 equal: e, e
    ∷ operands expression list absent  -- 16 list: e, list
    ∷ operands absent absent absent  -- 17 list end
    ∷ operands expression absent absent  -- 18 wait: e (document 02, E3)
    ∷ operands expression absent absent  -- 19 notify: e
    ∷ operands expression absent absent  -- 20 notify all: e
    ∷ []

-- how many tags the table has
abbrev pub tag_count : ℕ
tag_count = 21

-- the row of a tag: "operands in the order below"; a tag past the table, which check 4 refuses, has none
unfoldable pub layout : ℕ → Row
unfolding table
layout tag = get_or table tag (operands absent absent absent)

-- a term as packed: its tag, each operand with its value, its spare bits
pub record Term : Type 0 where
  pub tag : ℕ
  pub first : Operand
  pub value₁ : ℕ
  pub second : Operand
  pub value₂ : ℕ
  pub third : Operand
  pub value₃ : ℕ
  pub spare : ℕ

-- "Term, 40 bits: tag 5, operands in the order below, spare bits.": the term of this tag and row that stands from bit i on
unfoldable pub laid_out : List ℕ → ℕ → ℕ → Row → Term
unfolding bits_at
laid_out b i k r =
    record {
      tag = k;
      first = r.first;
      value₁ = bits_at b (i + 5) (width r.first);
      second = r.second;
      value₂ = bits_at b (i + (5 + width r.first)) (width r.second);
      third = r.third;
      value₃ = bits_at b (i + (5 + width r.first + width r.second)) (width r.third);
      spare = bits_at b (i + (5 + width r.first + width r.second + width r.third)) (35 - (width r.first + width r.second + width r.third));
    }

-- the bit at which term t begins: the terms stand after the header, the mask and the procedures
unfoldable pub term_bit : List ℕ → ℕ → ℕ
unfolding procedures
term_bit b t = (8 + 2 * procedures b + 5 * t) * 8

-- "tag 5": the first five bits of term t
unfoldable pub tag_at : List ℕ → ℕ → ℕ
unfolding term_bit bits_at
tag_at b t = bits_at b (term_bit b t) 5

-- term t of the plan
unfoldable pub term_at : List ℕ → ℕ → Term
unfolding laid_out layout tag_at
term_at b t = laid_out b (term_bit b t) (tag_at b t) (layout (tag_at b t))
