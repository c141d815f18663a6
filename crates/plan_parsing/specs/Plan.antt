-- How a plan's text is read (docs/FORMAT.md, "A plan as text"). Assumes nothing.
use Rattle.std.specs.Prelude.{ℕ, zero, suc, ◌+◌, ◌-◌, ◌^◌, Bool, cond, not, ◌&&◌, ◌||◌, List, [], ◌∷◌, ◌++◌, eqb, ltb, leb, length, get_or, drop}
use Rattle.format.specs.Version.{Version, version_of}
use Rattle.plan_packed.specs.Syntax.{Procedure, Program}
use Rattle.plan_packed.specs.Slots.{closed}
use Rattle.plan_notation.specs.Tokens as tokens
use Rattle.plan_notation.specs.Tokens.{version_word, volatile_word, procedure_word, opening, closing, equals, text_end}
use Rattle.plan_notation.specs.Shown.{loose}
use Rattle.plan_parsing.specs.Goals.{expression, Goal, expect, operand, count, Value, number, number_in, expression_in, value_at}
use Rattle.plan_parsing.specs.Parser.{ahead, Reason, parse, Parsed, parsed, stopped}

-- why a text is no plan: reading stops; the version is none of 0 and 1; a procedure uses a slot that nothing binds; there is more behind the last procedure
pub data Fault : Type 0 where
  reading : Reason → Fault
  version slots end : Fault

-- a plan, or where reading stops, before which tokens, and why
pub data Reading : Type 0 where
  plan : Program → Reading
  fault : Fault → List ℕ → Reading

-- ---- what procedures there are

-- the parameter counts behind the word `procedure`, as far as there are any; main, which is first, has none
unfoldable pub counts_from : List ℕ → List ℕ
counts_from [] = []
counts_from (t ∷ ts) = let rest = counts_from ts in cond (eqb t procedure_word) (ahead ts 2 ∷ rest) rest

unfoldable pub counts_of : List ℕ → List ℕ
unfolding counts_from
counts_of ts = 0 ∷ counts_from ts

-- ---- the procedures

-- `procedure 1 (2) = e`; main is an expression
unfoldable pub procedure_goals : ℕ → List Goal
procedure_goals zero = operand loose expression ∷ []
procedure_goals (suc p) = expect procedure_word ∷ expect (suc p) ∷ expect opening ∷ count ∷ expect closing ∷ expect equals ∷ operand loose expression ∷ []

-- the procedures before one, of a version and a mask
pub record Before : Type 0 where
  pub version : ℕ
  pub mask : ℕ
  pub procedures : List Procedure

unfoldable pub program_by : Before → Program
unfolding version_of
program_by b = record { version = version_of b.version; volatiles = b.mask; procedures = b.procedures }

unfoldable pub with_procedure : Before → ℕ → List Value → Before
unfolding number_in expression_in
with_procedure b k vs =
    record {
      version = b.version;
      mask = b.mask;
      procedures = b.procedures ++ (record { parameters = k; body = expression_in (value_at vs 0) } ∷ []);
    }

-- a procedure that has been read, or not, and what follows it
unfoldable pub after_procedure : (Before → ℕ → List ℕ → Reading) → Before → List ℕ → Parsed → Reading
unfolding program_by with_procedure closed number_in expression_in
after_procedure next b ts (stopped r rest) = fault (Fault.reading r) rest
after_procedure next b ts (parsed vs n rest) =
    let k = number_in (value_at vs 1) in
    cond (not (closed (λ x. ltb x k) (expression_in (value_at vs 0)))) (fault Fault.slots ts)
    (cond (eqb (ahead rest 0) text_end) (plan (program_by (with_procedure b k vs))) (next (with_procedure b k vs) n rest))

-- procedure p and those behind it, at most so many; n terms are left to be made
unfoldable pub procedures_by : List ℕ → ℕ → ℕ → Before → ℕ → List ℕ → Reading
unfolding after_procedure parse procedure_goals
procedures_by counts zero p b n ts = fault Fault.end ts
procedures_by counts (suc most) p b n ts =
    let r = parse counts (procedure_goals p) (number 0 ∷ []) n ts in
    after_procedure (λ (b' : Before) (n' : ℕ) (ts' : List ℕ). procedures_by counts most (suc p) b' n' ts') b ts r

-- ---- the plan

-- behind `volatile`: fields, each higher than the one before
unfoldable pub mask_from : ℕ → ℕ → List ℕ → ℕ
mask_from m f [] = m
mask_from m f (t ∷ ts) = cond (ltb f t && ltb t 32) (mask_from (m + 2 ^ (31 - t)) t ts) m

unfoldable pub behind_fields : ℕ → List ℕ → List ℕ
behind_fields f [] = []
behind_fields f (t ∷ ts) = cond (ltb f t && ltb t 32) (behind_fields t ts) (t ∷ ts)

-- field 0, the monitor, is volatile in every plan
unfoldable pub with_volatiles : List ℕ → ℕ → List ℕ → Reading
unfolding mask_from behind_fields procedures_by
with_volatiles counts v ts =
    cond (eqb (ahead ts 0) volatile_word)
    (procedures_by counts 32 0 (record { version = v; mask = mask_from (2 ^ 31) 0 (drop 1 ts); procedures = [] }) 1024 (behind_fields 0 (drop 1 ts)))
    (procedures_by counts 32 0 (record { version = v; mask = 2 ^ 31; procedures = [] }) 1024 ts)

-- a plan without a version is of version 1
unfoldable pub read_plan : List ℕ → Reading
unfolding counts_of with_volatiles
read_plan ts =
    cond (eqb (ahead ts 0) version_word)
    (cond (ltb (ahead ts 1) 2) (with_volatiles (counts_of ts) (ahead ts 1) (drop 2 ts)) (fault Fault.version (drop 1 ts)))
    (with_volatiles (counts_of ts) 1 ts)
