-- Depth, by computation: what each construct counts for around the part that moves next. Assumes nothing.
use Prim.Native.Nat.{ℕ}
use mathlib.Core.Path.{◌≡◌, refl}
use mathlib.Core.List.{List, [], ◌∷◌, map}
use mathlib.Core.Option.{none}
use Rattle.plan_packed.specs.Syntax.{Expression, Condition, Signal, literal, end, argument}
use Rattle.rules.specs.Context.{expression_depth}
use Rattle.rules.specs.State.{expressions}

-- an expression, and the number of constructs around the part of it that moves next
record Sample : Type 0 where
  expression : Expression
  depth : ℕ

abbrev sample : Expression → ℕ → Sample
sample e n = record { expression = e; depth = n }

-- a part that moves next wherever it stands
abbrev part : Expression
part = Expression.while Condition.truth (literal 0)

-- `if c then null else null`
abbrev if_then : Condition → Expression
if_then c = Expression.if c (literal 0) (literal 0)

abbrev samples : List Sample
samples =
    -- "and 0 for a value"
    sample (literal 3) 0
    ∷ sample part 0
    -- "the number of constructs around the part that moves next"
    ∷ sample (Expression.read part 1) 1
    ∷ sample (Expression.write part 1 part) 1
    ∷ sample (Expression.write (literal 1) 1 part) 1
    ∷ sample (Expression.let_in none part part) 1
    ∷ sample (Expression.join part) 1
    ∷ sample (Expression.signal Signal.wait part) 1
    ∷ sample (Expression.synch part part) 1
    ∷ sample (Expression.hold 0 part) 1
    ∷ sample (Expression.hold 0 (Expression.hold 1 (Expression.read part 1))) 3
    ∷ sample (if_then (Condition.equal part part)) 2
    ∷ sample (if_then (Condition.equal (literal 0) part)) 2
    ∷ sample (if_then (Condition.not (Condition.equal part part))) 3
    ∷ sample (if_then (Condition.and (Condition.equal part part) Condition.truth)) 3
    -- "a call with its whole list being one"
    ∷ sample (Expression.call 0 (argument (literal 0) (argument part (argument part end)))) 1
    -- what is not evaluated in place is not around the part that moves next
    ∷ sample (Expression.fork (Expression.read part 1)) 0
    ∷ sample (Expression.synch (literal 0) (Expression.read part 1)) 0
    ∷ sample (Expression.let_in none (literal 0) (Expression.read part 1)) 0
    ∷ sample (if_then Condition.truth) 0
    ∷ sample (if_then (Condition.and Condition.truth (Condition.equal part part))) 1
    ∷ []

depths : map (λ (x : Sample). expressions.depth x.expression) samples ≡ map (λ (x : Sample). x.depth) samples
unfolding expression_depth
depths = refl
