-- What the machine's parts stand for: closures, frames, what is ready, what is found, results. Assumes nothing.
use Prim.Native.Nat.{ℕ}
use mathlib.Core.List.{List, [], ◌∷◌}
use mathlib.Core.Option.{Option, none}
use Rattle.plan_packed.specs.Syntax.{Expression, Condition, Arguments, literal, without, substitute, substituteᶜ, substituteᵃ}
use Rattle.plan_packed.specs.Trees.{Node}
use Rattle.plan_packed.proofs.TreeLaws.{tree, treeᶜ, treeᵃ}
use Rattle.rules.specs.Context.{Context, Contextᶜ, Redex, Redexᶜ, Focus}
use Rattle.machine.specs.Inner.Frames.{Closure, Branches, first_of, second_of, Frame, read, write₁, write₂, call, let_in, synch, hold, join, signal, equal₁}
use Rattle.machine.specs.Inner.Frames.{equal₂, if, and, not, while_test, while_body, Ready, Readyᶜ, Found, Result}
use Rattle.machine.proofs.Substitution.{every, first_slots}

module _ (h : ℕ → Node) (N : ℕ) where
  abbrev pub expression_in : Closure → Expression
  expression_in x = substitute (every x.slots) (tree h N x.at)

  abbrev pub condition_in : Closure → Condition
  condition_in x = substituteᶜ (every x.slots) (treeᶜ h N x.at)

  abbrev pub arguments_in : Closure → Arguments
  arguments_in x = substituteᵃ (every x.slots) (treeᵃ h N x.at)

  -- the second operand of a let
  abbrev pub body_in : Option ℕ → Closure → Expression
  body_in x y = substitute (without x (every y.slots)) (tree h N y.at)

  -- while c do e
  abbrev pub while_in : Branches → Expression
  while_in x = Expression.while (condition_in (first_of x)) (expression_in (second_of x))

  -- e; while c do e
  abbrev pub turn_in : Branches → Expression
  turn_in x = Expression.let_in none (expression_in (second_of x)) (while_in x)

  -- a hole of the other sort, where no run comes
  abbrev pub elsewhere : Contextᶜ
  elsewhere = Contextᶜ.if Context.top (literal 0) (literal 0)

  abbrev mutual
    pub context : List Frame → Context
    context [] = Context.top
    context (read f ∷ S) = Context.read (context S) f
    context (write₁ f x ∷ S) = Context.write₁ (context S) f (expression_in x)
    context (write₂ o f ∷ S) = Context.write₂ (context S) o f
    context (call m n σ x ∷ S) = Context.call (context S) m (first_slots n σ) (arguments_in x)
    context (let_in x y ∷ S) = Context.let_in (context S) x (body_in x y)
    context (synch x ∷ S) = Context.synch (context S) (expression_in x)
    context (hold o ∷ S) = Context.hold (context S) o
    context (join ∷ S) = Context.join (context S)
    context (signal j ∷ S) = Context.signal (context S) j
    context (equal₁ x ∷ S) = Context.equal₁ (contextᶜ S) (expression_in x)
    context (equal₂ o ∷ S) = Context.equal₂ (contextᶜ S) o
    context (if x ∷ S) = Context.top
    context (and x ∷ S) = Context.top
    context (not ∷ S) = Context.top
    context (while_test x ∷ S) = Context.top
    context (while_body x ∷ S) = Context.let_in (context S) none (while_in x)

    pub contextᶜ : List Frame → Contextᶜ
    contextᶜ [] = elsewhere
    contextᶜ (if x ∷ S) = Contextᶜ.if (context S) (expression_in (first_of x)) (expression_in (second_of x))
    contextᶜ (and x ∷ S) = Contextᶜ.and (contextᶜ S) (condition_in x)
    contextᶜ (not ∷ S) = Contextᶜ.not (contextᶜ S)
    contextᶜ (while_test x ∷ S) = Contextᶜ.if (context S) (turn_in x) (literal 0)
    contextᶜ (read f ∷ S) = elsewhere
    contextᶜ (write₁ f x ∷ S) = elsewhere
    contextᶜ (write₂ o f ∷ S) = elsewhere
    contextᶜ (call m n σ x ∷ S) = elsewhere
    contextᶜ (let_in x y ∷ S) = elsewhere
    contextᶜ (synch x ∷ S) = elsewhere
    contextᶜ (hold o ∷ S) = elsewhere
    contextᶜ (join ∷ S) = elsewhere
    contextᶜ (signal j ∷ S) = elsewhere
    contextᶜ (equal₁ x ∷ S) = elsewhere
    contextᶜ (equal₂ o ∷ S) = elsewhere
    contextᶜ (while_body x ∷ S) = elsewhere

  abbrev pub redex_of : Ready → Redex
  redex_of (Ready.new fs) = Redex.new fs
  redex_of (Ready.read o f) = Redex.read o f
  redex_of (Ready.write o f v) = Redex.write o f v
  redex_of (Ready.let_in x o y) = Redex.let_in x o (body_in x y)
  redex_of (Ready.if b x) = Redex.if b (expression_in (first_of x)) (expression_in (second_of x))
  redex_of (Ready.while x) = Redex.while (condition_in (first_of x)) (expression_in (second_of x))
  redex_of (Ready.call m n σ) = Redex.call m (first_slots n σ)
  redex_of (Ready.fork x) = Redex.fork (expression_in x)
  redex_of (Ready.join o) = Redex.join o
  redex_of (Ready.synch o x) = Redex.synch o (expression_in x)
  redex_of (Ready.hold o v) = Redex.hold o v
  redex_of (Ready.signal j o) = Redex.signal j o
  redex_of (Ready.waiting o) = Redex.waiting o
  redex_of (Ready.while_test b x) = Redex.if b (turn_in x) (literal 0)
  redex_of (Ready.while_body o x) = Redex.let_in none o (while_in x)

  abbrev pub redexᶜ : Readyᶜ → Redexᶜ
  redexᶜ Readyᶜ.not_false = Redexᶜ.not_false
  redexᶜ (Readyᶜ.and b x) = Redexᶜ.and b (condition_in x)
  redexᶜ (Readyᶜ.equal o o') = Redexᶜ.equal o o'

  abbrev pub mean : Found → Focus
  mean (Found.value o) = Focus.value o
  mean (Found.here S r) = Focus.here (context S) (redex_of r)
  mean (Found.hereᶜ S r) = Focus.hereᶜ (contextᶜ S) (redexᶜ r)

  -- what a rule leaves
  abbrev pub result_of : Result → Expression
  result_of (Result.value v) = literal v
  result_of (Result.run x) = expression_in x
  result_of (Result.held o x) = Expression.hold o (expression_in x)
  result_of (Result.while_test x) = Expression.if (condition_in (first_of x)) (turn_in x) (literal 0)
  result_of (Result.while_body x) = turn_in x
  result_of (Result.while_again x) = while_in x
  result_of (Result.waiting o) = Expression.waiting o
