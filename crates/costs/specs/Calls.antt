-- Which procedures call which (document 02, E12, refusal 21). Assumes nothing.
use Rattle.std.specs.Prelude.{ℕ, zero, suc, Bool, true, false, ◌&&◌, ◌||◌, eqb, length}
use Rattle.std.proofs.Math.Option.{Option, some, none}
use Rattle.std.proofs.Math.ListN.{get_elem?}
use Rattle.plan_packed.specs.Syntax.{Expression, Condition, Arguments, Procedure, Program}
use Rattle.plan_packed.specs.Refusals.{any_below}

-- procedure q is called somewhere in it
unfoldable mutual
  pub calls : ℕ → Expression → Bool
  calls q (Expression.literal o) = false
  calls q (Expression.variable x) = false
  calls q (Expression.new fs) = false
  calls q (Expression.read e f) = calls q e
  calls q (Expression.write e f e') = calls q e || calls q e'
  calls q (Expression.let_in x e e') = calls q e || calls q e'
  calls q (Expression.if c e e') = callsᶜ q c || (calls q e || calls q e')
  calls q (Expression.while c e) = callsᶜ q c || calls q e
  calls q (Expression.call m es) = callsᵃ q es || eqb m q
  calls q (Expression.fork e) = calls q e
  calls q (Expression.join e) = calls q e
  calls q (Expression.synch e e') = calls q e || calls q e'
  calls q (Expression.hold o e) = calls q e
  calls q (Expression.signal k e) = calls q e
  calls q (Expression.waiting o) = false

  pub callsᶜ : ℕ → Condition → Bool
  callsᶜ q Condition.truth = false
  callsᶜ q (Condition.not c) = callsᶜ q c
  callsᶜ q (Condition.and c c') = callsᶜ q c || callsᶜ q c'
  callsᶜ q (Condition.equal e e') = calls q e || calls q e'

  pub callsᵃ : ℕ → Arguments → Bool
  callsᵃ q Arguments.end = false
  callsᵃ q (Arguments.argument e es) = calls q e || callsᵃ q es

-- a procedure's body calls q
abbrev pub calls_by : ℕ → Option Procedure → Bool
calls_by q none = false
calls_by q (some d) = calls q d.body

-- procedure p calls procedure q
unfoldable pub called : Program → ℕ → ℕ → Bool
unfolding calls
called g p q = calls_by q (get_elem? g.procedures p)

-- k calls and one more lead from procedure p to procedure q
unfoldable pub chain : Program → ℕ → ℕ → ℕ → Bool
unfolding called any_below
chain g zero p q = called g p q
chain g (suc k) p q = any_below (length g.procedures) (λ r. let rest = chain g k r q in called g p r && rest)

-- "calls anywhere in the plan form a cycle": some lead from a procedure to itself, whether or not anything calls it. A cycle of more calls than there are
-- procedures holds a shorter one.
unfoldable pub cyclic : Program → Bool
unfolding chain any_below
cyclic g = any_below (length g.procedures) (λ p. any_below (length g.procedures) (λ k. chain g k p p))
