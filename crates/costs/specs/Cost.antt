-- What a term costs (document 02, E12). Assumes nothing.
use Rattle.std.specs.Prelude.{ℕ, zero, suc, ◌+◌, max, ◌≡◌, length}
use Rattle.std.proofs.Math.Option.{Option, some, none}
use Rattle.std.proofs.Math.ListN.{get_elem?}
use Rattle.plan_packed.specs.Syntax.{Signal, Expression, Condition, Arguments, Procedure, Program}

-- "wait cost[s] one more": one move gives the monitor up, another takes it again
abbrev pub one_more : Signal → ℕ
one_more Signal.wait = 1
one_more Signal.notify = 0
one_more Signal.notify_all = 0

-- "Null, variable, true and list end cost 0, a list its parts. Any other term costs its parts and 1; synch and wait cost one more, a call adds the called
-- body, and if takes the dearer branch.": where the body of procedure m costs B m
unfoldable mutual
  pub cost : (ℕ → ℕ) → Expression → ℕ
  cost B (Expression.literal o) = 0
  cost B (Expression.variable x) = 0
  cost B (Expression.new fs) = 1
  cost B (Expression.read e f) = suc (cost B e)
  cost B (Expression.write e f e') = suc (cost B e + cost B e')
  cost B (Expression.let_in x e e') = suc (cost B e + cost B e')
  cost B (Expression.if c e e') = suc (costᶜ B c + max (cost B e) (cost B e'))
  cost B (Expression.while c e) = suc (costᶜ B c + cost B e)
  cost B (Expression.call m es) = suc (costᵃ B es + B m)
  cost B (Expression.fork e) = suc (cost B e)
  cost B (Expression.join e) = suc (cost B e)
  cost B (Expression.synch e e') = suc (suc (cost B e + cost B e'))
  cost B (Expression.hold o e) = suc (cost B e)  -- in execution only: the rest of a synch
  cost B (Expression.signal k e) = suc (cost B e + one_more k)
  cost B (Expression.waiting o) = 1  -- in execution only: the rest of a wait

  pub costᶜ : (ℕ → ℕ) → Condition → ℕ
  costᶜ B Condition.truth = 0
  costᶜ B (Condition.not c) = suc (costᶜ B c)
  costᶜ B (Condition.and c c') = suc (costᶜ B c + costᶜ B c')
  costᶜ B (Condition.equal e e') = suc (cost B e + cost B e')

  pub costᵃ : (ℕ → ℕ) → Arguments → ℕ
  costᵃ B Arguments.end = 0
  costᵃ B (Arguments.argument e es) = cost B e + costᵃ B es

-- the cost of a procedure's body
abbrev pub cost_of_body : (ℕ → ℕ) → Option Procedure → ℕ
cost_of_body B none = 0
cost_of_body B (some d) = cost B d.body

-- "a call adds the called body": B m is what the body of procedure m costs, for every procedure, and 0 where there is none
pub record Costs (g : Program) (B : ℕ → ℕ) : Type 0 where
  pub bodies : (m : ℕ) → cost_of_body B (get_elem? g.procedures m) ≡ B m

-- what the body of procedure m costs, where at most k calls stand one in the other
unfoldable pub body_cost : Program → ℕ → ℕ → ℕ
unfolding cost
body_cost g zero m = 0
body_cost g (suc k) m = cost_of_body (body_cost g k) (get_elem? g.procedures m)

-- "The total is main's body and 1.": where calls form no cycle, no more of them stand one in the other than there are procedures
unfoldable pub total : Program → ℕ
unfolding body_cost
total g = suc (body_cost g (length g.procedures) 0)
