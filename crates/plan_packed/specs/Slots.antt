-- Slots that are bound (document 01, refusal 7). Assumes nothing.
use Rattle.std.specs.Prelude.{ℕ, Bool, true, ◌&&◌, ◌||◌, eqb}
use Rattle.std.proofs.Math.Option.{Option, some, none}
use Rattle.plan_packed.specs.Syntax.{Expression, Condition, Arguments}

-- "A let binds its slot in its second operand only": the slots bound there
unfoldable pub bound : Option ℕ → (ℕ → Bool) → ℕ → Bool
bound none ρ y = ρ y
bound (some x) ρ y = eqb x y || ρ y

-- every slot that is used is one that ρ or an enclosing let binds
unfoldable mutual
  unfolding bound

  pub closed : (ℕ → Bool) → Expression → Bool
  closed ρ (Expression.literal o) = true
  closed ρ (Expression.variable x) = ρ x
  closed ρ (Expression.new fs) = true
  closed ρ (Expression.read e f) = closed ρ e
  closed ρ (Expression.write e f e') = closed ρ e && closed ρ e'
  closed ρ (Expression.let_in x e e') = closed ρ e && closed (bound x ρ) e'
  closed ρ (Expression.if c e e') = closedᶜ ρ c && closed ρ e && closed ρ e'
  closed ρ (Expression.while c e) = closedᶜ ρ c && closed ρ e
  closed ρ (Expression.call m es) = closedᵃ ρ es
  closed ρ (Expression.fork e) = closed ρ e
  closed ρ (Expression.join e) = closed ρ e
  closed ρ (Expression.synch e e') = closed ρ e && closed ρ e'
  closed ρ (Expression.hold o e) = closed ρ e
  closed ρ (Expression.signal k e) = closed ρ e
  closed ρ (Expression.waiting o) = true

  pub closedᶜ : (ℕ → Bool) → Condition → Bool
  closedᶜ ρ Condition.truth = true
  closedᶜ ρ (Condition.not c) = closedᶜ ρ c
  closedᶜ ρ (Condition.and c c') = closedᶜ ρ c && closedᶜ ρ c'
  closedᶜ ρ (Condition.equal e e') = closed ρ e && closed ρ e'

  pub closedᵃ : (ℕ → Bool) → Arguments → Bool
  closedᵃ ρ Arguments.end = true
  closedᵃ ρ (Arguments.argument e es) = closed ρ e && closedᵃ ρ es
