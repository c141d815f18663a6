-- What the check gives of the trees of a plan that passes. Assumes nothing.
use Prim.Native.Nat.{ℕ, suc, ◌<◌}
use mathlib.Core.Path.{◌≡◌}
use mathlib.Core.Bool.{Bool, false}
use mathlib.Core.Option.{some}
use lib.Dec.{T, ltb}
use lib.ListN.{get_elem?}
use Rattle.plan_packed.specs.Syntax.{Expression, Condition, Arguments, Procedure, Program}
use Rattle.plan_packed.specs.Slots.{bound}

-- how long a call's list is
abbrev pub count : Arguments → ℕ
count Arguments.end = 0
count (Arguments.argument e es) = suc (count es)

-- procedure m is there, and has k parameters
abbrev pub Callable : Program → ℕ → ℕ → Type 0
Callable g m k = (d : Procedure) × (get_elem? g.procedures m ≡ some d) × (d.parameters ≡ k)

-- no slot is bound
abbrev pub unbound : ℕ → Bool
unbound x = false

-- Text of a plan, where ρ are the bound slots and there are n objects: every slot is bound, every literal is an object, a field that is read or
-- written is 1 to 31, a call has its procedure and its count of arguments, and there is no `hold`.
abbrev mutual
  pub WellFormed : Program → ℕ → (ℕ → Bool) → Expression → Type 0
  WellFormed g n ρ (Expression.literal o) = o < n
  WellFormed g n ρ (Expression.variable x) = T (ρ x)
  WellFormed g n ρ (Expression.new fs) = Unit {0}
  WellFormed g n ρ (Expression.read e f) = (0 < f) × (f < 32) × WellFormed g n ρ e
  WellFormed g n ρ (Expression.write e f e') = (0 < f) × (f < 32) × WellFormed g n ρ e × WellFormed g n ρ e'
  WellFormed g n ρ (Expression.let_in x e e') = WellFormed g n ρ e × WellFormed g n (bound x ρ) e'
  WellFormed g n ρ (Expression.if c e e') = WellFormedᶜ g n ρ c × WellFormed g n ρ e × WellFormed g n ρ e'
  WellFormed g n ρ (Expression.while c e) = WellFormedᶜ g n ρ c × WellFormed g n ρ e
  WellFormed g n ρ (Expression.call m es) = Callable g m (count es) × WellFormedᵃ g n ρ es
  WellFormed g n ρ (Expression.fork e) = WellFormed g n ρ e
  WellFormed g n ρ (Expression.join e) = WellFormed g n ρ e
  WellFormed g n ρ (Expression.synch e e') = WellFormed g n ρ e × WellFormed g n ρ e'
  WellFormed g n ρ (Expression.hold o e) = ⊥
  WellFormed g n ρ (Expression.signal k e) = WellFormed g n ρ e
  WellFormed g n ρ (Expression.waiting o) = ⊥

  pub WellFormedᶜ : Program → ℕ → (ℕ → Bool) → Condition → Type 0
  WellFormedᶜ g n ρ Condition.truth = Unit {0}
  WellFormedᶜ g n ρ (Condition.not c) = WellFormedᶜ g n ρ c
  WellFormedᶜ g n ρ (Condition.and c c') = WellFormedᶜ g n ρ c × WellFormedᶜ g n ρ c'
  WellFormedᶜ g n ρ (Condition.equal e e') = WellFormed g n ρ e × WellFormed g n ρ e'

  pub WellFormedᵃ : Program → ℕ → (ℕ → Bool) → Arguments → Type 0
  WellFormedᵃ g n ρ Arguments.end = Unit {0}
  WellFormedᵃ g n ρ (Arguments.argument e es) = WellFormed g n ρ e × WellFormedᵃ g n ρ es

-- main is there, without parameters, and the body of every procedure is text over its parameters and null
pub record WellFormedProgram (g : Program) : Type 0 where
  pub main : Callable g 0 0
  pub bodies : (m : ℕ) (d : Procedure) → get_elem? g.procedures m ≡ some d → WellFormed g 1 (λ x. ltb x d.parameters) d.body
