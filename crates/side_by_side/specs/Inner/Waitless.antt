-- Programs without a wait (document 02, E10: "Plans of version 0 or with a wait are left out."): what a plan without `has_wait` has in its trees. For the
-- proofs; no reader of the entry's promise needs it. Assumes nothing.
use Rattle.std.specs.Prelude.{ℕ, ◌≡◌}
use Rattle.std.proofs.Math.Option.{some}
use Rattle.std.proofs.Math.ListN.{get_elem?}
use Rattle.plan_packed.specs.Syntax.{Signal, Expression, Condition, Arguments, Procedure, Program}

-- it is notify or notify all
abbrev pub NoWait : Signal → Type 0
NoWait Signal.wait = ⊥
NoWait Signal.notify = Unit {0}
NoWait Signal.notify_all = Unit {0}

-- no wait occurs in it
abbrev mutual
  pub Waitless : Expression → Type 0
  Waitless (Expression.literal o) = Unit {0}
  Waitless (Expression.variable x) = Unit {0}
  Waitless (Expression.new fs) = Unit {0}
  Waitless (Expression.read e f) = Waitless e
  Waitless (Expression.write e f e') = Waitless e × Waitless e'
  Waitless (Expression.let_in x e e') = Waitless e × Waitless e'
  Waitless (Expression.if c e e') = Waitlessᶜ c × Waitless e × Waitless e'
  Waitless (Expression.while c e) = Waitlessᶜ c × Waitless e
  Waitless (Expression.call m es) = Waitlessᵃ es
  Waitless (Expression.fork e) = Waitless e
  Waitless (Expression.join e) = Waitless e
  Waitless (Expression.synch e e') = Waitless e × Waitless e'
  Waitless (Expression.hold o e) = Waitless e
  Waitless (Expression.signal k e) = NoWait k × Waitless e
  Waitless (Expression.waiting o) = ⊥

  pub Waitlessᶜ : Condition → Type 0
  Waitlessᶜ Condition.truth = Unit {0}
  Waitlessᶜ (Condition.not c) = Waitlessᶜ c
  Waitlessᶜ (Condition.and c c') = Waitlessᶜ c × Waitlessᶜ c'
  Waitlessᶜ (Condition.equal e e') = Waitless e × Waitless e'

  pub Waitlessᵃ : Arguments → Type 0
  Waitlessᵃ Arguments.end = Unit {0}
  Waitlessᵃ (Arguments.argument e es) = Waitless e × Waitlessᵃ es

-- no wait occurs in a body
pub record WaitlessProgram (g : Program) : Type 0 where
  pub bodies : (m : ℕ) (d : Procedure) → get_elem? g.procedures m ≡ some d → Waitless d.body
