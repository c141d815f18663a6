-- The measure of an expression: its cost, but that the value false, `not true`, has none; it is at most the cost, substitution leaves it, and in a
-- context it falls with what is in the hole. Assumes nothing.
use Prim.Native.Nat.{ℕ, zero, suc, ◌+◌, ◌<◌, ◌≤◌, max}
use native.Mathlib.Omega.{arith}
use mathlib.Core.Path.{◌≡◌, refl, sym, ap, ap₂, ◌∙◌, subst as along}
use mathlib.Core.Bool.{Bool, true, false, cond}
use mathlib.Core.List.{List, [], ◌∷◌}
use mathlib.Core.Option.{Option, some, none}
use lib.Dec.{eqb}
use Rattle.plan_packed.specs.Syntax.{Signal, Expression, Condition, Arguments, literal, end, argument, Environment, without, value_or, substitute, substituteᶜ}
use Rattle.plan_packed.specs.Syntax.{substituteᵃ, bool}
use Rattle.rules.specs.Context.{Context, Contextᶜ, plug, plugᶜ, literals, is_truth}
use Rattle.costs.specs.Cost.{one_more, cost, costᶜ, costᵃ}

module _ (B : ℕ → ℕ) where
  -- a negation of true is a value
  abbrev negated : Bool → ℕ → ℕ
  negated true n = 0
  negated false n = suc n

  unfoldable mutual
    unfolding is_truth

    pub measure : Expression → ℕ
    measure (Expression.literal o) = 0
    measure (Expression.variable x) = 0
    measure (Expression.new fs) = 1
    measure (Expression.read e f) = suc (measure e)
    measure (Expression.write e f e') = suc (measure e + measure e')
    measure (Expression.let_in x e e') = suc (measure e + measure e')
    measure (Expression.if c e e') = suc (measureᶜ c + max (measure e) (measure e'))
    measure (Expression.while c e) = suc (measureᶜ c + measure e)
    measure (Expression.call m es) = suc (measureᵃ es + B m)
    measure (Expression.fork e) = suc (measure e)
    measure (Expression.join e) = suc (measure e)
    measure (Expression.synch e e') = suc (suc (measure e + measure e'))
    measure (Expression.hold o e) = suc (measure e)
    measure (Expression.signal k e) = suc (measure e + one_more k)
    measure (Expression.waiting o) = 1

    pub measureᶜ : Condition → ℕ
    measureᶜ Condition.truth = 0
    measureᶜ (Condition.not c) = negated (is_truth c) (measureᶜ c)
    measureᶜ (Condition.and c c') = suc (measureᶜ c + measureᶜ c')
    measureᶜ (Condition.equal e e') = suc (measure e + measure e')

    pub measureᵃ : Arguments → ℕ
    measureᵃ Arguments.end = 0
    measureᵃ (Arguments.argument e es) = measure e + measureᵃ es

  negated_most : (b : Bool) (n m : ℕ) → n ≤ m → negated b n ≤ suc m
  negated_most true n m h = omega arith
  negated_most false n m h = omega arith

  mutual
    unfolding measure cost

    pub at_most : (e : Expression) → measure e ≤ cost B e
    at_most (Expression.literal o) = omega arith
    at_most (Expression.variable x) = omega arith
    at_most (Expression.new fs) = omega arith
    at_most (Expression.read e f) = let a = at_most e in omega arith
    at_most (Expression.write e f e') = let a = at_most e in let b = at_most e' in omega arith
    at_most (Expression.let_in x e e') = let a = at_most e in let b = at_most e' in omega arith
    at_most (Expression.if c e e') = let d = at_mostᶜ c in let a = at_most e in let b = at_most e' in omega arith
    at_most (Expression.while c e) = let d = at_mostᶜ c in let a = at_most e in omega arith
    at_most (Expression.call m es) = let a = at_mostᵃ es in omega arith
    at_most (Expression.fork e) = let a = at_most e in omega arith
    at_most (Expression.join e) = let a = at_most e in omega arith
    at_most (Expression.synch e e') = let a = at_most e in let b = at_most e' in omega arith
    at_most (Expression.hold o e) = let a = at_most e in omega arith
    at_most (Expression.signal k e) = let a = at_most e in let b = one_more k in omega arith
    at_most (Expression.waiting o) = omega arith

    at_mostᶜ : (c : Condition) → measureᶜ c ≤ costᶜ B c
    at_mostᶜ Condition.truth = omega arith
    at_mostᶜ (Condition.not c) = negated_most (is_truth c) (measureᶜ c) (costᶜ B c) (at_mostᶜ c)
    at_mostᶜ (Condition.and c c') = let a = at_mostᶜ c in let b = at_mostᶜ c' in omega arith
    at_mostᶜ (Condition.equal e e') = let a = at_most e in let b = at_most e' in omega arith

    at_mostᵃ : (es : Arguments) → measureᵃ es ≤ costᵃ B es
    at_mostᵃ Arguments.end = omega arith
    at_mostᵃ (Arguments.argument e es) = let a = at_most e in let b = at_mostᵃ es in omega arith

  -- ---- substitution

  slot : (x : ℕ) (v : Option ℕ) → measure (value_or x v) ≡ 0
  unfolding measure value_or
  slot x (some o) = refl
  slot x none = refl

  truth_kept : (ρ : Environment) (c : Condition) → is_truth (substituteᶜ ρ c) ≡ is_truth c
  unfolding substitute is_truth
  truth_kept ρ Condition.truth = refl
  truth_kept ρ (Condition.not c) = refl
  truth_kept ρ (Condition.and c c') = refl
  truth_kept ρ (Condition.equal e e') = refl

  mutual
    unfolding measure substitute

    pub filled : (ρ : Environment) (e : Expression) → measure (substitute ρ e) ≡ measure e
    filled ρ (Expression.literal o) = refl
    filled ρ (Expression.variable x) = slot x (ρ x)
    filled ρ (Expression.new fs) = refl
    filled ρ (Expression.read e f) = ap suc (filled ρ e)
    filled ρ (Expression.write e f e') = ap suc (ap₂ ◌+◌ (filled ρ e) (filled ρ e'))
    filled ρ (Expression.let_in x e e') = ap suc (ap₂ ◌+◌ (filled ρ e) (filled (without x ρ) e'))
    filled ρ (Expression.if c e e') = ap suc (ap₂ ◌+◌ (filledᶜ ρ c) (ap₂ max (filled ρ e) (filled ρ e')))
    filled ρ (Expression.while c e) = ap suc (ap₂ ◌+◌ (filledᶜ ρ c) (filled ρ e))
    filled ρ (Expression.call m es) = ap (λ (n : ℕ). suc (n + B m)) (filledᵃ ρ es)
    filled ρ (Expression.fork e) = ap suc (filled ρ e)
    filled ρ (Expression.join e) = ap suc (filled ρ e)
    filled ρ (Expression.synch e e') = ap (λ (n : ℕ). suc (suc n)) (ap₂ ◌+◌ (filled ρ e) (filled ρ e'))
    filled ρ (Expression.hold o e) = ap suc (filled ρ e)
    filled ρ (Expression.signal k e) = ap (λ (n : ℕ). suc (n + one_more k)) (filled ρ e)
    filled ρ (Expression.waiting o) = refl

    filledᶜ : (ρ : Environment) (c : Condition) → measureᶜ (substituteᶜ ρ c) ≡ measureᶜ c
    filledᶜ ρ Condition.truth = refl
    filledᶜ ρ (Condition.not c) = ap₂ negated (truth_kept ρ c) (filledᶜ ρ c)
    filledᶜ ρ (Condition.and c c') = ap suc (ap₂ ◌+◌ (filledᶜ ρ c) (filledᶜ ρ c'))
    filledᶜ ρ (Condition.equal e e') = ap suc (ap₂ ◌+◌ (filled ρ e) (filled ρ e'))

    filledᵃ : (ρ : Environment) (es : Arguments) → measureᵃ (substituteᵃ ρ es) ≡ measureᵃ es
    filledᵃ ρ Arguments.end = refl
    filledᵃ ρ (Arguments.argument e es) = ap₂ ◌+◌ (filled ρ e) (filledᵃ ρ es)

  -- ---- contexts

  pub listed : (os : List ℕ) (es : Arguments) → measureᵃ (literals os es) ≡ measureᵃ es
  unfolding measure literals
  listed [] es = refl
  listed (o ∷ os) es = omega (arith, listed os es)

  not_less : (d : ℕ) (c c' : Condition) → is_truth c ≡ false → measureᶜ c' + d < measureᶜ c → measureᶜ (Condition.not c') + d < measureᶜ (Condition.not c)
  unfolding measure
  not_less d c c' t h = let a = negated_most (is_truth c') (measureᶜ c') (measureᶜ c') (omega arith) in let b : measureᶜ (Condition.not c) ≡ suc (measureᶜ c) =
      ap (λ (x : Bool). negated x (measureᶜ c)) t in omega arith

  module _ (d : ℕ) where
    mutual
      unfolding measure plug is_truth

      -- where the hole's part falls by more than d, the whole does
      pub plug_less : (K : Context) (e e' : Expression) → measure e' + d < measure e → measure (plug K e') + d < measure (plug K e)
      plug_less Context.top e e' h = h
      plug_less (Context.read K f) e e' h = plug_less K _ _ (omega arith)
      plug_less (Context.write₁ K f w) e e' h = plug_less K _ _ (omega arith)
      plug_less (Context.write₂ K o f) e e' h = plug_less K _ _ (omega arith)
      plug_less (Context.call K m os es) e e' h = plug_less K _ _ (omega (arith, listed os (argument e es), listed os (argument e' es)))
      plug_less (Context.let_in K x w) e e' h = plug_less K _ _ (omega arith)
      plug_less (Context.synch K w) e e' h = plug_less K _ _ (omega arith)
      plug_less (Context.hold K o) e e' h = plug_less K _ _ (omega arith)
      plug_less (Context.join K) e e' h = plug_less K _ _ (omega arith)
      plug_less (Context.signal K k) e e' h = plug_less K _ _ (let n = one_more k in omega arith)
      plug_less (Context.equal₁ K w) e e' h = plug_lessᶜ K _ _ refl (omega arith)
      plug_less (Context.equal₂ K o) e e' h = plug_lessᶜ K _ _ refl (omega arith)

      pub plug_lessᶜ : (K : Contextᶜ) (c c' : Condition) → is_truth c ≡ false → measureᶜ c' + d < measureᶜ c → measure (plugᶜ K c') + d < measure (plugᶜ K c)
      plug_lessᶜ (Contextᶜ.if K w w') c c' t h = plug_less K _ _ (omega arith)
      plug_lessᶜ (Contextᶜ.and K w) c c' t h = plug_lessᶜ K _ _ refl (omega arith)
      plug_lessᶜ (Contextᶜ.not K) c c' t h = plug_lessᶜ K _ _ refl (not_less d c c' t h)
