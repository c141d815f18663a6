-- Expressions without a while: substitution and moves within a context bring none in. Assumes nothing.
use Prim.Native.Nat.{ℕ}
use mathlib.Core.List.{List, [], ◌∷◌}
use mathlib.Core.Option.{Option, some, none}
use Rattle.plan_packed.specs.Syntax.{Expression, Condition, Arguments, literal, argument, Environment, without, value_or, substitute, substituteᶜ, substituteᵃ}
use Rattle.rules.specs.Context.{Context, Contextᶜ, plug, plugᶜ, literals}

-- no while occurs in it
abbrev mutual
  pub Loopless : Expression → Type 0
  Loopless (Expression.literal o) = Unit {0}
  Loopless (Expression.variable x) = Unit {0}
  Loopless (Expression.new fs) = Unit {0}
  Loopless (Expression.read e f) = Loopless e
  Loopless (Expression.write e f e') = Loopless e × Loopless e'
  Loopless (Expression.let_in x e e') = Loopless e × Loopless e'
  Loopless (Expression.if c e e') = Looplessᶜ c × Loopless e × Loopless e'
  Loopless (Expression.while c e) = ⊥
  Loopless (Expression.call m es) = Looplessᵃ es
  Loopless (Expression.fork e) = Loopless e
  Loopless (Expression.join e) = Loopless e
  Loopless (Expression.synch e e') = Loopless e × Loopless e'
  Loopless (Expression.hold o e) = Loopless e
  Loopless (Expression.signal k e) = Loopless e
  Loopless (Expression.waiting o) = Unit {0}

  pub Looplessᶜ : Condition → Type 0
  Looplessᶜ Condition.truth = Unit {0}
  Looplessᶜ (Condition.not c) = Looplessᶜ c
  Looplessᶜ (Condition.and c c') = Looplessᶜ c × Looplessᶜ c'
  Looplessᶜ (Condition.equal e e') = Loopless e × Loopless e'

  pub Looplessᵃ : Arguments → Type 0
  Looplessᵃ Arguments.end = Unit {0}
  Looplessᵃ (Arguments.argument e es) = Loopless e × Looplessᵃ es

-- ---- none comes in by substitution

slot_loopless : (x : ℕ) (v : Option ℕ) → Loopless (value_or x v)
unfolding value_or
slot_loopless x (some o) = tt
slot_loopless x none = tt

mutual
  unfolding substitute

  pub filled_loopless : (ρ : Environment) (e : Expression) → Loopless e → Loopless (substitute ρ e)
  filled_loopless ρ (Expression.literal o) h = tt
  filled_loopless ρ (Expression.variable x) h = slot_loopless x (ρ x)
  filled_loopless ρ (Expression.new fs) h = tt
  filled_loopless ρ (Expression.read e f) h = filled_loopless ρ e h
  filled_loopless ρ (Expression.write e f e') h = (filled_loopless ρ e h.0, filled_loopless ρ e' h.1)
  filled_loopless ρ (Expression.let_in x e e') h = (filled_loopless ρ e h.0, filled_loopless (without x ρ) e' h.1)
  filled_loopless ρ (Expression.if c e e') h = (filled_looplessᶜ ρ c h.0, filled_loopless ρ e h.1, filled_loopless ρ e' h.2)
  filled_loopless ρ (Expression.while c e) h = absurd h
  filled_loopless ρ (Expression.call m es) h = filled_looplessᵃ ρ es h
  filled_loopless ρ (Expression.fork e) h = filled_loopless ρ e h
  filled_loopless ρ (Expression.join e) h = filled_loopless ρ e h
  filled_loopless ρ (Expression.synch e e') h = (filled_loopless ρ e h.0, filled_loopless ρ e' h.1)
  filled_loopless ρ (Expression.hold o e) h = filled_loopless ρ e h
  filled_loopless ρ (Expression.signal k e) h = filled_loopless ρ e h
  filled_loopless ρ (Expression.waiting o) h = tt

  filled_looplessᶜ : (ρ : Environment) (c : Condition) → Looplessᶜ c → Looplessᶜ (substituteᶜ ρ c)
  filled_looplessᶜ ρ Condition.truth h = tt
  filled_looplessᶜ ρ (Condition.not c) h = filled_looplessᶜ ρ c h
  filled_looplessᶜ ρ (Condition.and c c') h = (filled_looplessᶜ ρ c h.0, filled_looplessᶜ ρ c' h.1)
  filled_looplessᶜ ρ (Condition.equal e e') h = (filled_loopless ρ e h.0, filled_loopless ρ e' h.1)

  filled_looplessᵃ : (ρ : Environment) (es : Arguments) → Looplessᵃ es → Looplessᵃ (substituteᵃ ρ es)
  filled_looplessᵃ ρ Arguments.end h = tt
  filled_looplessᵃ ρ (Arguments.argument e es) h = (filled_loopless ρ e h.0, filled_looplessᵃ ρ es h.1)

list_from : (os : List ℕ) (es : Arguments) → Looplessᵃ (literals os es) → Looplessᵃ es
unfolding literals
list_from [] es h = h
list_from (o ∷ os) es h = list_from os es h.1

list_to : (os : List ℕ) (es : Arguments) → Looplessᵃ es → Looplessᵃ (literals os es)
unfolding literals
list_to [] es h = h
list_to (o ∷ os) es h = (tt, list_to os es h)

-- ---- contexts

-- what is in the hole has no while, and neither has the whole with anything else that has none
abbrev pub Splits : Context → Expression → Type 0
Splits K e = Loopless e × ((e' : Expression) → Loopless e' → Loopless (plug K e'))

abbrev pub Splitsᶜ : Contextᶜ → Condition → Type 0
Splitsᶜ K c = Looplessᶜ c × ((c' : Condition) → Looplessᶜ c' → Loopless (plugᶜ K c'))

mutual
  unfolding plug

  pub splits : (K : Context) (e : Expression) → Loopless (plug K e) → Splits K e
  splits Context.top e h = (h, λ e' k. k)
  splits (Context.read K f) e h = let d = splits K (Expression.read e f) h in (d.0, λ e' k. d.1 _ k)
  splits (Context.write₁ K f w) e h = let d = splits K (Expression.write e f w) h in (d.0.0, λ e' k. d.1 _ (k, d.0.1))
  splits (Context.write₂ K o f) e h = let d = splits K (Expression.write (literal o) f e) h in (d.0.1, λ e' k. d.1 _ (tt, k))
  splits (Context.call K m os es) e h =
      let d = splits K (Expression.call m (literals os (argument e es))) h in
      let l = list_from os (argument e es) d.0 in
      (l.0, λ e' k. d.1 _ (list_to os (argument e' es) (k, l.1)))
  splits (Context.let_in K x w) e h = let d = splits K (Expression.let_in x e w) h in (d.0.0, λ e' k. d.1 _ (k, d.0.1))
  splits (Context.synch K w) e h = let d = splits K (Expression.synch e w) h in (d.0.0, λ e' k. d.1 _ (k, d.0.1))
  splits (Context.hold K o) e h = let d = splits K (Expression.hold o e) h in (d.0, λ e' k. d.1 _ k)
  splits (Context.join K) e h = let d = splits K (Expression.join e) h in (d.0, λ e' k. d.1 _ k)
  splits (Context.signal K k) e h = let d = splits K (Expression.signal k e) h in (d.0, λ e' l. d.1 _ l)
  splits (Context.equal₁ K w) e h = let d = splitsᶜ K (Condition.equal e w) h in (d.0.0, λ e' k. d.1 _ (k, d.0.1))
  splits (Context.equal₂ K o) e h = let d = splitsᶜ K (Condition.equal (literal o) e) h in (d.0.1, λ e' k. d.1 _ (tt, k))

  pub splitsᶜ : (K : Contextᶜ) (c : Condition) → Loopless (plugᶜ K c) → Splitsᶜ K c
  splitsᶜ (Contextᶜ.if K w w') c h = let d = splits K (Expression.if c w w') h in (d.0.0, λ c' k. d.1 _ (k, d.0.1, d.0.2))
  splitsᶜ (Contextᶜ.and K w) c h = let d = splitsᶜ K (Condition.and c w) h in (d.0.0, λ c' k. d.1 _ (k, d.0.1))
  splitsᶜ (Contextᶜ.not K) c h = let d = splitsᶜ K (Condition.not c) h in (d.0, λ c' k. d.1 _ k)
