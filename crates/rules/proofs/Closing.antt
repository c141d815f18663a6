-- Text of a plan stays text: with more objects, and with values for its slots. Assumes nothing.
use Prim.Native.Nat.{ℕ, zero, suc, ◌<◌, ◌≤◌}
use native.Mathlib.Omega.{arith}
use mathlib.Core.Path.{◌≡◌, refl, sym, ap, ◌∙◌}
use mathlib.Core.Bool.{Bool, true, false, cond, ◌||◌}
use mathlib.Core.List.{List, [], ◌∷◌}
use mathlib.Core.Option.{Option, some, none}
use lib.Dec.{T, ltb, eqb, ltb→lt}
use lib.ListN.{get_elem?, length}
use Rattle.plan_packed.specs.Syntax.{Expression, Condition, Arguments, Environment, bind, bind_parameters, without, value_or, substitute, substituteᶜ}
use Rattle.plan_packed.specs.Syntax.{substituteᵃ}
use Rattle.plan_packed.specs.Syntax.{Program}
use Rattle.plan_packed.specs.Slots.{bound}
use Rattle.plan_packed.proofs.WellFormed.{WellFormed, WellFormedᶜ, WellFormedᵃ, count, unbound}

module _ (g : Program) (n m : ℕ) (le : n ≤ m) where
  mutual
    pub more : (ρ : ℕ → Bool) (e : Expression) → WellFormed g n ρ e → WellFormed g m ρ e
    more ρ (Expression.literal o) h = omega arith
    more ρ (Expression.variable x) h = h
    more ρ (Expression.new fs) h = tt
    more ρ (Expression.read e f) h = (h.0, h.1, more ρ e h.2)
    more ρ (Expression.write e f e') h = (h.0, h.1, more ρ e h.2, more ρ e' h.3)
    more ρ (Expression.let_in x e e') h = (more ρ e h.0, more (bound x ρ) e' h.1)
    more ρ (Expression.if c e e') h = (moreᶜ ρ c h.0, more ρ e h.1, more ρ e' h.2)
    more ρ (Expression.while c e) h = (moreᶜ ρ c h.0, more ρ e h.1)
    more ρ (Expression.call k es) h = (h.0, moreᵃ ρ es h.1)
    more ρ (Expression.fork e) h = more ρ e h
    more ρ (Expression.join e) h = more ρ e h
    more ρ (Expression.synch e e') h = (more ρ e h.0, more ρ e' h.1)
    more ρ (Expression.hold o e) h = absurd h
    more ρ (Expression.signal j e) h = more ρ e h
    more ρ (Expression.waiting o) h = absurd h

    pub moreᶜ : (ρ : ℕ → Bool) (c : Condition) → WellFormedᶜ g n ρ c → WellFormedᶜ g m ρ c
    moreᶜ ρ Condition.truth h = tt
    moreᶜ ρ (Condition.not c) h = moreᶜ ρ c h
    moreᶜ ρ (Condition.and c c') h = (moreᶜ ρ c h.0, moreᶜ ρ c' h.1)
    moreᶜ ρ (Condition.equal e e') h = (more ρ e h.0, more ρ e' h.1)

    pub moreᵃ : (ρ : ℕ → Bool) (es : Arguments) → WellFormedᵃ g n ρ es → WellFormedᵃ g m ρ es
    moreᵃ ρ Arguments.end h = tt
    moreᵃ ρ (Arguments.argument e es) h = (more ρ e h.0, moreᵃ ρ es h.1)

-- what σ does to a variable x: an object, or it stays and is in ρ
abbrev pub Given : ℕ → (ℕ → Bool) → ℕ → Option ℕ → Type 0
Given n ρ x (some o) = o < n
Given n ρ x none = T (ρ x)

abbrev pub Covers : ℕ → (ℕ → Bool) → Environment → (ℕ → Bool) → Type 0
Covers n ρ σ ρ' = (x : ℕ) → T (ρ x) → Given n ρ' x (σ x)

covers_under : (n : ℕ) (ρ : ℕ → Bool) (σ : Environment) (ρ' : ℕ → Bool) (x : Option ℕ) → Covers n ρ σ ρ' → Covers n (bound x ρ) (without x σ) (bound x ρ')
unfolding bound without
covers_under n ρ σ ρ' none h y = bare (σ y) (h y)
  where
    bare : (v : Option ℕ) → (T (ρ y) → Given n ρ' y v) → T (ρ y) → Given n (λ z. ρ' z) y v
    bare none h t = h t
    bare (some o) h t = h t
covers_under n ρ σ ρ' (some x) h y = at (eqb x y) (ρ y) (σ y) refl (h y)
  where
    at : (b c : Bool) (v : Option ℕ) → eqb x y ≡ b → (T c → Given n ρ' y v) → T (b || c) → Given n (λ z. eqb x z || ρ' z) y (cond b none v)
    at true c v q h t = rw q tt
    at false c none q h t = rw q (h t)
    at false c (some o) q h t = h t

module _ (g : Program) (n : ℕ) where
  slot_code : (ρ : ℕ → Bool) (x : ℕ) (v : Option ℕ) → Given n ρ x v → WellFormed g n ρ (value_or x v)
  unfolding value_or
  slot_code ρ x none h = h
  slot_code ρ x (some o) h = h

  count_subst : (σ : Environment) (es : Arguments) → count (substituteᵃ σ es) ≡ count es
  unfolding substitute
  count_subst σ Arguments.end = refl
  count_subst σ (Arguments.argument e es) = ap suc (count_subst σ es)

  mutual
    unfolding substitute

    pub filled : (σ : Environment) (ρ ρ' : ℕ → Bool) → Covers n ρ σ ρ' → (e : Expression) → WellFormed g n ρ e → WellFormed g n ρ' (substitute σ e)
    filled σ ρ ρ' k (Expression.literal o) h = h
    filled σ ρ ρ' k (Expression.variable x) h = slot_code ρ' x (σ x) (k x h)
    filled σ ρ ρ' k (Expression.new fs) h = tt
    filled σ ρ ρ' k (Expression.read e f) h = (h.0, h.1, filled σ ρ ρ' k e h.2)
    filled σ ρ ρ' k (Expression.write e f e') h = (h.0, h.1, filled σ ρ ρ' k e h.2, filled σ ρ ρ' k e' h.3)
    filled σ ρ ρ' k (Expression.let_in x e e') h =
        (filled σ ρ ρ' k e h.0, filled (without x σ) (bound x ρ) (bound x ρ') (covers_under n ρ σ ρ' x k) e' h.1)
    filled σ ρ ρ' k (Expression.if c e e') h = (filledᶜ σ ρ ρ' k c h.0, filled σ ρ ρ' k e h.1, filled σ ρ ρ' k e' h.2)
    filled σ ρ ρ' k (Expression.while c e) h = (filledᶜ σ ρ ρ' k c h.0, filled σ ρ ρ' k e h.1)
    filled σ ρ ρ' k (Expression.call m es) h = ((h.0.0, h.0.1, h.0.2 ∙ sym (count_subst σ es)), filledᵃ σ ρ ρ' k es h.1)
    filled σ ρ ρ' k (Expression.fork e) h = filled σ ρ ρ' k e h
    filled σ ρ ρ' k (Expression.join e) h = filled σ ρ ρ' k e h
    filled σ ρ ρ' k (Expression.synch e e') h = (filled σ ρ ρ' k e h.0, filled σ ρ ρ' k e' h.1)
    filled σ ρ ρ' k (Expression.hold o e) h = absurd h
    filled σ ρ ρ' k (Expression.signal j e) h = filled σ ρ ρ' k e h
    filled σ ρ ρ' k (Expression.waiting o) h = absurd h

    pub filledᶜ : (σ : Environment) (ρ ρ' : ℕ → Bool) → Covers n ρ σ ρ' → (c : Condition) → WellFormedᶜ g n ρ c → WellFormedᶜ g n ρ' (substituteᶜ σ c)
    filledᶜ σ ρ ρ' k Condition.truth h = tt
    filledᶜ σ ρ ρ' k (Condition.not c) h = filledᶜ σ ρ ρ' k c h
    filledᶜ σ ρ ρ' k (Condition.and c c') h = (filledᶜ σ ρ ρ' k c h.0, filledᶜ σ ρ ρ' k c' h.1)
    filledᶜ σ ρ ρ' k (Condition.equal e e') h = (filled σ ρ ρ' k e h.0, filled σ ρ ρ' k e' h.1)

    pub filledᵃ : (σ : Environment) (ρ ρ' : ℕ → Bool) → Covers n ρ σ ρ' → (es : Arguments) → WellFormedᵃ g n ρ es → WellFormedᵃ g n ρ' (substituteᵃ σ es)
    filledᵃ σ ρ ρ' k Arguments.end h = tt
    filledᵃ σ ρ ρ' k (Arguments.argument e es) h = (filled σ ρ ρ' k e h.0, filledᵃ σ ρ ρ' k es h.1)

-- every object of a list is there
abbrev pub SlotsBelow : ℕ → List ℕ → Type 0
SlotsBelow n [] = Unit {0}
SlotsBelow n (o ∷ os) = (o < n) × SlotsBelow n os

-- a let's value and a call's values
pub covers_one : (n : ℕ) (x : Option ℕ) (o : ℕ) → o < n → Covers n (bound x unbound) (bind x o) unbound
unfolding bound bind
covers_one n none o h y t = absurd t
covers_one n (some x) o h y t = at (eqb x y) t
  where
    at : (b : Bool) → T (b || false) → Given n unbound y (cond b (some o) none)
    at true t = h
    at false t = absurd t

params_there : (n : ℕ) (os : List ℕ) (x : ℕ) → SlotsBelow n os → x < length os → Given n unbound x (get_elem? os x)
params_there n [] x b h = absurd (omega arith)
params_there n (o ∷ os) zero b h = b.0
params_there n (o ∷ os) (suc x) b h = shift (get_elem? os x) (params_there n os x b.1 (omega arith))
  where
    shift : (v : Option ℕ) → Given n unbound x v → Given n unbound (suc x) v
    shift none h = h
    shift (some o) h = h

pub covers_params : (n k : ℕ) (os : List ℕ) → SlotsBelow n os → k ≡ length os → Covers n (λ x. ltb x k) (bind_parameters os) unbound
unfolding bind_parameters
covers_params n k os b e x t = let l = ltb→lt x k t in params_there n os x b (omega arith)
