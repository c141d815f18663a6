-- Substitutions compose; a let's value put into the slots is the let's substitution; and where every slot that is used is a parameter, the values in
-- slots 0 upward are the call's substitution. Assumes nothing.
use Prim.Native.Nat.{ℕ, zero, suc, ◌<◌}
use native.Mathlib.Omega.{arith}
use native.Mathlib.Decide.{ℕ_discrete}
use mathlib.Core.Path.{◌≡◌, refl, sym, ap, ◌∙◌, fun_ext}
use mathlib.Core.Bool.{Bool, true, false, cond, ◌||◌, ◌&&◌}
use mathlib.Core.List.{List, [], ◌∷◌, ◌++◌}
use mathlib.Core.Option.{Option, some, none, or_else}
use lib.Dec.{T, eqb, ltb, ltb→lt}
use lib.ListN.{length, get_elem?}
use mir.Facts.{and_yes}
use borrow.Author.Tests.{eq-eqb, ne_eqb}
use Rattle.plan_packed.specs.Syntax.{Expression, Condition, Arguments, Environment, bind, bind_parameters, without, value_or, substitute, substituteᶜ}
use Rattle.plan_packed.specs.Syntax.{substituteᵃ}
use Rattle.plan_packed.specs.Slots.{bound, closed, closedᶜ, closedᵃ}
use Rattle.rules.proofs.StateLaws.{added_old, added_new, length_added}
use Rattle.machine.specs.Inner.Frames.{Slots, put, put_bound}

-- ---- substitutions compose

-- σ, and τ for the variables that σ leaves
unfoldable and_then : Environment → Environment → Environment
unfolding or_else
and_then σ τ y = or_else (σ y) (τ y)

without_then : (x : Option ℕ) (σ τ : Environment) → and_then (without x σ) (without x τ) ≡ without x (and_then σ τ)
unfolding and_then without
without_then none σ τ = refl
without_then (some x) σ τ = fun_ext (λ y. at y (eqb x y))
  where
    at : (y : ℕ) (b : Bool) → or_else (cond b none (σ y)) (cond b none (τ y)) ≡ cond b none (or_else (σ y) (τ y))
    at y true = refl
    at y false = refl

value_then : (x : ℕ) (τ : Environment) (v : Option ℕ) → substitute τ (value_or x v) ≡ value_or x (or_else v (τ x))
unfolding substitute value_or or_else
value_then x τ none = refl
value_then x τ (some o) = refl

mutual
  unfolding substitute and_then

  compose : (σ τ : Environment) (e : Expression) → substitute τ (substitute σ e) ≡ substitute (and_then σ τ) e
  compose σ τ (Expression.literal o) = refl
  compose σ τ (Expression.variable x) = value_then x τ (σ x)
  compose σ τ (Expression.new fs) = refl
  compose σ τ (Expression.read e f) = rw (compose σ τ e)
  compose σ τ (Expression.write e f e') = rw (compose σ τ e, compose σ τ e')
  compose σ τ (Expression.let_in x e e') = rw (compose σ τ e, compose (without x σ) (without x τ) e', without_then x σ τ)
  compose σ τ (Expression.if c e e') = rw (composeᶜ σ τ c, compose σ τ e, compose σ τ e')
  compose σ τ (Expression.while c e) = rw (composeᶜ σ τ c, compose σ τ e)
  compose σ τ (Expression.call m es) = rw (composeᵃ σ τ es)
  compose σ τ (Expression.fork e) = rw (compose σ τ e)
  compose σ τ (Expression.join e) = rw (compose σ τ e)
  compose σ τ (Expression.synch e e') = rw (compose σ τ e, compose σ τ e')
  compose σ τ (Expression.hold o e) = rw (compose σ τ e)
  compose σ τ (Expression.signal j e) = rw (compose σ τ e)
  compose σ τ (Expression.waiting o) = refl

  composeᶜ : (σ τ : Environment) (c : Condition) → substituteᶜ τ (substituteᶜ σ c) ≡ substituteᶜ (and_then σ τ) c
  composeᶜ σ τ Condition.truth = refl
  composeᶜ σ τ (Condition.not c) = rw (composeᶜ σ τ c)
  composeᶜ σ τ (Condition.and c c') = rw (composeᶜ σ τ c, composeᶜ σ τ c')
  composeᶜ σ τ (Condition.equal e e') = rw (compose σ τ e, compose σ τ e')

  composeᵃ : (σ τ : Environment) (es : Arguments) → substituteᵃ τ (substituteᵃ σ es) ≡ substituteᵃ (and_then σ τ) es
  composeᵃ σ τ Arguments.end = refl
  composeᵃ σ τ (Arguments.argument e es) = rw (compose σ τ e, composeᵃ σ τ es)

-- ---- a let

-- the slots as values for every variable
abbrev pub every : Slots → Environment
every ρ x = some (ρ x)

let_then : (ρ : Slots) (x : Option ℕ) (o : ℕ) → and_then (without x (every ρ)) (bind x o) ≡ every (put_bound ρ x o)
unfolding and_then without bind put_bound
let_then ρ none o = refl
let_then ρ (some x) o = fun_ext (λ y. at y (eqb x y))
  where
    at : (y : ℕ) (b : Bool) → or_else (cond b none (some (ρ y))) (cond b (some o) none) ≡ some (cond b o (ρ y))
    at y true = refl
    at y false = refl

pub let_put : (ρ : Slots) (x : Option ℕ) (o : ℕ) (e : Expression)
    → substitute (bind x o) (substitute (without x (every ρ)) e) ≡ substitute (every (put_bound ρ x o)) e
let_put ρ x o e = compose (without x (every ρ)) (bind x o) e ∙ ap (λ (σ : Environment). substitute σ e) (let_then ρ x o)

-- what binds nothing changes nothing
nothing_then : (ρ : Slots) (o : ℕ) → and_then (every ρ) (bind none o) ≡ every ρ
unfolding and_then bind
nothing_then ρ o = refl

pub let_nothing : (ρ : Slots) (o : ℕ) (e : Expression) → substitute (bind none o) (substitute (every ρ) e) ≡ substitute (every ρ) e
let_nothing ρ o e = compose (every ρ) (bind none o) e ∙ ap (λ (σ : Environment). substitute σ e) (nothing_then ρ o)

pub let_nothingᶜ : (ρ : Slots) (o : ℕ) (c : Condition) → substituteᶜ (bind none o) (substituteᶜ (every ρ) c) ≡ substituteᶜ (every ρ) c
let_nothingᶜ ρ o c = composeᶜ (every ρ) (bind none o) c ∙ ap (λ (σ : Environment). substituteᶜ σ c) (nothing_then ρ o)

-- ---- environments that agree on the bound slots

abbrev Agree : (ℕ → Bool) → Environment → Environment → Type 0
Agree β σ τ = (x : ℕ) → T (β x) → σ x ≡ τ x

agree_under : (x : Option ℕ) (β : ℕ → Bool) (σ τ : Environment) → Agree β σ τ → Agree (bound x β) (without x σ) (without x τ)
unfolding bound without
agree_under none β σ τ h y t = h y t
agree_under (some x) β σ τ h y t = at (eqb x y) (β y) (h y) t
  where
    at : (b c : Bool) → (T c → σ y ≡ τ y) → T (b || c) → cond b none (σ y) ≡ cond b none (τ y)
    at true c h t = refl
    at false c h t = h t

mutual
  unfolding substitute closed

  agree : (β : ℕ → Bool) (σ τ : Environment) → Agree β σ τ → (e : Expression) → T (closed β e) → substitute σ e ≡ substitute τ e
  agree β σ τ h (Expression.literal o) c = refl
  agree β σ τ h (Expression.variable x) c = ap (value_or x) (h x c)
  agree β σ τ h (Expression.new fs) c = refl
  agree β σ τ h (Expression.read e f) c = rw (agree β σ τ h e c)
  agree β σ τ h (Expression.write e f e') c = let d = and_yes (closed β e) (closed β e') c in rw (agree β σ τ h e d.0, agree β σ τ h e' d.1)
  agree β σ τ h (Expression.let_in x e e') c =
      let d = and_yes (closed β e) (closed (bound x β) e') c in
      rw (agree β σ τ h e d.0, agree (bound x β) (without x σ) (without x τ) (agree_under x β σ τ h) e' d.1)
  agree β σ τ h (Expression.if b e e') c =
      let d = and_yes (closedᶜ β b && closed β e) (closed β e') c in
      let a = and_yes (closedᶜ β b) (closed β e) d.0 in
      rw (agreeᶜ β σ τ h b a.0, agree β σ τ h e a.1, agree β σ τ h e' d.1)
  agree β σ τ h (Expression.while b e) c = let d = and_yes (closedᶜ β b) (closed β e) c in rw (agreeᶜ β σ τ h b d.0, agree β σ τ h e d.1)
  agree β σ τ h (Expression.call m es) c = rw (agreeᵃ β σ τ h es c)
  agree β σ τ h (Expression.fork e) c = rw (agree β σ τ h e c)
  agree β σ τ h (Expression.join e) c = rw (agree β σ τ h e c)
  agree β σ τ h (Expression.synch e e') c = let d = and_yes (closed β e) (closed β e') c in rw (agree β σ τ h e d.0, agree β σ τ h e' d.1)
  agree β σ τ h (Expression.hold o e) c = rw (agree β σ τ h e c)
  agree β σ τ h (Expression.signal j e) c = rw (agree β σ τ h e c)
  agree β σ τ h (Expression.waiting o) c = refl

  agreeᶜ : (β : ℕ → Bool) (σ τ : Environment) → Agree β σ τ → (b : Condition) → T (closedᶜ β b) → substituteᶜ σ b ≡ substituteᶜ τ b
  agreeᶜ β σ τ h Condition.truth c = refl
  agreeᶜ β σ τ h (Condition.not b) c = rw (agreeᶜ β σ τ h b c)
  agreeᶜ β σ τ h (Condition.and b b') c = let d = and_yes (closedᶜ β b) (closedᶜ β b') c in rw (agreeᶜ β σ τ h b d.0, agreeᶜ β σ τ h b' d.1)
  agreeᶜ β σ τ h (Condition.equal e e') c = let d = and_yes (closed β e) (closed β e') c in rw (agree β σ τ h e d.0, agree β σ τ h e' d.1)

  agreeᵃ : (β : ℕ → Bool) (σ τ : Environment) → Agree β σ τ → (es : Arguments) → T (closedᵃ β es) → substituteᵃ σ es ≡ substituteᵃ τ es
  agreeᵃ β σ τ h Arguments.end c = refl
  agreeᵃ β σ τ h (Arguments.argument e es) c = let d = and_yes (closed β e) (closedᵃ β es) c in rw (agree β σ τ h e d.0, agreeᵃ β σ τ h es d.1)

-- ---- a call

-- the values in the first n slots
unfoldable pub first_slots : ℕ → Slots → List ℕ
first_slots zero ρ = []
first_slots (suc n) ρ = first_slots n ρ ++ (ρ n ∷ [])

pub first_length : (n : ℕ) (ρ : Slots) → length (first_slots n ρ) ≡ n
unfolding first_slots
first_length zero ρ = refl
first_length (suc n) ρ = length_added (first_slots n ρ) (ρ n) ∙ ap suc (first_length n ρ)

-- a put past them
first_past : (n x o : ℕ) (ρ : Slots) → n < suc x → first_slots n (put ρ x o) ≡ first_slots n ρ
unfolding first_slots put
first_past zero x o ρ h = refl
first_past (suc n) x o ρ h = rw (ne_eqb x n (λ q. omega arith), first_past n x o ρ (omega arith))

-- one value more
pub first_put : (n o : ℕ) (ρ : Slots) → first_slots (suc n) (put ρ n o) ≡ first_slots n ρ ++ (o ∷ [])
unfolding first_slots put
first_put n o ρ = rw (eq-eqb n n refl) (ap (λ (l : List ℕ). l ++ (o ∷ [])) (first_past n n o ρ (omega arith)))

first_get : (n : ℕ) (ρ : Slots) (x : ℕ) → x < n → get_elem? (first_slots n ρ) x ≡ some (ρ x)
unfolding first_slots
first_get zero ρ x h = absurd (omega arith)
first_get (suc n) ρ x h = at (ℕ_discrete n x) (first_get n ρ x)
  where
    at : Dec (n ≡ x) → (x < n → get_elem? (first_slots n ρ) x ≡ some (ρ x)) → get_elem? (first_slots n ρ ++ (ρ n ∷ [])) x ≡ some (ρ x)
    at (yes e) k = rw (← e) (rw (first_length n ρ) at (added_new (first_slots n ρ) (ρ n)))
    at (no e) k = added_old (first_slots n ρ) (ρ n) x (omega (arith, first_length n ρ, e)) ∙ k (omega (arith, e))

pub call_slots : (n : ℕ) (ρ : Slots) (e : Expression) → T (closed (λ x. ltb x n) e) → substitute (every ρ) e ≡ substitute (bind_parameters (first_slots n ρ)) e
unfolding bind_parameters
call_slots n ρ e c = agree (λ x. ltb x n) (every ρ) (bind_parameters (first_slots n ρ)) (λ x t. sym (first_get n ρ x (ltb→lt x n t))) e c
