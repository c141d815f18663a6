-- Where moves are counted the walk comes to the cost, no further than 65,536. Assumes nothing.
use Prim.Native.Nat.{ℕ, suc, ◌+◌, ◌≤◌, max}
use native.Mathlib.Omega.{arith}
use mathlib.Core.Path.{◌≡◌, refl, ap, ◌∙◌}
use mathlib.Core.Bool.{Bool, true, false, ◌||◌}
use lib.Dec.{eqb}
use borrow.Author.Tests.{eq-eqb}
use Rattle.plan_packed.specs.Syntax.{Signal, Expression, Condition, Arguments}
use Rattle.costs.specs.Cost.{one_more, cost, costᶜ, costᵃ}
use Rattle.costs.specs.Calls.{calls, callsᶜ, callsᵃ}
use Rattle.plan_cost_walk.specs.Inner.Walked.{capped, signalled, walked, walkedᶜ, walkedᵃ}

-- ---- sums, no further than 65,536

-- f adds x
abbrev Adds : (ℕ → ℕ) → ℕ → Type 0
Adds f x = (n : ℕ) → n ≤ 65536 → f n ≡ capped (n + x)

nothing : Adds (λ n. n) 0
nothing n b = omega arith

one : (f : ℕ → ℕ) (x : ℕ) → Adds f x → Adds (λ n. f (capped (n + 1))) (suc x)
one f x p n b = let e = p (capped (n + 1)) (omega arith) in omega arith

in_turn_lem : (f g : ℕ → ℕ) (x y : ℕ) → Adds f x → Adds g y → Adds (λ n. g (f n)) (x + y)
in_turn_lem f g x y p q n b = let e = p n b in let d = q (f n) (omega arith) in omega arith

dearer : (f g : ℕ → ℕ) (x y : ℕ) → Adds f x → Adds g y → Adds (λ n. max (f n) (g n)) (max x y)
dearer f g x y p q n b = let e = p n b in let d = q n b in omega arith

known : (v x : ℕ) → v ≡ capped x → Adds (λ n. capped (n + v)) x
known v x e n b = omega arith

-- ---- what the walk comes to

second_or : (x y : Bool) → y ≡ true → (x || y) ≡ true
second_or true y h = refl
second_or false y h = h

-- T has what bodies cost, no further than 65,536
module _ (T B : ℕ → ℕ) where
  -- of those that a test names
  abbrev Known : (ℕ → Bool) → Type 0
  Known f = (q : ℕ) → f q ≡ true → T q ≡ capped (B q)

  parts : (x y : ℕ → Bool) → Known (λ q. x q || y q) → Known x × Known y
  parts x y h = (λ q k. h q (ap (λ (b : Bool). b || y q) k), λ q k. h q (second_or (x q) (y q) k))

  abbrev at : Expression → ℕ → ℕ
  at e n = walked true T n e

  abbrev atᶜ : Condition → ℕ → ℕ
  atᶜ c n = walkedᶜ true T n c

  abbrev atᵃ : Arguments → ℕ → ℕ
  atᵃ es n = walkedᵃ true T n es

  signal : (k : Signal) (f : ℕ → ℕ) (x : ℕ) → Adds f x → Adds (λ n. f (signalled k true n)) (suc (x + one_more k))
  signal Signal.wait f x p n b = one (λ m. f (capped (m + 1))) (suc x) (one f x p) n b ∙ ap (λ (y : ℕ). capped (n + y)) (omega arith)
  signal Signal.notify f x p n b = one f x p n b ∙ ap (λ (y : ℕ). capped (n + y)) (omega arith)
  signal Signal.notify_all f x p n b = one f x p n b ∙ ap (λ (y : ℕ). capped (n + y)) (omega arith)

  mutual
    unfolding cost calls walked

    pub counted : (e : Expression) → Known (λ q. calls q e) → Adds (at e) (cost B e)
    counted (Expression.literal o) h = nothing
    counted (Expression.variable x) h = nothing
    counted (Expression.new fs) h = one (λ n. n) 0 nothing
    counted (Expression.read e f) h = one (at e) _ (counted e h)
    counted (Expression.write e f e') h = let d = parts (λ q. calls q e) (λ q. calls q e') h in
        one (λ n. at e' (at e n)) _ (in_turn_lem (at e) (at e') _ _ (counted e d.0) (counted e' d.1))
    counted (Expression.let_in x e e') h = let d = parts (λ q. calls q e) (λ q. calls q e') h in
        one (λ n. at e' (at e n)) _ (in_turn_lem (at e) (at e') _ _ (counted e d.0) (counted e' d.1))
    counted (Expression.if c e e') h =
        let d = parts (λ q. callsᶜ q c) (λ q. calls q e || calls q e') h in
        let k = parts (λ q. calls q e) (λ q. calls q e') d.1 in
        one (λ n. max (at e (atᶜ c n)) (at e' (atᶜ c n))) _
        (in_turn_lem (atᶜ c) (λ n. max (at e n) (at e' n)) _ _ (countedᶜ c d.0) (dearer (at e) (at e') _ _ (counted e k.0) (counted e' k.1)))
    counted (Expression.while c e) h = let d = parts (λ q. callsᶜ q c) (λ q. calls q e) h in
        one (λ n. at e (atᶜ c n)) _ (in_turn_lem (atᶜ c) (at e) _ _ (countedᶜ c d.0) (counted e d.1))
    counted (Expression.call m es) h =
        let d = parts (λ q. callsᵃ q es) (λ q. eqb m q) h in
        one (λ n. capped (atᵃ es n + T m)) _ (in_turn_lem (atᵃ es) (λ n. capped (n + T m)) _ _ (countedᵃ es d.0) (known (T m) (B m) (d.1 m (eq-eqb m m refl))))
    counted (Expression.fork e) h = one (at e) _ (counted e h)
    counted (Expression.join e) h = one (at e) _ (counted e h)
    counted (Expression.synch e e') h =
        let d = parts (λ q. calls q e) (λ q. calls q e') h in
        one (λ n. at e' (at e (capped (n + 1)))) _ (one (λ n. at e' (at e n)) _ (in_turn_lem (at e) (at e') _ _ (counted e d.0) (counted e' d.1)))
    counted (Expression.hold o e) h = one (at e) _ (counted e h)
    counted (Expression.signal k e) h = signal k (at e) _ (counted e h)
    counted (Expression.waiting o) h = one (λ n. n) 0 nothing

    countedᶜ : (c : Condition) → Known (λ q. callsᶜ q c) → Adds (atᶜ c) (costᶜ B c)
    countedᶜ Condition.truth h = nothing
    countedᶜ (Condition.not c) h = one (atᶜ c) _ (countedᶜ c h)
    countedᶜ (Condition.and c c') h = let d = parts (λ q. callsᶜ q c) (λ q. callsᶜ q c') h in
        one (λ n. atᶜ c' (atᶜ c n)) _ (in_turn_lem (atᶜ c) (atᶜ c') _ _ (countedᶜ c d.0) (countedᶜ c' d.1))
    countedᶜ (Condition.equal e e') h = let d = parts (λ q. calls q e) (λ q. calls q e') h in
        one (λ n. at e' (at e n)) _ (in_turn_lem (at e) (at e') _ _ (counted e d.0) (counted e' d.1))

    countedᵃ : (es : Arguments) → Known (λ q. callsᵃ q es) → Adds (atᵃ es) (costᵃ B es)
    countedᵃ Arguments.end h = nothing
    countedᵃ (Arguments.argument e es) h = let d = parts (λ q. calls q e) (λ q. callsᵃ q es) h in
        in_turn_lem (at e) (atᵃ es) _ _ (counted e d.0) (countedᵃ es d.1)
