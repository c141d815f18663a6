-- Where calls are asked for the walk comes to their set. Assumes nothing.
use Prim.Native.Nat.{ℕ, ◌^◌, ◌<◌}
use mathlib.Core.Path.{◌≡◌, refl, ap, ap₂, ◌∙◌}
use mathlib.Core.Bool.{Bool, true, false, ◌||◌, or_assoc}
use lib.Bits.{bit_or, or_lt}
use lib.Dec.{eqb}
use Rattle.run_keys.specs.Keys.{holds, union}
use Rattle.run_keys.proofs.KeyLaws.{holds_union}
use Rattle.plan_packed.specs.Syntax.{Signal, Expression, Condition, Arguments}
use Rattle.costs.specs.Calls.{calls, callsᶜ, callsᵃ}
use Rattle.plan_cost_walk.specs.Inner.Walked.{signalled, walked, walkedᶜ, walkedᵃ}

-- an element of either set
either : (n m q : ℕ) → holds (bit_or n m) q ≡ (holds n q || holds m q)
unfolding union
either n m q = holds_union n m q

no_more : (x : Bool) → x ≡ (x || false)
no_more true = refl
no_more false = refl

-- one part after another
after : (x f g : Bool) {y z : Bool} → y ≡ (x || f) → z ≡ (y || g) → z ≡ (x || (f || g))
after x f g a b = b ∙ ap (λ (v : Bool). v || g) a ∙ or_assoc x f g

-- the same set before both
shared : (x y z : Bool) → ((x || y) || (x || z)) ≡ (x || (y || z))
shared true y z = refl
shared false y z = refl

signal_same : (k : Signal) (n : ℕ) → signalled k false n ≡ n
signal_same Signal.wait n = refl
signal_same Signal.notify n = refl
signal_same Signal.notify_all n = refl

-- T has the set of each procedure alone, as far as q is concerned
module _ (T : ℕ → ℕ) (q : ℕ) (alone : (m : ℕ) → holds (T m) q ≡ eqb m q) where
  -- q is in what the walk comes to where it was before, or is called
  abbrev Finds : ℕ → Bool → ℕ → Type 0
  Finds n f r = holds r q ≡ (holds n q || f)

  mutual
    unfolding calls walked

    pub found : (e : Expression) (n : ℕ) → Finds n (calls q e) (walked false T n e)
    found (Expression.literal o) n = no_more (holds n q)
    found (Expression.variable x) n = no_more (holds n q)
    found (Expression.new fs) n = no_more (holds n q)
    found (Expression.read e f) n = found e n
    found (Expression.write e f e') n = after (holds n q) (calls q e) (calls q e') (found e n) (found e' (walked false T n e))
    found (Expression.let_in x e e') n = after (holds n q) (calls q e) (calls q e') (found e n) (found e' (walked false T n e))
    found (Expression.if c e e') n =
        let m = walkedᶜ false T n c in
        after (holds n q) (callsᶜ q c) (calls q e || calls q e') (foundᶜ c n)
        (either (walked false T m e) (walked false T m e') q ∙ ap₂ ◌||◌ (found e m) (found e' m) ∙ shared (holds m q) (calls q e) (calls q e'))
    found (Expression.while c e) n = after (holds n q) (callsᶜ q c) (calls q e) (foundᶜ c n) (found e (walkedᶜ false T n c))
    found (Expression.call m es) n =
        after (holds n q) (callsᵃ q es) (eqb m q) (foundᵃ es n)
        (either (walkedᵃ false T n es) (T m) q ∙ ap (λ (x : Bool). holds (walkedᵃ false T n es) q || x) (alone m))
    found (Expression.fork e) n = found e n
    found (Expression.join e) n = found e n
    found (Expression.synch e e') n = after (holds n q) (calls q e) (calls q e') (found e n) (found e' (walked false T n e))
    found (Expression.hold o e) n = found e n
    found (Expression.signal k e) n = rw (signal_same k n) (found e n)
    found (Expression.waiting o) n = no_more (holds n q)

    foundᶜ : (c : Condition) (n : ℕ) → Finds n (callsᶜ q c) (walkedᶜ false T n c)
    foundᶜ Condition.truth n = no_more (holds n q)
    foundᶜ (Condition.not c) n = foundᶜ c n
    foundᶜ (Condition.and c c') n = after (holds n q) (callsᶜ q c) (callsᶜ q c') (foundᶜ c n) (foundᶜ c' (walkedᶜ false T n c))
    foundᶜ (Condition.equal e e') n = after (holds n q) (calls q e) (calls q e') (found e n) (found e' (walked false T n e))

    foundᵃ : (es : Arguments) (n : ℕ) → Finds n (callsᵃ q es) (walkedᵃ false T n es)
    foundᵃ Arguments.end n = no_more (holds n q)
    foundᵃ (Arguments.argument e es) n = after (holds n q) (calls q e) (callsᵃ q es) (found e n) (foundᵃ es (walked false T n e))

-- T has numbers of k bits
module _ (T : ℕ → ℕ) (k : ℕ) (few : (m : ℕ) → T m < 2 ^ k) where
  mutual
    unfolding walked

    pub within : (e : Expression) (n : ℕ) → n < 2 ^ k → walked false T n e < 2 ^ k
    within (Expression.literal o) n b = b
    within (Expression.variable x) n b = b
    within (Expression.new fs) n b = b
    within (Expression.read e f) n b = within e n b
    within (Expression.write e f e') n b = within e' _ (within e n b)
    within (Expression.let_in x e e') n b = within e' _ (within e n b)
    within (Expression.if c e e') n b = let m = withinᶜ c n b in or_lt k _ _ (within e _ m) (within e' _ m)
    within (Expression.while c e) n b = within e _ (withinᶜ c n b)
    within (Expression.call m es) n b = or_lt k _ _ (withinᵃ es n b) (few m)
    within (Expression.fork e) n b = within e n b
    within (Expression.join e) n b = within e n b
    within (Expression.synch e e') n b = within e' _ (within e n b)
    within (Expression.hold o e) n b = within e n b
    within (Expression.signal s e) n b = rw (signal_same s n) (within e n b)
    within (Expression.waiting o) n b = b

    withinᶜ : (c : Condition) (n : ℕ) → n < 2 ^ k → walkedᶜ false T n c < 2 ^ k
    withinᶜ Condition.truth n b = b
    withinᶜ (Condition.not c) n b = withinᶜ c n b
    withinᶜ (Condition.and c c') n b = withinᶜ c' _ (withinᶜ c n b)
    withinᶜ (Condition.equal e e') n b = within e' _ (within e n b)

    withinᵃ : (es : Arguments) (n : ℕ) → n < 2 ^ k → walkedᵃ false T n es < 2 ^ k
    withinᵃ Arguments.end n b = b
    withinᵃ (Arguments.argument e es) n b = withinᵃ es _ (within e n b)
