-- A thread's expression, seen from the part that moves next: what stands around it and in it is text of a plan, but for the holds around it.
-- Assumes nothing.
use Prim.Native.Nat.{ℕ, suc, ◌<◌, ◌+◌}
use native.Mathlib.Omega.{arith}
use mathlib.Core.Path.{◌≡◌, refl, sym}
use mathlib.Core.Bool.{Bool, true, false, true≢false}
use mathlib.Core.List.{List, [], ◌∷◌, ◌++◌}
use mathlib.Core.Option.{Option, some, none}
use lib.ListN.{length, length-append}
use Rattle.plan_packed.specs.Syntax.{Expression, Condition, Arguments, literal, end, argument, Program, bool}
use Rattle.plan_packed.specs.Slots.{bound}
use Rattle.rules.specs.Context.{Context, Contextᶜ, top, read, write₁, write₂, call, let_in, synch, hold, join, signal, equal₁, equal₂, literals, plug}
use Rattle.rules.specs.Context.{plugᶜ, Redex, Redexᶜ, Focus, value, here, hereᶜ, focus, focusᶜ, focusᵃ, as_literal, as_bool, redex_expression, on_literal}
use Rattle.rules.specs.Context.{on_bool, on_not}
use Rattle.plan_packed.proofs.WellFormed.{WellFormed, WellFormedᶜ, WellFormedᵃ, count, Callable, unbound}
use Rattle.rules.proofs.Closing.{SlotsBelow}
use Rattle.rules.proofs.FocusPlug.{focus_plug, focus_plugᶜ, found}
use Rattle.rules.proofs.Back.{as_literal_lem, as_bool_lem}

abbrev pub Text : Program → ℕ → Expression → Type 0
Text g n e = WellFormed g n unbound e

abbrev pub Textᶜ : Program → ℕ → Condition → Type 0
Textᶜ g n c = WellFormedᶜ g n unbound c

abbrev pub Textᵃ : Program → ℕ → Arguments → Type 0
Textᵃ g n es = WellFormedᵃ g n unbound es

-- a context whose waiting parts are text
abbrev mutual
  pub Around : Program → ℕ → Context → Type 0
  Around g n top = Unit {0}
  Around g n (read K f) = (0 < f) × (f < 32) × Around g n K
  Around g n (write₁ K f e') = (0 < f) × (f < 32) × Text g n e' × Around g n K
  Around g n (write₂ K o f) = (0 < f) × (f < 32) × (o < n) × Around g n K
  Around g n (call K m os es) = Callable g m (length os + suc (count es)) × SlotsBelow n os × Textᵃ g n es × Around g n K
  Around g n (let_in K x e') = WellFormed g n (bound x unbound) e' × Around g n K
  Around g n (synch K e') = Text g n e' × Around g n K
  Around g n (hold K o) = (o < n) × Around g n K
  Around g n (join K) = Around g n K
  Around g n (signal K j) = Around g n K
  Around g n (equal₁ K e') = Text g n e' × Aroundᶜ g n K
  Around g n (equal₂ K o) = (o < n) × Aroundᶜ g n K

  pub Aroundᶜ : Program → ℕ → Contextᶜ → Type 0
  Aroundᶜ g n (Contextᶜ.if K e e') = Text g n e × Text g n e' × Around g n K
  Aroundᶜ g n (Contextᶜ.and K c) = Textᶜ g n c × Aroundᶜ g n K
  Aroundᶜ g n (Contextᶜ.not K) = Aroundᶜ g n K

-- a part that moves next, whose operands are there
abbrev pub Ready : Program → ℕ → Redex → Type 0
Ready g n (Redex.variable x) = ⊥
Ready g n (Redex.new fs) = Unit {0}
Ready g n (Redex.read o f) = (0 < f) × (f < 32) × (o < n)
Ready g n (Redex.write o f v) = (0 < f) × (f < 32) × (o < n) × (v < n)
Ready g n (Redex.let_in x o e) = (o < n) × WellFormed g n (bound x unbound) e
Ready g n (Redex.if b e e') = Text g n e × Text g n e'
Ready g n (Redex.while c e) = Textᶜ g n c × Text g n e
Ready g n (Redex.call m os) = Callable g m (length os) × SlotsBelow n os
Ready g n (Redex.fork e) = Text g n e
Ready g n (Redex.join o) = o < n
Ready g n (Redex.synch o e) = (o < n) × Text g n e
Ready g n (Redex.hold o v) = (o < n) × (v < n)
Ready g n (Redex.signal j o) = o < n
Ready g n (Redex.waiting o) = o < n

abbrev pub Readyᶜ : Program → ℕ → Redexᶜ → Type 0
Readyᶜ g n Redexᶜ.not_false = Unit {0}
Readyᶜ g n (Redexᶜ.and b c) = Textᶜ g n c
Readyᶜ g n (Redexᶜ.equal o o') = Unit {0}

abbrev pub Good : Program → ℕ → Focus → Type 0
Good g n (value o) = o < n
Good g n (here K r) = Around g n K × Ready g n r
Good g n (hereᶜ K r) = Aroundᶜ g n K × Readyᶜ g n r

-- the holds that are pending, the innermost first
abbrev mutual
  pub pending : Context → List ℕ
  pending top = []
  pending (read K f) = pending K
  pending (write₁ K f e') = pending K
  pending (write₂ K o f) = pending K
  pending (call K m os es) = pending K
  pending (let_in K x e') = pending K
  pending (synch K e') = pending K
  pending (hold K o) = o ∷ pending K
  pending (join K) = pending K
  pending (signal K j) = pending K
  pending (equal₁ K e') = pendingᶜ K
  pending (equal₂ K o) = pendingᶜ K

  pub pendingᶜ : Contextᶜ → List ℕ
  pendingᶜ (Contextᶜ.if K e e') = pending K
  pendingᶜ (Contextᶜ.and K c) = pendingᶜ K
  pendingᶜ (Contextᶜ.not K) = pendingᶜ K

abbrev pub held : Redex → List ℕ → List ℕ
held (Redex.variable x) os = os
held (Redex.new fs) os = os
held (Redex.read o f) os = os
held (Redex.write o f v) os = os
held (Redex.let_in x o e) os = os
held (Redex.if b e e') os = os
held (Redex.while c e) os = os
held (Redex.call m vs) os = os
held (Redex.fork e) os = os
held (Redex.join o) os = os
held (Redex.synch o e) os = os
held (Redex.hold o v) os = o ∷ os
held (Redex.signal j o) os = os
held (Redex.waiting o) os = os

abbrev pub holds : Focus → List ℕ
holds (value o) = []
holds (here K r) = held r (pending K)
holds (hereᶜ K r) = pendingᶜ K

-- the part has given up the monitor of o, which a pending hold has still to release (document 02, E3: "Wait gives up the monitor")
abbrev pub GivesUp : Redex → ℕ → Type 0
GivesUp (Redex.variable x) o = ⊥
GivesUp (Redex.new fs) o = ⊥
GivesUp (Redex.read a f) o = ⊥
GivesUp (Redex.write a f v) o = ⊥
GivesUp (Redex.let_in x a e) o = ⊥
GivesUp (Redex.if b e e') o = ⊥
GivesUp (Redex.while c e) o = ⊥
GivesUp (Redex.call m os) o = ⊥
GivesUp (Redex.fork e) o = ⊥
GivesUp (Redex.join a) o = ⊥
GivesUp (Redex.synch a e) o = ⊥
GivesUp (Redex.hold a v) o = ⊥
GivesUp (Redex.signal k a) o = ⊥
GivesUp (Redex.waiting a) o = o ≡ a

abbrev pub GivenUp : Focus → ℕ → Type 0
GivenUp (value v) o = ⊥
GivenUp (here K r) o = GivesUp r o
GivenUp (hereᶜ K r) o = ⊥

-- well placed, with just these holds, none of which it has given up
pub record Landed (g : Program) (n : ℕ) (os : List ℕ) (F : Focus) : Type 0 where
  pub good : Good g n F
  pub theirs : holds F ≡ os
  pub awake : (o : ℕ) → GivenUp F o → ⊥

land_lit : (P : Focus → Type 0) (a : Option ℕ) (k : ℕ → Focus) (r : Focus) → ((o : ℕ) → a ≡ some o → P (k o)) → (a ≡ none → P r) → P (on_literal a k r)
land_lit P (some o) k r h h' = h o refl
land_lit P none k r h h' = h' refl

land_bool : (P : Focus → Type 0) (a : Option Bool) (k : Bool → Focus) (r : Focus) → ((b : Bool) → a ≡ some b → P (k b)) → (a ≡ none → P r) → P (on_bool a k r)
land_bool P (some b) k r h h' = h b refl
land_bool P none k r h h' = h' refl

module _ (g : Program) (n : ℕ) where
  -- text that is a literal is an object
  text_lit : (e : Expression) (o : ℕ) → as_literal e ≡ some o → Text g n e → o < n
  text_lit e o q h = rw (as_literal_lem e o q) at h

  below_more : (os : List ℕ) (o : ℕ) → SlotsBelow n os → o < n → SlotsBelow n (os ++ (o ∷ []))
  below_more [] o b h = (h, tt)
  below_more (a ∷ os) o b h = (b.0, below_more os o b.1 h)

  abbrev Lands : List ℕ → Focus → Type 0
  Lands os F = Landed g n os F

  land_not : (K : Contextᶜ) (c : Condition) (b : Bool) → c ≡ bool b → as_bool (Condition.not c) ≡ none → Aroundᶜ g n K → Lands (pendingᶜ K) (on_not K b)
  unfolding bool as_bool
  land_not K c true q h k = absurd (true≢false (cc (rw q at h)))
  land_not K c false q h k = record { good = (k, tt); theirs = refl; awake = λ o z. z }

  counted : (m k k' : ℕ) → k ≡ k' → Callable g m k → Callable g m k'
  counted m k k' e c = rw e at c

  mutual
    unfolding focus as_literal as_bool

    pub land : (K : Context) (e : Expression) → as_literal e ≡ none → Around g n K → Text g n e → Lands (pending K) (focus K e)
    land K (Expression.literal o) h k c = absurd (true≢false cc)
    land K (Expression.variable x) h k c = absurd c
    land K (Expression.new fs) h k c = record { good = (k, tt); theirs = refl; awake = λ o z. z }
    land K (Expression.read e f) h k c =
        land_lit (Lands (pending K)) (as_literal e) _ _ (λ o q. record { good = (k, (c.0, c.1, text_lit e o q c.2)); theirs = refl; awake = λ o z. z })
        (λ q. land (read K f) e q (c.0, c.1, k) c.2)
    land K (Expression.write e f e') h k c =
        land_lit (Lands (pending K)) (as_literal e) _ _
        (λ o q. land_lit (Lands (pending K)) (as_literal e') _ _
        (λ v q'. record { good = (k, (c.0, c.1, text_lit e o q c.2, text_lit e' v q' c.3)); theirs = refl; awake = λ o z. z })
        (λ q'. land (write₂ K o f) e' q' (c.0, c.1, text_lit e o q c.2, k) c.3))
        (λ q. land (write₁ K f e') e q (c.0, c.1, c.3, k) c.2)
    land K (Expression.let_in x e e') h k c =
        land_lit (Lands (pending K)) (as_literal e) _ _ (λ o q. record { good = (k, (text_lit e o q c.0, c.1)); theirs = refl; awake = λ o z. z })
        (λ q. land (let_in K x e') e q (c.1, k) c.0)
    land K (Expression.if b e e') h k c =
        land_bool (Lands (pending K)) (as_bool b) _ _ (λ x q. record { good = (k, (c.1, c.2)); theirs = refl; awake = λ o z. z })
        (λ q. landᶜ (Contextᶜ.if K e e') b q (c.1, c.2, k) c.0)
    land K (Expression.while b e) h k c = record { good = (k, c); theirs = refl; awake = λ o z. z }
    land K (Expression.call m es) h k c = landᵃ K m [] es k (counted m (count es) (0 + count es) (omega arith) c.0) tt c.1
    land K (Expression.fork e) h k c = record { good = (k, c); theirs = refl; awake = λ o z. z }
    land K (Expression.join e) h k c =
        land_lit (Lands (pending K)) (as_literal e) _ _ (λ o q. record { good = (k, text_lit e o q c); theirs = refl; awake = λ o z. z })
        (λ q. land (join K) e q k c)
    land K (Expression.synch e e') h k c =
        land_lit (Lands (pending K)) (as_literal e) _ _ (λ o q. record { good = (k, (text_lit e o q c.0, c.1)); theirs = refl; awake = λ o z. z })
        (λ q. land (synch K e') e q (c.1, k) c.0)
    land K (Expression.hold o e) h k c = absurd c
    land K (Expression.signal j e) h k c =
        land_lit (Lands (pending K)) (as_literal e) _ _ (λ o q. record { good = (k, text_lit e o q c); theirs = refl; awake = λ o z. z })
        (λ q. land (signal K j) e q k c)
    land K (Expression.waiting o) h k c = absurd c

    pub landᶜ : (K : Contextᶜ) (b : Condition) → as_bool b ≡ none → Aroundᶜ g n K → Textᶜ g n b → Lands (pendingᶜ K) (focusᶜ K b)
    landᶜ K Condition.truth h k c = absurd (true≢false cc)
    landᶜ K (Condition.not b) h k c =
        land_bool (Lands (pendingᶜ K)) (as_bool b) _ _ (λ x q. land_not K b x (as_bool_lem b x q) h k) (λ q. landᶜ (Contextᶜ.not K) b q k c)
    landᶜ K (Condition.and b b') h k c =
        land_bool (Lands (pendingᶜ K)) (as_bool b) _ _ (λ x q. record { good = (k, c.1); theirs = refl; awake = λ o z. z })
        (λ q. landᶜ (Contextᶜ.and K b') b q (c.1, k) c.0)
    landᶜ K (Condition.equal e e') h k c =
        land_lit (Lands (pendingᶜ K)) (as_literal e) _ _
        (λ o q. land_lit (Lands (pendingᶜ K)) (as_literal e') _ _ (λ v q'. record { good = (k, tt); theirs = refl; awake = λ o z. z })
        (λ q'. land (equal₂ K o) e' q' (text_lit e o q c.0, k) c.1))
        (λ q. land (equal₁ K e') e q (c.1, k) c.0)

    landᵃ : (K : Context) (m : ℕ) (os : List ℕ) (es : Arguments) → Around g n K → Callable g m (length os + count es) → SlotsBelow n os → Textᵃ g n es
        → Lands (pending K) (focusᵃ K m os es)
    landᵃ K m os Arguments.end k d b c = record { good = (k, (counted m (length os + 0) (length os) (omega arith) d, b)); theirs = refl; awake = λ o z. z }
    landᵃ K m os (Arguments.argument e es) k d b c =
        land_lit (Lands (pending K)) (as_literal e) _ _
        (λ o q. landᵃ K m (os ++ (o ∷ [])) es k
        (counted m (length os + suc (count es)) (length (os ++ (o ∷ [])) + count es) (omega (arith, length-append os (o ∷ []))) d)
        (below_more os o b (text_lit e o q c.0)) c.1)
        (λ q. land (call K m os es) e q (d, b, c.1, k) c.0)

  -- ---- what a move leaves in the hole of a good context

  lits_count : (os : List ℕ) (es : Arguments) → count (literals os es) ≡ length os + count es
  unfolding literals
  lits_count [] es = omega arith
  lits_count (o ∷ os) es = omega (arith, lits_count os es)

  lits_text : (os : List ℕ) (es : Arguments) → SlotsBelow n os → Textᵃ g n es → Textᵃ g n (literals os es)
  unfolding literals
  lits_text [] es b c = c
  lits_text (o ∷ os) es b c = (b.0, lits_text os es b.1 c)

  -- an expression that is no value
  risen : (K : Context) (e : Expression) → as_literal e ≡ none → Around g n K → Text g n e → Lands (pending K) (focus top (plug K e))
  risen K e h k c = rw (focus_plug K e h) (land K e h k c)

  risenᶜ : (K : Contextᶜ) (b : Condition) → as_bool b ≡ none → Aroundᶜ g n K → Textᶜ g n b → Lands (pendingᶜ K) (focus top (plugᶜ K b))
  risenᶜ K b h k c = rw (focus_plugᶜ K b h) (landᶜ K b h k c)

  -- a value
  rise_lit : (K : Context) (v : ℕ) → v < n → Around g n K → Lands (pending K) (focus top (plug K (literal v)))
  unfolding plug as_literal as_bool focus redex_expression
  rise_lit top v h k = record { good = h; theirs = refl; awake = λ o z. z }
  rise_lit (read K f) v h k = risen K (Expression.read (literal v) f) refl k.2 (k.0, k.1, h)
  rise_lit (write₁ K f e') v h k = risen K (Expression.write (literal v) f e') refl k.3 (k.0, k.1, h, k.2)
  rise_lit (write₂ K o f) v h k = risen K (Expression.write (literal o) f (literal v)) refl k.3 (k.0, k.1, k.2, h)
  rise_lit (call K m os es) v h k =
      risen K (Expression.call m (literals os (argument (literal v) es))) refl k.3 (
        counted m (length os + suc (count es)) (count (literals os (argument (literal v) es))) (sym (lits_count os (argument (literal v) es))) k.0,
        lits_text os (argument (literal v) es) k.1 (h, k.2),
      )
  rise_lit (let_in K x e') v h k = risen K (Expression.let_in x (literal v) e') refl k.1 (h, k.0)
  rise_lit (synch K e') v h k = risen K (Expression.synch (literal v) e') refl k.1 (h, k.0)
  rise_lit (hold K o) v h k = rw (found K (Redex.hold o v)) (record { good = (k.1, (k.0, h)); theirs = refl; awake = λ o z. z })
  rise_lit (join K) v h k = risen K (Expression.join (literal v)) refl k h
  rise_lit (signal K j) v h k = risen K (Expression.signal j (literal v)) refl k h
  rise_lit (equal₁ K e') v h k = risenᶜ K (Condition.equal (literal v) e') refl k.1 (h, k.0)
  rise_lit (equal₂ K o) v h k = risenᶜ K (Condition.equal (literal o) (literal v)) refl k.1 (k.0, h)

  bool_text : (b : Bool) → Textᶜ g n (bool b)
  unfolding bool
  bool_text true = tt
  bool_text false = tt

  rise_bool : (K : Contextᶜ) (b : Bool) → Aroundᶜ g n K → Lands (pendingᶜ K) (focus top (plugᶜ K (bool b)))
  unfolding plug as_bool as_literal bool
  rise_bool (Contextᶜ.if K e e') b k = risen K (Expression.if (bool b) e e') refl k.2 (bool_text b, k.0, k.1)
  rise_bool (Contextᶜ.and K c) b k = risenᶜ K (Condition.and (bool b) c) refl k.1 (bool_text b, k.0)
  rise_bool (Contextᶜ.not K) true k = rise_bool K false k
  rise_bool (Contextᶜ.not K) false k = risenᶜ K (Condition.not (Condition.not Condition.truth)) refl k tt

  pub rise : (K : Context) (e : Expression) → Around g n K → Text g n e → Landed g n (pending K) (focus top (plug K e))
  rise K e k c = go (as_literal e) refl
    where
      go : (a : Option ℕ) → as_literal e ≡ a → Landed g n (pending K) (focus top (plug K e))
      go none q = risen K e q k c
      go (some v) q = rw (as_literal_lem e v q) (rise_lit K v (text_lit e v q c) k)

  pub riseᶜ : (K : Contextᶜ) (b : Condition) → Aroundᶜ g n K → Textᶜ g n b → Landed g n (pendingᶜ K) (focus top (plugᶜ K b))
  riseᶜ K b k c = go (as_bool b) refl
    where
      go : (a : Option Bool) → as_bool b ≡ a → Landed g n (pendingᶜ K) (focus top (plugᶜ K b))
      go none q = risenᶜ K b q k c
      go (some v) q = rw (as_bool_lem b v q) (rise_bool K v k)
