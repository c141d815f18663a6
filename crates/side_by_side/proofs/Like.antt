-- Expressions alike up to the numbering of objects, and without a wait. ω gives the new number of an object that is kept. Assumes nothing.
use Prim.Native.Nat.{ℕ}
use mathlib.Core.Path.{◌≡◌}
use mathlib.Core.Bool.{Bool}
use mathlib.Core.List.{List, [], ◌∷◌}
use mathlib.Core.Option.{Option, some}
use Rattle.plan_packed.specs.Syntax.{Signal, Expression, Condition, Arguments}
use Rattle.rules.specs.Context.{Context, Contextᶜ, Redex, Redexᶜ, Focus}
use Rattle.side_by_side.specs.Inner.Waitless.{NoWait}

abbrev pub Naming : Type 0
Naming = ℕ → Option ℕ

mutual
  pub data Like (ω : Naming) : Expression → Expression → Type 0 where
    e_lit : {o a : ℕ} → ω o ≡ some a → Like ω (Expression.literal o) (Expression.literal a)
    e_var : {x : ℕ} → Like ω (Expression.variable x) (Expression.variable x)
    e_new : {fs : List ℕ} → Like ω (Expression.new fs) (Expression.new fs)
    e_read : {d e : Expression} {f : ℕ} → Like ω d e → Like ω (Expression.read d f) (Expression.read e f)
    e_write : {d e d' e' : Expression} {f : ℕ} → Like ω d e → Like ω d' e' → Like ω (Expression.write d f d') (Expression.write e f e')
    e_lets : {d e d' e' : Expression} {x : Option ℕ} → Like ω d e → Like ω d' e' → Like ω (Expression.let_in x d d') (Expression.let_in x e e')
    e_if : {b c : Condition} {d e d' e' : Expression} → Likeᶜ ω b c → Like ω d e → Like ω d' e' → Like ω (Expression.if b d d') (Expression.if c e e')
    e_while : {b c : Condition} {d e : Expression} → Likeᶜ ω b c → Like ω d e → Like ω (Expression.while b d) (Expression.while c e)
    e_call : {m : ℕ} {ds es : Arguments} → Likeᵃ ω ds es → Like ω (Expression.call m ds) (Expression.call m es)
    e_fork : {d e : Expression} → Like ω d e → Like ω (Expression.fork d) (Expression.fork e)
    e_join : {d e : Expression} → Like ω d e → Like ω (Expression.join d) (Expression.join e)
    e_synch : {d e d' e' : Expression} → Like ω d e → Like ω d' e' → Like ω (Expression.synch d d') (Expression.synch e e')
    e_hold : {o a : ℕ} {d e : Expression} → ω o ≡ some a → Like ω d e → Like ω (Expression.hold o d) (Expression.hold a e)
    e_signal : {k : Signal} {d e : Expression} → NoWait k → Like ω d e → Like ω (Expression.signal k d) (Expression.signal k e)

  pub data Likeᶜ (ω : Naming) : Condition → Condition → Type 0 where
    c_truth : Likeᶜ ω Condition.truth Condition.truth
    c_not : {b c : Condition} → Likeᶜ ω b c → Likeᶜ ω (Condition.not b) (Condition.not c)
    c_and : {b c b' c' : Condition} → Likeᶜ ω b c → Likeᶜ ω b' c' → Likeᶜ ω (Condition.and b b') (Condition.and c c')
    c_equal : {d e d' e' : Expression} → Like ω d e → Like ω d' e' → Likeᶜ ω (Condition.equal d d') (Condition.equal e e')

  pub data Likeᵃ (ω : Naming) : Arguments → Arguments → Type 0 where
    a_end : Likeᵃ ω Arguments.end Arguments.end
    a_arg : {d e : Expression} {ds es : Arguments} → Like ω d e → Likeᵃ ω ds es → Likeᵃ ω (Arguments.argument d ds) (Arguments.argument e es)

pub data LikeValues (ω : Naming) : List ℕ → List ℕ → Type 0 where
  l_nil : LikeValues ω [] []
  l_cons : {o a : ℕ} {os as' : List ℕ} → ω o ≡ some a → LikeValues ω os as' → LikeValues ω (o ∷ os) (a ∷ as')

mutual
  pub data LikeContext (ω : Naming) : Context → Context → Type 0 where
    k_top : LikeContext ω Context.top Context.top
    k_read : {K J : Context} {f : ℕ} → LikeContext ω K J → LikeContext ω (Context.read K f) (Context.read J f)
    k_write₁ : {K J : Context} {f : ℕ} {d e : Expression} → LikeContext ω K J → Like ω d e → LikeContext ω (Context.write₁ K f d) (Context.write₁ J f e)
    k_write₂ : {K J : Context} {o a f : ℕ} → LikeContext ω K J → ω o ≡ some a → LikeContext ω (Context.write₂ K o f) (Context.write₂ J a f)
    k_args : {K J : Context} {m : ℕ} {os as' : List ℕ} {ds es : Arguments} → LikeContext ω K J → LikeValues ω os as' → Likeᵃ ω ds es
        → LikeContext ω (Context.call K m os ds) (Context.call J m as' es)
    k_lets : {K J : Context} {x : Option ℕ} {d e : Expression} → LikeContext ω K J → Like ω d e → LikeContext ω (Context.let_in K x d) (Context.let_in J x e)
    k_synch : {K J : Context} {d e : Expression} → LikeContext ω K J → Like ω d e → LikeContext ω (Context.synch K d) (Context.synch J e)
    k_hold : {K J : Context} {o a : ℕ} → LikeContext ω K J → ω o ≡ some a → LikeContext ω (Context.hold K o) (Context.hold J a)
    k_join : {K J : Context} → LikeContext ω K J → LikeContext ω (Context.join K) (Context.join J)
    k_signal : {K J : Context} {k : Signal} → LikeContext ω K J → NoWait k → LikeContext ω (Context.signal K k) (Context.signal J k)
    k_equal₁ : {K J : Contextᶜ} {d e : Expression} → LikeContextᶜ ω K J → Like ω d e → LikeContext ω (Context.equal₁ K d) (Context.equal₁ J e)
    k_equal₂ : {K J : Contextᶜ} {o a : ℕ} → LikeContextᶜ ω K J → ω o ≡ some a → LikeContext ω (Context.equal₂ K o) (Context.equal₂ J a)

  pub data LikeContextᶜ (ω : Naming) : Contextᶜ → Contextᶜ → Type 0 where
    k_if : {K J : Context} {d e d' e' : Expression} → LikeContext ω K J → Like ω d e → Like ω d' e' → LikeContextᶜ ω (Contextᶜ.if K d d') (Contextᶜ.if J e e')
    k_and : {K J : Contextᶜ} {b c : Condition} → LikeContextᶜ ω K J → Likeᶜ ω b c → LikeContextᶜ ω (Contextᶜ.and K b) (Contextᶜ.and J c)
    k_not : {K J : Contextᶜ} → LikeContextᶜ ω K J → LikeContextᶜ ω (Contextᶜ.not K) (Contextᶜ.not J)

pub data LikePart (ω : Naming) : Redex → Redex → Type 0 where
  r_var : {x : ℕ} → LikePart ω (Redex.variable x) (Redex.variable x)
  r_new : {fs : List ℕ} → LikePart ω (Redex.new fs) (Redex.new fs)
  r_read : {o a f : ℕ} → ω o ≡ some a → LikePart ω (Redex.read o f) (Redex.read a f)
  r_write : {o a f v w : ℕ} → ω o ≡ some a → ω v ≡ some w → LikePart ω (Redex.write o f v) (Redex.write a f w)
  r_lets : {x : Option ℕ} {o a : ℕ} {d e : Expression} → ω o ≡ some a → Like ω d e → LikePart ω (Redex.let_in x o d) (Redex.let_in x a e)
  r_if : {b : Bool} {d e d' e' : Expression} → Like ω d e → Like ω d' e' → LikePart ω (Redex.if b d d') (Redex.if b e e')
  r_while : {b c : Condition} {d e : Expression} → Likeᶜ ω b c → Like ω d e → LikePart ω (Redex.while b d) (Redex.while c e)
  r_call : {m : ℕ} {os as' : List ℕ} → LikeValues ω os as' → LikePart ω (Redex.call m os) (Redex.call m as')
  r_fork : {d e : Expression} → Like ω d e → LikePart ω (Redex.fork d) (Redex.fork e)
  r_join : {o a : ℕ} → ω o ≡ some a → LikePart ω (Redex.join o) (Redex.join a)
  r_synch : {o a : ℕ} {d e : Expression} → ω o ≡ some a → Like ω d e → LikePart ω (Redex.synch o d) (Redex.synch a e)
  r_hold : {o a v w : ℕ} → ω o ≡ some a → ω v ≡ some w → LikePart ω (Redex.hold o v) (Redex.hold a w)
  r_signal : {k : Signal} {o a : ℕ} → NoWait k → ω o ≡ some a → LikePart ω (Redex.signal k o) (Redex.signal k a)

pub data LikePartᶜ (ω : Naming) : Redexᶜ → Redexᶜ → Type 0 where
  r_not_false : LikePartᶜ ω Redexᶜ.not_false Redexᶜ.not_false
  r_and : {b : Bool} {c d : Condition} → Likeᶜ ω c d → LikePartᶜ ω (Redexᶜ.and b c) (Redexᶜ.and b d)
  r_equal : {o a o' a' : ℕ} → ω o ≡ some a → ω o' ≡ some a' → LikePartᶜ ω (Redexᶜ.equal o o') (Redexᶜ.equal a a')

pub data LikeFocus (ω : Naming) : Focus → Focus → Type 0 where
  f_value : {o a : ℕ} → ω o ≡ some a → LikeFocus ω (Focus.value o) (Focus.value a)
  f_here : {K J : Context} {x y : Redex} → LikeContext ω K J → LikePart ω x y → LikeFocus ω (Focus.here K x) (Focus.here J y)
  f_hereᶜ : {K J : Contextᶜ} {x y : Redexᶜ} → LikeContextᶜ ω K J → LikePartᶜ ω x y → LikeFocus ω (Focus.hereᶜ K x) (Focus.hereᶜ J y)
