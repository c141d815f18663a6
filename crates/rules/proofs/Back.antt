-- What is found as the next part stands there, in its context; and what is a value. Assumes nothing.
use Prim.Native.Nat.{ℕ}
use mathlib.Core.Path.{◌≡◌, refl, ap}
use mathlib.Core.Bool.{Bool, true, false}
use mathlib.Core.List.{List, [], ◌∷◌, ◌++◌}
use mathlib.Core.Option.{some}
use lib.Dec.{T}
use Rattle.plan_packed.specs.Syntax.{Expression, Condition, Arguments, literal, end, argument, bool}
use Rattle.rules.specs.Context.{Context, Contextᶜ, read, write₁, write₂, call, let_in, synch, hold, join, signal, equal₁, equal₂, literals, plug, plugᶜ}
use Rattle.rules.specs.Context.{Focus, value, here, hereᶜ, focus, focusᶜ, focusᵃ, as_literal, as_bool, is_truth, false_when, redex_expression}
use Rattle.rules.specs.Context.{redex_condition, on_literal, on_bool, on_not}

-- the context with the part in its hole is w
abbrev pub Back : Expression → Focus → Type 0
Back w (value o) = Unit {0}
Back w (here K r) = plug K (redex_expression r) ≡ w
Back w (hereᶜ K r) = plugᶜ K (redex_condition r) ≡ w

back_literal : (w e : Expression) (k : ℕ → Focus) (r : Focus) → ((o : ℕ) → e ≡ literal o → Back w (k o)) → Back w r → Back w (on_literal (as_literal e) k r)
unfolding as_literal
back_literal w (Expression.literal o) k r h h' = h o refl
back_literal w (Expression.variable x) k r h h' = h'
back_literal w (Expression.new fs) k r h h' = h'
back_literal w (Expression.read e f) k r h h' = h'
back_literal w (Expression.write e f e') k r h h' = h'
back_literal w (Expression.let_in x e e') k r h h' = h'
back_literal w (Expression.if c e e') k r h h' = h'
back_literal w (Expression.while c e) k r h h' = h'
back_literal w (Expression.call m es) k r h h' = h'
back_literal w (Expression.fork e) k r h h' = h'
back_literal w (Expression.join e) k r h h' = h'
back_literal w (Expression.synch e e') k r h h' = h'
back_literal w (Expression.hold o e) k r h h' = h'
back_literal w (Expression.signal j e) k r h h' = h'
back_literal w (Expression.waiting o) k r h h' = h'

truth_is : (c : Condition) → T (is_truth c) → c ≡ Condition.truth
unfolding is_truth
truth_is Condition.truth t = refl
truth_is (Condition.not c) t = absurd t
truth_is (Condition.and c c') t = absurd t
truth_is (Condition.equal e e') t = absurd t

back_false : (w : Expression) (c : Condition) (k : Bool → Focus) (r : Focus) (b : Bool) → is_truth c ≡ b
    → ((b : Bool) → Condition.not c ≡ bool b → Back w (k b)) → Back w r → Back w (on_bool (false_when b) k r)
unfolding false_when bool
back_false w c k r true q h h' = h false (ap {B = Condition} Condition.not (truth_is c (rw q tt)))
back_false w c k r false q h h' = h'

back_bool : (w : Expression) (c : Condition) (k : Bool → Focus) (r : Focus) → ((b : Bool) → c ≡ bool b → Back w (k b)) → Back w r
    → Back w (on_bool (as_bool c) k r)
unfolding as_bool bool
back_bool w Condition.truth k r h h' = h true refl
back_bool w (Condition.not c) k r h h' = back_false w c k r (is_truth c) refl h h'
back_bool w (Condition.and c c') k r h h' = h'
back_bool w (Condition.equal e e') k r h h' = h'

back_not : (K : Contextᶜ) (c : Condition) (b : Bool) → c ≡ bool b → Back (plugᶜ K (Condition.not c)) (on_not K b)
unfolding bool redex_condition
back_not K c true q = tt
back_not K c false q = rw q refl

literals_append : (vs os : List ℕ) (es : Arguments) → literals (vs ++ os) es ≡ literals vs (literals os es)
unfolding literals
literals_append [] os es = refl
literals_append (v ∷ vs) os es = ap (argument (literal v)) (literals_append vs os es)

mutual
  unfolding focus plug redex_expression redex_condition

  pub back : (K : Context) (e : Expression) → Back (plug K e) (focus K e)
  back K (Expression.literal o) = tt
  back K (Expression.variable x) = refl
  back K (Expression.new fs) = refl
  back K (Expression.read e f) = back_literal _ e _ _ (λ o q. rw q refl) (back (read K f) e)
  back K (Expression.write e f e') =
      back_literal _ e _ _ (λ o q. rw q (back_literal _ e' _ _ (λ v q'. rw q' refl) (back (write₂ K o f) e'))) (back (write₁ K f e') e)
  back K (Expression.let_in x e e') = back_literal _ e _ _ (λ o q. rw q refl) (back (let_in K x e') e)
  back K (Expression.if c e e') = back_bool _ c _ _ (λ b q. rw q refl) (backᶜ (Contextᶜ.if K e e') c)
  back K (Expression.while c e) = refl
  back K (Expression.call m es) = backᵃ K m [] es
  back K (Expression.fork e) = refl
  back K (Expression.join e) = back_literal _ e _ _ (λ o q. rw q refl) (back (join K) e)
  back K (Expression.synch e e') = back_literal _ e _ _ (λ o q. rw q refl) (back (synch K e') e)
  back K (Expression.hold o e) = back_literal _ e _ _ (λ v q. rw q refl) (back (hold K o) e)
  back K (Expression.signal j e) = back_literal _ e _ _ (λ o q. rw q refl) (back (signal K j) e)
  back K (Expression.waiting o) = refl

  pub backᶜ : (K : Contextᶜ) (c : Condition) → Back (plugᶜ K c) (focusᶜ K c)
  backᶜ K Condition.truth = tt
  backᶜ K (Condition.not c) = back_bool _ c _ _ (λ b q. back_not K c b q) (backᶜ (Contextᶜ.not K) c)
  backᶜ K (Condition.and c c') = back_bool _ c _ _ (λ b q. rw q refl) (backᶜ (Contextᶜ.and K c') c)
  backᶜ K (Condition.equal e e') =
      back_literal _ e _ _ (λ o q. rw q (back_literal _ e' _ _ (λ v q'. rw q' refl) (back (equal₂ K o) e'))) (back (equal₁ K e') e)

  backᵃ : (K : Context) (m : ℕ) (vs : List ℕ) (es : Arguments) → Back (plug K (Expression.call m (literals vs es))) (focusᵃ K m vs es)
  backᵃ K m vs Arguments.end = refl
  backᵃ K m vs (Arguments.argument e es) =
      back_literal _ e _ _ (λ o q. rw q (rw literals_append at (backᵃ K m (vs ++ (o ∷ [])) es))) (back (call K m vs es) e)

pub as_literal_lem : (e : Expression) (o : ℕ) → as_literal e ≡ some o → e ≡ literal o
unfolding as_literal
as_literal_lem (Expression.literal o) v h = cc
as_literal_lem (Expression.variable x) v h = cc
as_literal_lem (Expression.new fs) v h = cc
as_literal_lem (Expression.read e f) v h = cc
as_literal_lem (Expression.write e f e') v h = cc
as_literal_lem (Expression.let_in x e e') v h = cc
as_literal_lem (Expression.if c e e') v h = cc
as_literal_lem (Expression.while c e) v h = cc
as_literal_lem (Expression.call m es) v h = cc
as_literal_lem (Expression.fork e) v h = cc
as_literal_lem (Expression.join e) v h = cc
as_literal_lem (Expression.synch e e') v h = cc
as_literal_lem (Expression.hold o e) v h = cc
as_literal_lem (Expression.signal j e) v h = cc
as_literal_lem (Expression.waiting o) v h = cc

as_false : (c : Condition) (b v : Bool) → is_truth c ≡ b → false_when b ≡ some v → Condition.not c ≡ bool v
unfolding false_when bool
as_false c true v q h = let e : false ≡ v = cc in rw (← e, truth_is c (rw q tt))
as_false c false v q h = cc

pub as_bool_lem : (c : Condition) (b : Bool) → as_bool c ≡ some b → c ≡ bool b
unfolding as_bool bool
as_bool_lem Condition.truth b h = let e : true ≡ b = cc in rw (← e)
as_bool_lem (Condition.not c) b h = as_false c (is_truth c) b refl h
as_bool_lem (Condition.and c c') b h = cc
as_bool_lem (Condition.equal e e') b h = cc
