-- Every expression is a value or has exactly one redex in exactly one context. Assumes nothing.
use Prim.Native.Nat.{ℕ}
use mathlib.Core.Path.{◌≡◌, refl, sym, ap, ◌∙◌, subst as along}
use mathlib.Core.Bool.{Bool, true, false}
use mathlib.Core.List.{List, [], ◌∷◌, ◌++◌}
use mathlib.Core.Option.{Option, some, none, some-ne-none}
use Rattle.plan_packed.specs.Syntax.{Expression, Condition, Arguments, literal, end, argument, bool}
use Rattle.rules.specs.Context.{Context, Contextᶜ, top, read, write₁, write₂, call, let_in, synch, hold, join, signal, equal₁, equal₂, plug, plugᶜ}
use Rattle.rules.specs.Context.{Focus, value, here, hereᶜ, focus, focusᶜ, focusᵃ, as_literal, as_bool, redex_expression, redex_condition, on_literal, on_bool}
use Rattle.rules.specs.Context.{on_not}
use Rattle.rules.proofs.FocusPlug.{found, foundᶜ}
use Rattle.rules.proofs.Back.{Back, back, as_literal_lem, as_bool_lem}

-- ---- what is no value moves somewhere

abbrev pub Somewhere : Focus → Type 0
Somewhere (value o) = ⊥
Somewhere (here K r) = Unit {0}
Somewhere (hereᶜ K r) = Unit {0}

some_literal : (a : Option ℕ) (k : ℕ → Focus) (r : Focus) → ((o : ℕ) → Somewhere (k o)) → (a ≡ none → Somewhere r) → Somewhere (on_literal a k r)
some_literal (some o) k r h h' = h o
some_literal none k r h h' = h' refl

some_bool : (a : Option Bool) (k : Bool → Focus) (r : Focus) → ((b : Bool) → a ≡ some b → Somewhere (k b)) → (a ≡ none → Somewhere r) → Somewhere (on_bool a k r)
some_bool (some b) k r h h' = h b refl
some_bool none k r h h' = h' refl

-- a negation that is no value is of no true condition
some_not : (K : Contextᶜ) (c : Condition) (b : Bool) → c ≡ bool b → as_bool (Condition.not c) ≡ none → Somewhere (on_not K b)
unfolding bool as_bool
some_not K c true q h = absurd (some-ne-none false (rw q at h))
some_not K c false q h = tt

mutual
  unfolding focus as_literal as_bool

  somewhere : (K : Context) (e : Expression) → as_literal e ≡ none → Somewhere (focus K e)
  somewhere K (Expression.literal o) h = absurd (some-ne-none o h)
  somewhere K (Expression.variable x) h = tt
  somewhere K (Expression.new fs) h = tt
  somewhere K (Expression.read e f) h = some_literal (as_literal e) _ _ (λ o. tt) (λ q. somewhere (read K f) e q)
  somewhere K (Expression.write e f e') h =
      some_literal (as_literal e) _ _ (λ o. some_literal (as_literal e') _ _ (λ v. tt) (λ q. somewhere (write₂ K o f) e' q)) (λ q. somewhere (write₁ K f e') e q)
  somewhere K (Expression.let_in x e e') h = some_literal (as_literal e) _ _ (λ o. tt) (λ q. somewhere (let_in K x e') e q)
  somewhere K (Expression.if c e e') h = some_bool (as_bool c) _ _ (λ b q. tt) (λ q. somewhereᶜ (Contextᶜ.if K e e') c q)
  somewhere K (Expression.while c e) h = tt
  somewhere K (Expression.call m es) h = somewhereᵃ K m [] es
  somewhere K (Expression.fork e) h = tt
  somewhere K (Expression.join e) h = some_literal (as_literal e) _ _ (λ o. tt) (λ q. somewhere (join K) e q)
  somewhere K (Expression.synch e e') h = some_literal (as_literal e) _ _ (λ o. tt) (λ q. somewhere (synch K e') e q)
  somewhere K (Expression.hold o e) h = some_literal (as_literal e) _ _ (λ v. tt) (λ q. somewhere (hold K o) e q)
  somewhere K (Expression.signal j e) h = some_literal (as_literal e) _ _ (λ o. tt) (λ q. somewhere (signal K j) e q)
  somewhere K (Expression.waiting o) h = tt

  somewhereᶜ : (K : Contextᶜ) (c : Condition) → as_bool c ≡ none → Somewhere (focusᶜ K c)
  somewhereᶜ K Condition.truth h = absurd (some-ne-none true h)
  somewhereᶜ K (Condition.not c) h = some_bool (as_bool c) _ _ (λ b q. some_not K c b (as_bool_lem c b q) h) (λ q. somewhereᶜ (Contextᶜ.not K) c q)
  somewhereᶜ K (Condition.and c c') h = some_bool (as_bool c) _ _ (λ b q. tt) (λ q. somewhereᶜ (Contextᶜ.and K c') c q)
  somewhereᶜ K (Condition.equal e e') h =
      some_literal (as_literal e) _ _ (λ o. some_literal (as_literal e') _ _ (λ v. tt) (λ q. somewhere (equal₂ K o) e' q)) (λ q. somewhere (equal₁ K e') e q)

  somewhereᵃ : (K : Context) (m : ℕ) (vs : List ℕ) (es : Arguments) → Somewhere (focusᵃ K m vs es)
  somewhereᵃ K m vs Arguments.end = tt
  somewhereᵃ K m vs (Arguments.argument e es) = some_literal (as_literal e) _ _ (λ o. somewhereᵃ K m (vs ++ (o ∷ [])) es) (λ q. somewhere (call K m vs es) e q)

-- the expression that is focused so
unfoldable pub whole : Focus → Expression
unfolding plug redex_expression redex_condition
whole (value o) = literal o
whole (here K r) = plug K (redex_expression r)
whole (hereᶜ K r) = plugᶜ K (redex_condition r)

whole_back : (w : Expression) (F : Focus) → Somewhere F → Back w F → whole F ≡ w
unfolding whole
whole_back w (value o) s h = absurd s
whole_back w (here K r) s h = h
whole_back w (hereᶜ K r) s h = h

pub whole_focus : (e : Expression) → whole (focus top e) ≡ e
unfolding plug focus whole
whole_focus e = go (as_literal e) refl
  where
    go : (v : Option ℕ) → as_literal e ≡ v → whole (focus top e) ≡ e
    go (some o) q = rw (as_literal_lem e o q)
    go none q = whole_back e (focus top e) (somewhere top e q) (back top e)

pub focus_whole : (F : Focus) → focus top (whole F) ≡ F
unfolding whole focus
focus_whole (value o) = refl
focus_whole (here K r) = found K r
focus_whole (hereᶜ K r) = foundᶜ K r

-- every expression is a value, or one redex in one context, and in no other way
pub decomposition : (e : Expression) → (F : Focus) × (whole F ≡ e) × ((G : Focus) → whole G ≡ e → G ≡ F)
decomposition e = (focus top e, whole_focus e, λ G h. sym (focus_whole G) ∙ ap (focus top) h)

pub no_literal : (F : Focus) → Somewhere F → as_literal (whole F) ≡ none
unfolding focus
no_literal F s = go (as_literal (whole F)) refl
  where
    go : (v : Option ℕ) → as_literal (whole F) ≡ v → as_literal (whole F) ≡ none
    go (some v) q = absurd (along Somewhere (sym (focus_whole F) ∙ ap (focus top) (as_literal_lem (whole F) v q)) s)
    go none q = q
