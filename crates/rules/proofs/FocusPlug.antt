-- The next part of a redex in a context is that redex in that context. Assumes nothing.
use Prim.Native.Nat.{ℕ}
use mathlib.Core.Path.{◌≡◌, refl, ap, ◌∙◌}
use mathlib.Core.Bool.{true, false}
use mathlib.Core.List.{List, [], ◌∷◌, ◌++◌, append-nil, append_assoc}
use mathlib.Core.Option.{none, some-ne-none}
use Rattle.plan_packed.specs.Syntax.{Expression, Condition, Arguments, literal, end, argument}
use Rattle.rules.specs.Context.{Context, Contextᶜ, top, read, write₁, write₂, call, let_in, synch, hold, join, signal, equal₁, equal₂, literals, plug}
use Rattle.rules.specs.Context.{plugᶜ, Redex, Redexᶜ, here, hereᶜ, focus, focusᶜ, focusᵃ, as_literal, as_bool, redex_expression, redex_condition}

focus_args : (K : Context) (m : ℕ) (vs os : List ℕ) (es : Arguments) (e : Expression) → as_literal e ≡ none
    → focusᵃ K m vs (literals os (argument e es)) ≡ focus (call K m (vs ++ os) es) e
unfolding focus literals
focus_args K m vs [] es e h = rw (append-nil, h)
focus_args K m vs (o ∷ os) es e h = focus_args K m (vs ++ (o ∷ [])) os es e h ∙ ap (λ (l : List ℕ). focus (call K m l es) e) (append_assoc vs (o ∷ []) os)

not_none : (c : Condition) → as_bool c ≡ none → as_bool (Condition.not c) ≡ none
unfolding as_bool
not_none Condition.truth h = absurd (some-ne-none true h)
not_none (Condition.not c) h = refl
not_none (Condition.and c c') h = refl
not_none (Condition.equal e e') h = refl

-- to look for the part that moves next from the outside is to look for it from any context around it
mutual
  unfolding focus plug

  pub focus_plug : (K : Context) (e : Expression) → as_literal e ≡ none → focus top (plug K e) ≡ focus K e
  focus_plug top e h = refl
  focus_plug (read K f) e h = focus_plug K (Expression.read e f) refl ∙ rw h
  focus_plug (write₁ K f e') e h = focus_plug K (Expression.write e f e') refl ∙ rw h
  focus_plug (write₂ K o f) e h = focus_plug K (Expression.write (literal o) f e) refl ∙ rw h
  focus_plug (call K m os es) e h = focus_plug K (Expression.call m (literals os (argument e es))) refl ∙ focus_args K m [] os es e h
  focus_plug (let_in K x e') e h = focus_plug K (Expression.let_in x e e') refl ∙ rw h
  focus_plug (synch K e') e h = focus_plug K (Expression.synch e e') refl ∙ rw h
  focus_plug (hold K o) e h = focus_plug K (Expression.hold o e) refl ∙ rw h
  focus_plug (join K) e h = focus_plug K (Expression.join e) refl ∙ rw h
  focus_plug (signal K j) e h = focus_plug K (Expression.signal j e) refl ∙ rw h
  focus_plug (equal₁ K e') e h = focus_plugᶜ K (Condition.equal e e') refl ∙ rw h
  focus_plug (equal₂ K o) e h = focus_plugᶜ K (Condition.equal (literal o) e) refl ∙ rw h

  pub focus_plugᶜ : (K : Contextᶜ) (c : Condition) → as_bool c ≡ none → focus top (plugᶜ K c) ≡ focusᶜ K c
  focus_plugᶜ (Contextᶜ.if K e e') c h = focus_plug K (Expression.if c e e') refl ∙ rw h
  focus_plugᶜ (Contextᶜ.and K c') c h = focus_plugᶜ K (Condition.and c c') refl ∙ rw h
  focus_plugᶜ (Contextᶜ.not K) c h = focus_plugᶜ K (Condition.not c) (not_none c h) ∙ rw h

focus_lits : (K : Context) (m : ℕ) (vs os : List ℕ) → focusᵃ K m vs (literals os end) ≡ here K (Redex.call m (vs ++ os))
unfolding focus literals
focus_lits K m vs [] = rw append-nil
focus_lits K m vs (o ∷ os) = focus_lits K m (vs ++ (o ∷ [])) os ∙ ap (λ (l : List ℕ). here K (Redex.call m l)) (append_assoc vs (o ∷ []) os)

pub focus_term : (K : Context) (r : Redex) → focus K (redex_expression r) ≡ here K r
unfolding focus redex_expression
focus_term K (Redex.variable x) = refl
focus_term K (Redex.new fs) = refl
focus_term K (Redex.read o f) = refl
focus_term K (Redex.write o f v) = refl
focus_term K (Redex.let_in x o e) = refl
focus_term K (Redex.if true e e') = refl
focus_term K (Redex.if false e e') = refl
focus_term K (Redex.while c e) = refl
focus_term K (Redex.call m os) = focus_lits K m [] os
focus_term K (Redex.fork e) = refl
focus_term K (Redex.join o) = refl
focus_term K (Redex.synch o e) = refl
focus_term K (Redex.hold o v) = refl
focus_term K (Redex.signal j o) = refl
focus_term K (Redex.waiting o) = refl

pub focus_termᶜ : (K : Contextᶜ) (r : Redexᶜ) → focusᶜ K (redex_condition r) ≡ hereᶜ K r
unfolding focus redex_condition
focus_termᶜ K Redexᶜ.not_false = refl
focus_termᶜ K (Redexᶜ.and true c) = refl
focus_termᶜ K (Redexᶜ.and false c) = refl
focus_termᶜ K (Redexᶜ.equal o o') = refl

term_none : (r : Redex) → as_literal (redex_expression r) ≡ none
unfolding as_literal redex_expression
term_none (Redex.variable x) = refl
term_none (Redex.new fs) = refl
term_none (Redex.read o f) = refl
term_none (Redex.write o f v) = refl
term_none (Redex.let_in x o e) = refl
term_none (Redex.if b e e') = refl
term_none (Redex.while c e) = refl
term_none (Redex.call m os) = refl
term_none (Redex.fork e) = refl
term_none (Redex.join o) = refl
term_none (Redex.synch o e) = refl
term_none (Redex.hold o v) = refl
term_none (Redex.signal j o) = refl
term_none (Redex.waiting o) = refl

term_noneᶜ : (r : Redexᶜ) → as_bool (redex_condition r) ≡ none
unfolding as_bool redex_condition
term_noneᶜ Redexᶜ.not_false = refl
term_noneᶜ (Redexᶜ.and b c) = refl
term_noneᶜ (Redexᶜ.equal o o') = refl

-- unique decomposition: what stands in the hole is found, and nothing else
pub found : (K : Context) (r : Redex) → focus top (plug K (redex_expression r)) ≡ here K r
found K r = focus_plug K (redex_expression r) (term_none r) ∙ focus_term K r

pub foundᶜ : (K : Contextᶜ) (r : Redexᶜ) → focus top (plugᶜ K (redex_condition r)) ≡ hereᶜ K r
foundᶜ K r = focus_plugᶜ K (redex_condition r) (term_noneᶜ r) ∙ focus_termᶜ K r
