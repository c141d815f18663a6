-- What the machine goes on with, a value, a closure or a rule's result in the hole of its frames, finds what the definitions find in the whole
-- expression. Assumes nothing.
use Prim.Native.Nat.{ℕ, suc}
use native.Mathlib.Omega.{arith}
use mathlib.Core.Path.{◌≡◌, refl, sym, ap, ◌∙◌}
use mathlib.Core.Bool.{Bool, true, false}
use mathlib.Core.List.{List, [], ◌∷◌, ◌++◌, append-nil, append_assoc}
use mathlib.Core.Option.{Option, some, none}
use Rattle.plan_packed.specs.Syntax.{Expression, Condition, Arguments, literal, argument, bool, substitute}
use Rattle.plan_packed.specs.Trees.{Node, expression_of}
use Rattle.plan_packed.specs.Inner.Steps.{Descending}
use Rattle.plan_packed.proofs.TreeLaws.{tree_law}
use Rattle.rules.specs.Context.{Context, top, literals, plug, plugᶜ, as_literal, as_bool, Redex, Redexᶜ, redex_expression, redex_condition, focus, focusᵃ}
use Rattle.rules.proofs.Decompose.{whole, whole_focus}
use Rattle.rules.proofs.FocusPlug.{found, foundᶜ, focus_plug, focus_plugᶜ}
use Rattle.rules.proofs.Back.{as_literal_lem, as_bool_lem}
use Rattle.machine.specs.Inner.Frames.{Slots, put, Closure, closure, first_of, second_of, Frame, Ready, Result}
use Rattle.machine.specs.Inner.Refocusing.{given, value_in, bool_in, down, downᶜ, up, nowhere, upᶜ, enter, enterᶜ, go}
use Rattle.machine.proofs.Substitution.{first_slots, first_put}
use Rattle.machine.proofs.Meaning.{expression_in, condition_in, arguments_in, body_in, while_in, turn_in, context, contextᶜ, redex_of, mean, result_of}
use Rattle.machine.proofs.Down.{value_in_lem, bool_in_lem, by_literal, down_focus, down_focusᶜ, down_focusᵃ}

focus_after : (K : Context) (m : ℕ) (vs os : List ℕ) (es : Arguments) → focusᵃ K m vs (literals os es) ≡ focusᵃ K m (vs ++ os) es
unfolding focus literals
focus_after K m vs [] es = rw append-nil
focus_after K m vs (o ∷ os) es = focus_after K m (vs ++ (o ∷ [])) os es ∙ ap (λ (l : List ℕ). focusᵃ K m l es) (append_assoc vs (o ∷ []) os)

module _ (h : ℕ → Node) (N : ℕ) (o : Descending h N) where
  down_at : (S : List Frame) (x : Closure) → mean h N (down h N S x) ≡ focus (context h N S) (expression_in h N x)
  down_at S x = down_focus h N o N S x (omega arith)

  -- a value in the hole
  pub up_focus : (S : List Frame) (v : ℕ) → mean h N (up h N S v) ≡ focus top (plug (context h N S) (literal v))
  unfolding up plug focus
  up_focus [] v = refl
  up_focus (Frame.read f ∷ S) v = sym (focus_plug (context h N S) (Expression.read (literal v) f) refl)
  up_focus (Frame.write₁ f x ∷ S) v =
      by_literal h N o _ _ _ _ _ _ (value_in_lem h N o x) (λ w. refl) (down_at (Frame.write₂ v f ∷ S) x)
      ∙ sym (focus_plug (context h N S) (Expression.write (literal v) f (expression_in h N x)) refl)
  up_focus (Frame.write₂ o f ∷ S) v = sym (focus_plug (context h N S) (Expression.write (literal o) f (literal v)) refl)
  up_focus (Frame.call m n σ x ∷ S) v =
      down_focusᵃ h N o N S m (suc n) (put σ n v) x (omega arith)
      ∙ ap (λ (os : List ℕ). focusᵃ (context h N S) m os (arguments_in h N x)) (first_put n v σ)
      ∙ sym (focus_after (context h N S) m [] (first_slots n σ) (argument (literal v) (arguments_in h N x)))
      ∙ sym (focus_plug (context h N S) (Expression.call m (literals (first_slots n σ) (argument (literal v) (arguments_in h N x)))) refl)
  up_focus (Frame.let_in x y ∷ S) v = sym (focus_plug (context h N S) (Expression.let_in x (literal v) (body_in h N x y)) refl)
  up_focus (Frame.synch x ∷ S) v = sym (focus_plug (context h N S) (Expression.synch (literal v) (expression_in h N x)) refl)
  up_focus (Frame.hold o ∷ S) v = sym (focus_plug (context h N S) (Expression.hold o (literal v)) refl)
  up_focus (Frame.join ∷ S) v = sym (focus_plug (context h N S) (Expression.join (literal v)) refl)
  up_focus (Frame.signal j ∷ S) v = sym (focus_plug (context h N S) (Expression.signal j (literal v)) refl)
  up_focus (Frame.equal₁ x ∷ S) v =
      by_literal h N o _ _ _ _ _ _ (value_in_lem h N o x) (λ w. refl) (down_at (Frame.equal₂ v ∷ S) x)
      ∙ sym (focus_plugᶜ (contextᶜ h N S) (Condition.equal (literal v) (expression_in h N x)) refl)
  up_focus (Frame.equal₂ o ∷ S) v = sym (focus_plugᶜ (contextᶜ h N S) (Condition.equal (literal o) (literal v)) refl)
  up_focus (Frame.if x ∷ S) v = refl
  up_focus (Frame.and x ∷ S) v = refl
  up_focus (Frame.not ∷ S) v = refl
  up_focus (Frame.while_test x ∷ S) v = refl
  up_focus (Frame.while_body x ∷ S) v = sym (focus_plug (context h N S) (Expression.let_in none (literal v) (while_in h N x)) refl)

  -- no condition's value comes here
  null_in : (ρ : Slots) → expression_in h N (closure N ρ) ≡ literal 0
  unfolding expression_of substitute
  null_in ρ = rw (tree_law h N o N, o.past N (omega arith))

  nowhere_focus : (b : Bool) → mean h N (nowhere h N b) ≡ focus top (Expression.if (bool b) (literal 0) (literal 0))
  unfolding focus bool
  nowhere_focus true = rw null_in
  nowhere_focus false = rw null_in

  pub upᶜ_focus : (S : List Frame) (b : Bool) → mean h N (upᶜ h N S b) ≡ focus top (plugᶜ (contextᶜ h N S) (bool b))
  unfolding upᶜ plug redex_expression redex_condition bool
  upᶜ_focus [] b = nowhere_focus b
  upᶜ_focus (Frame.if x ∷ S) b = sym (found (context h N S) (Redex.if b (expression_in h N (first_of x)) (expression_in h N (second_of x))))
  upᶜ_focus (Frame.and x ∷ S) b = sym (foundᶜ (contextᶜ h N S) (Redexᶜ.and b (condition_in h N x)))
  upᶜ_focus (Frame.not ∷ S) true = upᶜ_focus S false
  upᶜ_focus (Frame.not ∷ S) false = sym (foundᶜ (contextᶜ h N S) Redexᶜ.not_false)
  upᶜ_focus (Frame.while_test x ∷ S) b = sym (found (context h N S) (Redex.if b (turn_in h N x) (literal 0)))
  upᶜ_focus (Frame.read f ∷ S) b = nowhere_focus b
  upᶜ_focus (Frame.write₁ f x ∷ S) b = nowhere_focus b
  upᶜ_focus (Frame.write₂ o f ∷ S) b = nowhere_focus b
  upᶜ_focus (Frame.call m n σ x ∷ S) b = nowhere_focus b
  upᶜ_focus (Frame.let_in x y ∷ S) b = nowhere_focus b
  upᶜ_focus (Frame.synch x ∷ S) b = nowhere_focus b
  upᶜ_focus (Frame.hold o ∷ S) b = nowhere_focus b
  upᶜ_focus (Frame.join ∷ S) b = nowhere_focus b
  upᶜ_focus (Frame.signal j ∷ S) b = nowhere_focus b
  upᶜ_focus (Frame.equal₁ x ∷ S) b = nowhere_focus b
  upᶜ_focus (Frame.equal₂ o ∷ S) b = nowhere_focus b
  upᶜ_focus (Frame.while_body x ∷ S) b = nowhere_focus b

  enter_by : (S : List Frame) (x : Closure) (v : Option ℕ) → as_literal (expression_in h N x) ≡ v
      → mean h N (given v (λ v. up h N S v) (down h N S x)) ≡ focus top (plug (context h N S) (expression_in h N x))
  enter_by S x (some v) q = up_focus S v ∙ ap (λ (e : Expression). focus top (plug (context h N S) e)) (sym (as_literal_lem _ v q))
  enter_by S x none q = down_at S x ∙ sym (focus_plug (context h N S) (expression_in h N x) q)

  pub enter_focus : (S : List Frame) (x : Closure) → mean h N (enter h N S x) ≡ focus top (plug (context h N S) (expression_in h N x))
  unfolding enter
  enter_focus S x = enter_by S x (value_in h x) (value_in_lem h N o x)

  enter_byᶜ : (S : List Frame) (x : Closure) (v : Option Bool) → as_bool (condition_in h N x) ≡ v
      → mean h N (given v (λ v. upᶜ h N S v) (downᶜ h N S x)) ≡ focus top (plugᶜ (contextᶜ h N S) (condition_in h N x))
  enter_byᶜ S x (some v) q = upᶜ_focus S v ∙ ap (λ (e : Condition). focus top (plugᶜ (contextᶜ h N S) e)) (sym (as_bool_lem _ v q))
  enter_byᶜ S x none q =
      down_focusᶜ h N o N S x (omega arith) ∙ sym (focus_plugᶜ (contextᶜ h N S) (condition_in h N x) q)

  pub enter_focusᶜ : (S : List Frame) (x : Closure) → mean h N (enterᶜ h N S x) ≡ focus top (plugᶜ (contextᶜ h N S) (condition_in h N x))
  unfolding enterᶜ
  enter_focusᶜ S x = enter_byᶜ S x (bool_in h x) (bool_in_lem h N o x)

  pub go_focus : (S : List Frame) (r : Result) → mean h N (go h N S r) ≡ focus top (plug (context h N S) (result_of h N r))
  unfolding go plug redex_expression
  go_focus S (Result.value v) = up_focus S v
  go_focus S (Result.run x) = enter_focus S x
  go_focus S (Result.held o x) = enter_focus (Frame.hold o ∷ S) x
  go_focus S (Result.while_test x) = enter_focusᶜ (Frame.while_test x ∷ S) (first_of x)
  go_focus S (Result.while_body x) = enter_focus (Frame.while_body x ∷ S) (second_of x)
  go_focus S (Result.while_again x) = sym (found (context h N S) (redex_of h N (Ready.while x)))
  go_focus S (Result.waiting o) = sym (found (context h N S) (redex_of h N (Ready.waiting o)))

  -- the thread's expression after a move
  pub whole_go : (S : List Frame) (r : Result) → whole (mean h N (go h N S r)) ≡ plug (context h N S) (result_of h N r)
  whole_go S r = ap whole (go_focus S r) ∙ whole_focus (plug (context h N S) (result_of h N r))

  pub whole_up : (S : List Frame) (b : Bool) → whole (mean h N (upᶜ h N S b)) ≡ plugᶜ (contextᶜ h N S) (bool b)
  whole_up S b = ap whole (upᶜ_focus S b) ∙ whole_focus (plugᶜ (contextᶜ h N S) (bool b))

  pub whole_enter : (S : List Frame) (x : Closure) → whole (mean h N (enterᶜ h N S x)) ≡ plugᶜ (contextᶜ h N S) (condition_in h N x)
  whole_enter S x = ap whole (enter_focusᶜ S x) ∙ whole_focus (plugᶜ (contextᶜ h N S) (condition_in h N x))
