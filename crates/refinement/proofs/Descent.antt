-- The way down by one term: a term that is no value is found as its first operand is, in one frame more. Assumes nothing.
use Prim.Native.Nat.{ℕ, ◌≤◌}
use mathlib.Core.Path.{◌≡◌, refl, sym, ap, ◌∙◌}
use mathlib.Core.Bool.{Bool, true, false}
use mathlib.Core.List.{List, ◌∷◌}
use mathlib.Core.Option.{Option, some, none}
use lib.ListN.{length}
use Rattle.plan_packed.specs.Syntax.{Signal}
use Rattle.plan_packed.specs.Trees.{new, read, write, let_in, if, while, call, fork, join, synch, signal, truth, not, and, equal, list, list_end}
use Rattle.plan_packed.specs.Trees.{Node, expression, condition, arguments}
use Rattle.plan_packed.specs.Inner.Steps.{Descending}
use Rattle.rules.specs.Context.{false_when}
use Rattle.machine.specs.Inner.Frames.{Slots, no_slots, Closure, closure, branches, Frame, Ready, Found, height}
use Rattle.machine.specs.Inner.Refocusing.{given, value_of, is_true, bool_of, value_in, bool_in, found_not, up_by, down_by, down_byᶜ, down_byᵃ, down, downᶜ, downᵃ, up}
use Rattle.machine.specs.Inner.Refocusing.{upᶜ}
use Rattle.machine.specs.Inner.Refocusing.{enter, enterᶜ}
use Rattle.machine.specs.Inner.Turns.{Going, Turn, ends, go_down, go_downᶜ, go_list, refocus, turn, refocus_turn}
use Rattle.machine.proofs.Turns.{turn_refocuses}
use Rattle.machine.proofs.Heights.{turn_under}

module _ {h : ℕ → Node} {N : ℕ} (o : Descending h N) where
  -- ---- values

  pub enter_value : (S : List Frame) (x : Closure) (v : ℕ) → value_in h x ≡ some v → enter h N S x ≡ up h N S v
  unfolding enter
  enter_value S x v e = rw e

  enter_other : (S : List Frame) (x : Closure) → value_in h x ≡ none → enter h N S x ≡ down h N S x
  unfolding enter
  enter_other S x e = rw e

  pub enter_truth : (S : List Frame) (x : Closure) (v : Bool) → bool_in h x ≡ some v → enterᶜ h N S x ≡ upᶜ h N S v
  unfolding enterᶜ
  enter_truth S x v e = rw e

  enter_otherᶜ : (S : List Frame) (x : Closure) → bool_in h x ≡ none → enterᶜ h N S x ≡ downᶜ h N S x
  unfolding enterᶜ
  enter_otherᶜ S x e = rw e

  -- ---- what is no value is found under all the frames

  pub under : (S : List Frame) (x : Closure) → value_in h x ≡ none → length S ≤ height (enter h N S x)
  unfolding turn refocus
  under S x e = rw (enter_other S x e) (rw e at (turn_under h N o S (Going.enter x)))

  pub underᶜ : (S : List Frame) (x : Closure) → bool_in h x ≡ none → length S ≤ height (enterᶜ h N S x)
  unfolding turn refocus
  underᶜ S x e = rw (enter_otherᶜ S x e) (rw e at (turn_under h N o S (Going.enterᶜ x)))

  -- ---- a turn down

  given_same : {A : Type 0} (v : Option A) (k : A → Turn) (g : Turn) (m : A → Found) (r : Found) → ((a : A) → refocus_turn h N (k a) ≡ m a) → refocus_turn h N
      g ≡ r
      → refocus_turn h N (given v k g) ≡ given v m r
  given_same (some a) k g m r p q = p a
  given_same none k g m r p q = q

  opened : (S : List Frame) (x : Closure) → value_in h x ≡ none → enter h N S x ≡ refocus_turn h N (turn h N S (Going.down x))
  unfolding refocus
  opened S x e = enter_other S x e ∙ turn_refocuses h N o S (Going.down x)

  openedᶜ : (S : List Frame) (x : Closure) → bool_in h x ≡ none → enterᶜ h N S x ≡ refocus_turn h N (turn h N S (Going.downᶜ x))
  unfolding refocus
  openedᶜ S x e = enter_otherᶜ S x e ∙ turn_refocuses h N o S (Going.downᶜ x)

  openedᵃ : (S : List Frame) (m n : ℕ) (σ : Slots) (x : Closure) → downᵃ h N S m n σ x ≡ refocus_turn h N (turn h N S (Going.list m n σ x))
  unfolding refocus
  openedᵃ S m n σ x = turn_refocuses h N o S (Going.list m n σ x)

  upped : (S : List Frame) (v : ℕ) → refocus_turn h N (turn h N S (Going.value v)) ≡ up h N S v
  unfolding refocus
  upped S v = sym (turn_refocuses h N o S (Going.value v))

  none_at : (t : ℕ) (ρ : Slots) (n : Node) → h t ≡ n → value_of ρ n ≡ none → value_in h (closure t ρ) ≡ none
  unfolding value_in
  none_at t ρ n e q = ap (value_of ρ) e ∙ q

  none_atᶜ : (t : ℕ) (ρ : Slots) (n : Node) → h t ≡ n → bool_of h n ≡ none → bool_in h (closure t ρ) ≡ none
  unfolding bool_in
  none_atᶜ t ρ n e q = ap (bool_of h) e ∙ q

  module _ (S : List Frame) (t : ℕ) (ρ : Slots) where
    by : (n : Node) → h t ≡ n → value_of ρ n ≡ none → enter h N S (closure t ρ) ≡ refocus_turn h N (down_by h ends go_down go_downᶜ go_list ρ S n)
    unfolding turn
    by n e q = opened S (closure t ρ) (none_at t ρ n e q) ∙ ap (λ (n : Node). refocus_turn h N (down_by h ends go_down go_downᶜ go_list ρ S n)) e

    byᶜ : (n : Node) → h t ≡ n → bool_of h n ≡ none → enterᶜ h N S (closure t ρ) ≡ refocus_turn h N (down_byᶜ h ends go_down go_downᶜ go_list ρ S n)
    unfolding turn
    byᶜ n e q = openedᶜ S (closure t ρ) (none_atᶜ t ρ n e q) ∙ ap (λ (n : Node). refocus_turn h N (down_byᶜ h ends go_down go_downᶜ go_list ρ S n)) e

    -- ---- expressions

    pub enter_new : {fs : List ℕ} → h t ≡ expression (new fs) → enter h N S (closure t ρ) ≡ Found.here S (Ready.new fs)
    unfolding down_by value_of refocus_turn
    enter_new {fs} e = by (expression (new fs)) e refl

    pub enter_while : {i j : ℕ} → h t ≡ expression (while i j) → enter h N S (closure t ρ) ≡ Found.here S (Ready.while (branches i j ρ))
    unfolding down_by value_of refocus_turn
    enter_while {i} {j} e = by (expression (while i j)) e refl

    pub enter_fork : {i : ℕ} → h t ≡ expression (fork i) → enter h N S (closure t ρ) ≡ Found.here S (Ready.fork (closure i ρ))
    unfolding down_by value_of refocus_turn
    enter_fork {i} e = by (expression (fork i)) e refl

    pub enter_call : {m i : ℕ} → h t ≡ expression (call m i) → enter h N S (closure t ρ) ≡ downᵃ h N S m 0 no_slots (closure i ρ)
    unfolding down_by value_of refocus_turn refocus
    enter_call {m} {i} e = by (expression (call m i)) e refl

    pub enter_read : {i f : ℕ} → h t ≡ expression (read i f) → enter h N S (closure t ρ) ≡ enter h N (Frame.read f ∷ S) (closure i ρ)
    unfolding down_by value_of refocus_turn refocus enter up
    enter_read {i} {f} e = by (expression (read i f)) e refl ∙ given_same (value_in h (closure i ρ)) _ _ _ _ (λ v. refl) refl

    pub enter_write : {i f j : ℕ} → h t ≡ expression (write i f j) → enter h N S (closure t ρ) ≡ enter h N (Frame.write₁ f (closure j ρ) ∷ S) (closure i ρ)
    unfolding down_by value_of refocus_turn refocus enter turn up_by
    enter_write {i} {f} {j} e =
        by (expression (write i f j)) e refl ∙ given_same (value_in h (closure i ρ)) _ _ _ _ (λ v. upped (Frame.write₁ f (closure j ρ) ∷ S) v) refl

    pub enter_let : {x : Option ℕ} {i j : ℕ} → h t ≡ expression (let_in x i j)
        → enter h N S (closure t ρ) ≡ enter h N (Frame.let_in x (closure j ρ) ∷ S) (closure i ρ)
    unfolding down_by value_of refocus_turn refocus enter up
    enter_let {x} {i} {j} e = by (expression (let_in x i j)) e refl ∙ given_same (value_in h (closure i ρ)) _ _ _ _ (λ v. refl) refl

    pub enter_if : {i j k : ℕ} → h t ≡ expression (if i j k) → enter h N S (closure t ρ) ≡ enterᶜ h N (Frame.if (branches j k ρ) ∷ S) (closure i ρ)
    unfolding down_by value_of refocus_turn refocus enterᶜ upᶜ
    enter_if {i} {j} {k} e = by (expression (if i j k)) e refl ∙ given_same (bool_in h (closure i ρ)) _ _ _ _ (λ v. refl) refl

    pub enter_join : {i : ℕ} → h t ≡ expression (join i) → enter h N S (closure t ρ) ≡ enter h N (Frame.join ∷ S) (closure i ρ)
    unfolding down_by value_of refocus_turn refocus enter up
    enter_join {i} e = by (expression (join i)) e refl ∙ given_same (value_in h (closure i ρ)) _ _ _ _ (λ v. refl) refl

    pub enter_synch : {i j : ℕ} → h t ≡ expression (synch i j) → enter h N S (closure t ρ) ≡ enter h N (Frame.synch (closure j ρ) ∷ S) (closure i ρ)
    unfolding down_by value_of refocus_turn refocus enter up
    enter_synch {i} {j} e = by (expression (synch i j)) e refl ∙ given_same (value_in h (closure i ρ)) _ _ _ _ (λ v. refl) refl

    pub enter_signal : {k : Signal} {i : ℕ} → h t ≡ expression (signal k i) → enter h N S (closure t ρ) ≡ enter h N (Frame.signal k ∷ S) (closure i ρ)
    unfolding down_by value_of refocus_turn refocus enter up
    enter_signal {k} {i} e = by (expression (signal k i)) e refl ∙ given_same (value_in h (closure i ρ)) _ _ _ _ (λ v. refl) refl

    -- ---- conditions

    pub enter_and : {i j : ℕ} → h t ≡ condition (and i j) → enterᶜ h N S (closure t ρ) ≡ enterᶜ h N (Frame.and (closure j ρ) ∷ S) (closure i ρ)
    unfolding down_byᶜ bool_of refocus_turn refocus enterᶜ upᶜ
    enter_and {i} {j} e = byᶜ (condition (and i j)) e refl ∙ given_same (bool_in h (closure i ρ)) _ _ _ _ (λ v. refl) refl

    pub enter_equal : {i j : ℕ} → h t ≡ condition (equal i j) → enterᶜ h N S (closure t ρ) ≡ enter h N (Frame.equal₁ (closure j ρ) ∷ S) (closure i ρ)
    unfolding down_byᶜ bool_of refocus_turn refocus enter turn up_by
    enter_equal {i} {j} e =
        byᶜ (condition (equal i j)) e refl ∙ given_same (value_in h (closure i ρ)) _ _ _ _ (λ v. upped (Frame.equal₁ (closure j ρ) ∷ S) v) refl

    -- `not true` is a value; the operand of another `not` is not true
    pub enter_not_true : {i : ℕ} → h t ≡ condition (not i) → h i ≡ condition truth → enterᶜ h N S (closure t ρ) ≡ enterᶜ h N (Frame.not ∷ S) (closure i ρ)
    unfolding bool_in bool_of is_true false_when upᶜ
    enter_not_true {i} e q = enter_truth S (closure t ρ) false (rw (e, q)) ∙ sym (enter_truth (Frame.not ∷ S) (closure i ρ) true (rw q))

    pub enter_not : {i : ℕ} → h t ≡ condition (not i) → is_true (h i) ≡ false → (bool_of h (h i) ≡ some true → ⊥)
        → enterᶜ h N S (closure t ρ) ≡ enterᶜ h N (Frame.not ∷ S) (closure i ρ)
    unfolding down_byᶜ bool_of false_when refocus_turn refocus enterᶜ upᶜ bool_in
    enter_not {i} e q never = byᶜ (condition (not i)) e (rw q) ∙ at (bool_of h (h i)) never
      where
        at : (v : Option Bool) → (v ≡ some true → ⊥)
            → refocus_turn h N (given v (λ b. found_not h ends S b) (go_downᶜ (Frame.not ∷ S) (closure i ρ))) ≡ given v (λ b. upᶜ h N (Frame.not ∷ S) b)
            (downᶜ h N (Frame.not ∷ S) (closure i ρ))
        at (some true) n = absurd (n refl)
        at (some false) n = refl
        at none n = refl

    -- ---- a call's list

    pub list_more : (m n : ℕ) (σ : Slots) {i j : ℕ} → h t ≡ arguments (list i j)
        → downᵃ h N S m n σ (closure t ρ) ≡ enter h N (Frame.call m n σ (closure j ρ) ∷ S) (closure i ρ)
    unfolding turn down_byᵃ refocus_turn refocus enter up
    list_more m n σ {i} {j} e =
        openedᵃ S m n σ (closure t ρ) ∙ ap (λ (x : Node). refocus_turn h N (down_byᵃ h ends go_down go_downᶜ go_list ρ S m n σ x)) e
        ∙ given_same (value_in h (closure i ρ)) _ _ _ _ (λ v. refl) refl

    pub list_end_lem : (m n : ℕ) (σ : Slots) → h t ≡ arguments list_end → downᵃ h N S m n σ (closure t ρ) ≡ Found.here S (Ready.call m n σ)
    unfolding turn down_byᵃ refocus_turn
    list_end_lem m n σ e = openedᵃ S m n σ (closure t ρ) ∙ ap (λ (x : Node). refocus_turn h N (down_byᵃ h ends go_down go_downᶜ go_list ρ S m n σ x)) e
