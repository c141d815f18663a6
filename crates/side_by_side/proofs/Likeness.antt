-- What is alike stays alike: under more names, substitution, plugging; the part that moves next is alike; the depth is the same.
use Prim.Native.Nat.{ℕ, zero, suc}
use native.Mathlib.Omega.{arith}
use mathlib.Core.Path.{◌≡◌, refl, sym, ap, subst as along}
use mathlib.Core.Bool.{Bool, true, false, cond}
use mathlib.Core.List.{List, [], ◌∷◌, ◌++◌}
use mathlib.Core.Option.{Option, some, none}
use lib.Dec.{eqb}
use lib.ListN.{length}
use Rattle.plan_packed.specs.Syntax.{Signal, Expression, Condition, Arguments, Program, Environment, bind, bind_parameters, without, value_or, substitute}
use Rattle.plan_packed.specs.Syntax.{substituteᶜ, substituteᵃ, bool}
use Rattle.plan_packed.specs.Slots.{bound}
use Rattle.plan_packed.proofs.WellFormed.{WellFormed, WellFormedᶜ, WellFormedᵃ}
use Rattle.rules.specs.Context.{Context, Contextᶜ, Redex, Redexᶜ, Focus, focus, focusᶜ, focusᵃ, on_literal, on_bool, on_not, as_literal, as_bool, is_truth}
use Rattle.rules.specs.Context.{false_when, plug, plugᶜ, literals, depth, depthᶜ, depth_of}
use Rattle.rules.specs.Step.{around}
use Rattle.rules.proofs.FocusPlug.{found}
use Rattle.side_by_side.specs.Inner.Waitless.{Waitless, Waitlessᶜ, Waitlessᵃ}
use Rattle.side_by_side.proofs.Like.{Naming, Like, e_lit, e_var, e_new, e_read, e_write, e_lets, e_if, e_while, e_call, e_fork, e_join, e_synch}
use Rattle.side_by_side.proofs.Like.{e_hold, e_signal, Likeᶜ, c_truth, c_not, c_and, c_equal, Likeᵃ, a_end, a_arg, LikeValues, l_nil, l_cons}
use Rattle.side_by_side.proofs.Like.{LikeContext, k_top, k_read, k_write₁, k_write₂, k_args, k_lets, k_synch, k_hold, k_join, k_signal, k_equal₁}
use Rattle.side_by_side.proofs.Like.{k_equal₂, LikeContextᶜ, k_if, k_and, k_not, LikePart, r_var, r_new, r_read, r_write, r_lets, r_if, r_while}
use Rattle.side_by_side.proofs.Like.{r_call, r_fork, r_join, r_synch, r_hold, r_signal, LikePartᶜ, r_not_false, r_and, r_equal, LikeFocus, f_value}
use Rattle.side_by_side.proofs.Like.{f_here, f_hereᶜ}

-- ---- more names

abbrev pub Extends : Naming → Naming → Type 0
Extends ω ω' = (o a : ℕ) → ω o ≡ some a → ω' o ≡ some a

module _ (ω ω' : Naming) (x : Extends ω ω') where
  mutual
    pub wider : {d e : Expression} → Like ω d e → Like ω' d e
    wider (e_lit {o} {a} h) = e_lit (x o a h)
    wider e_var = e_var
    wider e_new = e_new
    wider (e_read a) = e_read (wider a)
    wider (e_write a b) = e_write (wider a) (wider b)
    wider (e_lets a b) = e_lets (wider a) (wider b)
    wider (e_if c a b) = e_if (widerᶜ c) (wider a) (wider b)
    wider (e_while c a) = e_while (widerᶜ c) (wider a)
    wider (e_call a) = e_call (widerᵃ a)
    wider (e_fork a) = e_fork (wider a)
    wider (e_join a) = e_join (wider a)
    wider (e_synch a b) = e_synch (wider a) (wider b)
    wider (e_hold {o} {a} h b) = e_hold (x o a h) (wider b)
    wider (e_signal n b) = e_signal n (wider b)

    pub widerᶜ : {b c : Condition} → Likeᶜ ω b c → Likeᶜ ω' b c
    widerᶜ c_truth = c_truth
    widerᶜ (c_not a) = c_not (widerᶜ a)
    widerᶜ (c_and a b) = c_and (widerᶜ a) (widerᶜ b)
    widerᶜ (c_equal a b) = c_equal (wider a) (wider b)

    pub widerᵃ : {ds es : Arguments} → Likeᵃ ω ds es → Likeᵃ ω' ds es
    widerᵃ a_end = a_end
    widerᵃ (a_arg a b) = a_arg (wider a) (widerᵃ b)

  pub wider_l : {os as' : List ℕ} → LikeValues ω os as' → LikeValues ω' os as'
  wider_l l_nil = l_nil
  wider_l (l_cons {o} {a} h l) = l_cons (x o a h) (wider_l l)

  mutual
    pub wider_k : {K J : Context} → LikeContext ω K J → LikeContext ω' K J
    wider_k k_top = k_top
    wider_k (k_read k) = k_read (wider_k k)
    wider_k (k_write₁ k a) = k_write₁ (wider_k k) (wider a)
    wider_k (k_write₂ {o = o} {a = a} k h) = k_write₂ (wider_k k) (x o a h)
    wider_k (k_args k l a) = k_args (wider_k k) (wider_l l) (widerᵃ a)
    wider_k (k_lets k a) = k_lets (wider_k k) (wider a)
    wider_k (k_synch k a) = k_synch (wider_k k) (wider a)
    wider_k (k_hold {o = o} {a = a} k h) = k_hold (wider_k k) (x o a h)
    wider_k (k_join k) = k_join (wider_k k)
    wider_k (k_signal k n) = k_signal (wider_k k) n
    wider_k (k_equal₁ k a) = k_equal₁ (wider_kᶜ k) (wider a)
    wider_k (k_equal₂ {o = o} {a = a} k h) = k_equal₂ (wider_kᶜ k) (x o a h)

    pub wider_kᶜ : {K J : Contextᶜ} → LikeContextᶜ ω K J → LikeContextᶜ ω' K J
    wider_kᶜ (k_if k a b) = k_if (wider_k k) (wider a) (wider b)
    wider_kᶜ (k_and k c) = k_and (wider_kᶜ k) (widerᶜ c)
    wider_kᶜ (k_not k) = k_not (wider_kᶜ k)

module _ (ω : Naming) where
  -- ---- substitution

  pub data LikeOption : Option ℕ → Option ℕ → Type 0 where
    o_none : LikeOption none none
    o_some : {o a : ℕ} → ω o ≡ some a → LikeOption (some o) (some a)

  abbrev pub LikeEnvironment : Environment → Environment → Type 0
  LikeEnvironment σ σ' = (x : ℕ) → LikeOption (σ x) (σ' x)

  slot_like : (x : ℕ) {v w : Option ℕ} → LikeOption v w → Like ω (value_or x v) (value_or x w)
  unfolding value_or
  slot_like x o_none = e_var
  slot_like x (o_some h) = e_lit h

  without_like : (x : Option ℕ) (σ σ' : Environment) → LikeEnvironment σ σ' → LikeEnvironment (without x σ) (without x σ')
  unfolding without
  without_like none σ σ' h y = h y
  without_like (some x) σ σ' h y = go (eqb x y) (h y)
    where
      go : (b : Bool) → LikeOption (σ y) (σ' y) → LikeOption (cond b none (σ y)) (cond b none (σ' y))
      go true h = o_none
      go false h = h

  mutual
    unfolding substitute

    pub filled : {d e : Expression} → Like ω d e → (σ σ' : Environment) → LikeEnvironment σ σ' → Like ω (substitute σ d) (substitute σ' e)
    filled (e_lit h) σ σ' k = e_lit h
    filled (e_var {x}) σ σ' k = slot_like x (k x)
    filled e_new σ σ' k = e_new
    filled (e_read a) σ σ' k = e_read (filled a σ σ' k)
    filled (e_write a b) σ σ' k = e_write (filled a σ σ' k) (filled b σ σ' k)
    filled (e_lets {x = x} a b) σ σ' k = e_lets (filled a σ σ' k) (filled b (without x σ) (without x σ') (without_like x σ σ' k))
    filled (e_if c a b) σ σ' k = e_if (filledᶜ c σ σ' k) (filled a σ σ' k) (filled b σ σ' k)
    filled (e_while c a) σ σ' k = e_while (filledᶜ c σ σ' k) (filled a σ σ' k)
    filled (e_call a) σ σ' k = e_call (filledᵃ a σ σ' k)
    filled (e_fork a) σ σ' k = e_fork (filled a σ σ' k)
    filled (e_join a) σ σ' k = e_join (filled a σ σ' k)
    filled (e_synch a b) σ σ' k = e_synch (filled a σ σ' k) (filled b σ σ' k)
    filled (e_hold h b) σ σ' k = e_hold h (filled b σ σ' k)
    filled (e_signal n b) σ σ' k = e_signal n (filled b σ σ' k)

    pub filledᶜ : {b c : Condition} → Likeᶜ ω b c → (σ σ' : Environment) → LikeEnvironment σ σ' → Likeᶜ ω (substituteᶜ σ b) (substituteᶜ σ' c)
    filledᶜ c_truth σ σ' k = c_truth
    filledᶜ (c_not a) σ σ' k = c_not (filledᶜ a σ σ' k)
    filledᶜ (c_and a b) σ σ' k = c_and (filledᶜ a σ σ' k) (filledᶜ b σ σ' k)
    filledᶜ (c_equal a b) σ σ' k = c_equal (filled a σ σ' k) (filled b σ σ' k)

    pub filledᵃ : {ds es : Arguments} → Likeᵃ ω ds es → (σ σ' : Environment) → LikeEnvironment σ σ' → Likeᵃ ω (substituteᵃ σ ds) (substituteᵃ σ' es)
    filledᵃ a_end σ σ' k = a_end
    filledᵃ (a_arg a b) σ σ' k = a_arg (filled a σ σ' k) (filledᵃ b σ σ' k)

  pub bind_like : (x : Option ℕ) (o a : ℕ) → ω o ≡ some a → LikeEnvironment (bind x o) (bind x a)
  unfolding bind
  bind_like none o a h y = o_none
  bind_like (some x) o a h y = go (eqb x y)
    where
      go : (b : Bool) → LikeOption (cond b (some o) none) (cond b (some a) none)
      go true = o_some h
      go false = o_none

  pub params_like : {os as' : List ℕ} → LikeValues ω os as' → LikeEnvironment (bind_parameters os) (bind_parameters as')
  unfolding bind_parameters
  params_like l_nil y = o_none
  params_like (l_cons h l) zero = o_some h
  params_like (l_cons h l) (suc y) = params_like l y

  pub length_like : {os as' : List ℕ} → LikeValues ω os as' → length os ≡ length as'
  length_like l_nil = refl
  length_like (l_cons h l) = ap suc (length_like l)

  -- ---- the text of a plan is like itself

  module _ (g : Program) (zero_kept : ω 0 ≡ some 0) where
    mutual
      pub itself : (ρ : ℕ → Bool) (e : Expression) → WellFormed g 1 ρ e → Waitless e → Like ω e e
      itself ρ (Expression.literal o) h w = let z : o ≡ 0 =
          omega arith in along (λ (n : ℕ). Like ω (Expression.literal n) (Expression.literal n)) (sym z) (e_lit zero_kept)
      itself ρ (Expression.variable x) h w = e_var
      itself ρ (Expression.new fs) h w = e_new
      itself ρ (Expression.read e f) h w = e_read (itself ρ e h.2 w)
      itself ρ (Expression.write e f e') h w = e_write (itself ρ e h.2 w.0) (itself ρ e' h.3 w.1)
      itself ρ (Expression.let_in x e e') h w = e_lets (itself ρ e h.0 w.0) (itself (bound x ρ) e' h.1 w.1)
      itself ρ (Expression.if c e e') h w = e_if (itselfᶜ ρ c h.0 w.0) (itself ρ e h.1 w.1) (itself ρ e' h.2 w.2)
      itself ρ (Expression.while c e) h w = e_while (itselfᶜ ρ c h.0 w.0) (itself ρ e h.1 w.1)
      itself ρ (Expression.call m es) h w = e_call (itselfᵃ ρ es h.1 w)
      itself ρ (Expression.fork e) h w = e_fork (itself ρ e h w)
      itself ρ (Expression.join e) h w = e_join (itself ρ e h w)
      itself ρ (Expression.synch e e') h w = e_synch (itself ρ e h.0 w.0) (itself ρ e' h.1 w.1)
      itself ρ (Expression.hold o e) h w = absurd h
      itself ρ (Expression.signal k e) h w = e_signal w.0 (itself ρ e h w.1)
      itself ρ (Expression.waiting o) h w = absurd h

      pub itselfᶜ : (ρ : ℕ → Bool) (c : Condition) → WellFormedᶜ g 1 ρ c → Waitlessᶜ c → Likeᶜ ω c c
      itselfᶜ ρ Condition.truth h w = c_truth
      itselfᶜ ρ (Condition.not c) h w = c_not (itselfᶜ ρ c h w)
      itselfᶜ ρ (Condition.and c c') h w = c_and (itselfᶜ ρ c h.0 w.0) (itselfᶜ ρ c' h.1 w.1)
      itselfᶜ ρ (Condition.equal e e') h w = c_equal (itself ρ e h.0 w.0) (itself ρ e' h.1 w.1)

      pub itselfᵃ : (ρ : ℕ → Bool) (es : Arguments) → WellFormedᵃ g 1 ρ es → Waitlessᵃ es → Likeᵃ ω es es
      itselfᵃ ρ Arguments.end h w = a_end
      itselfᵃ ρ (Arguments.argument e es) h w = a_arg (itself ρ e h.0 w.0) (itselfᵃ ρ es h.1 w.1)

  -- ---- the part that moves next

  as_like : {d e : Expression} → Like ω d e → LikeOption (as_literal d) (as_literal e)
  unfolding as_literal
  as_like (e_lit h) = o_some h
  as_like e_var = o_none
  as_like e_new = o_none
  as_like (e_read a) = o_none
  as_like (e_write a b) = o_none
  as_like (e_lets a b) = o_none
  as_like (e_if c a b) = o_none
  as_like (e_while c a) = o_none
  as_like (e_call a) = o_none
  as_like (e_fork a) = o_none
  as_like (e_join a) = o_none
  as_like (e_synch a b) = o_none
  as_like (e_hold h b) = o_none
  as_like (e_signal n b) = o_none

  truth_like : {b c : Condition} → Likeᶜ ω b c → is_truth b ≡ is_truth c
  unfolding is_truth
  truth_like c_truth = refl
  truth_like (c_not a) = refl
  truth_like (c_and a b) = refl
  truth_like (c_equal a b) = refl

  bool_like : {b c : Condition} → Likeᶜ ω b c → as_bool b ≡ as_bool c
  unfolding as_bool
  bool_like c_truth = refl
  bool_like (c_not a) = ap false_when (truth_like a)
  bool_like (c_and a b) = refl
  bool_like (c_equal a b) = refl

  on_lit : {a b : Option ℕ} → LikeOption a b → (k k' : ℕ → Focus) (r r' : Focus) → ((o v : ℕ) → ω o ≡ some v → LikeFocus ω (k o) (k' v)) → LikeFocus ω r r'
      → LikeFocus ω (on_literal a k r) (on_literal b k' r')
  on_lit o_none k k' r r' h h' = h'
  on_lit (o_some {o} {a} q) k k' r r' h h' = h o a q

  on_bool_lem : (a b : Option Bool) → a ≡ b → (k k' : Bool → Focus) (r r' : Focus) → ((x : Bool) → LikeFocus ω (k x) (k' x)) → LikeFocus ω r r'
      → LikeFocus ω (on_bool a k r) (on_bool b k' r')
  on_bool_lem a (some x) e k k' r r' h h' = along (λ (z : Option Bool). LikeFocus ω (on_bool z k r) (k' x)) (sym e) (h x)
  on_bool_lem a none e k k' r r' h h' = along (λ (z : Option Bool). LikeFocus ω (on_bool z k r) r') (sym e) h'

  add_like : {os as' : List ℕ} → LikeValues ω os as' → (o a : ℕ) → ω o ≡ some a → LikeValues ω (os ++ (o ∷ [])) (as' ++ (a ∷ []))
  add_like l_nil o a h = l_cons h l_nil
  add_like (l_cons k l) o a h = l_cons k (add_like l o a h)

  not_like : {K J : Contextᶜ} → LikeContextᶜ ω K J → (b : Bool) → ω 0 ≡ some 0 → LikeFocus ω (on_not K b) (on_not J b)
  not_like k true z = f_value z
  not_like k false z = f_hereᶜ k r_not_false

  module _ (zero_kept : ω 0 ≡ some 0) where
    mutual
      unfolding focus as_literal as_bool

      pub focus_like : {d e : Expression} → Like ω d e → {K J : Context} → LikeContext ω K J → LikeFocus ω (focus K d) (focus J e)
      focus_like (e_lit h) k = f_value h
      focus_like e_var k = f_here k r_var
      focus_like e_new k = f_here k r_new
      focus_like (e_read a) k = on_lit (as_like a) _ _ _ _ (λ o v q. f_here k (r_read q)) (focus_like a (k_read k))
      focus_like (e_write a b) k =
          on_lit (as_like a) _ _ _ _ (λ o v q. on_lit (as_like b) _ _ _ _ (λ o' v' q'. f_here k (r_write q q')) (focus_like b (k_write₂ k q)))
          (focus_like a (k_write₁ k b))
      focus_like (e_lets a b) k = on_lit (as_like a) _ _ _ _ (λ o v q. f_here k (r_lets q b)) (focus_like a (k_lets k b))
      focus_like (e_if {b = b} {c = c} x a d) k = on_bool_lem (as_bool b) (as_bool c) (bool_like x) _ _ _ _ (λ y. f_here k (r_if a d)) (focus_likeᶜ x (k_if k a d))
      focus_like (e_while c a) k = f_here k (r_while c a)
      focus_like (e_call {m = m} a) k = focus_likeᵃ a k m l_nil
      focus_like (e_fork a) k = f_here k (r_fork a)
      focus_like (e_join a) k = on_lit (as_like a) _ _ _ _ (λ o v q. f_here k (r_join q)) (focus_like a (k_join k))
      focus_like (e_synch a b) k = on_lit (as_like a) _ _ _ _ (λ o v q. f_here k (r_synch q b)) (focus_like a (k_synch k b))
      focus_like (e_hold h b) k = on_lit (as_like b) _ _ _ _ (λ o v q. f_here k (r_hold h q)) (focus_like b (k_hold k h))
      focus_like (e_signal n b) k = on_lit (as_like b) _ _ _ _ (λ o v q. f_here k (r_signal n q)) (focus_like b (k_signal k n))

      pub focus_likeᶜ : {b c : Condition} → Likeᶜ ω b c → {K J : Contextᶜ} → LikeContextᶜ ω K J → LikeFocus ω (focusᶜ K b) (focusᶜ J c)
      focus_likeᶜ c_truth k = f_value zero_kept
      focus_likeᶜ (c_not {b} {c} a) k = on_bool_lem (as_bool b) (as_bool c) (bool_like a) _ _ _ _ (λ y. not_like k y zero_kept) (focus_likeᶜ a (k_not k))
      focus_likeᶜ (c_and {b} {c} a d) k = on_bool_lem (as_bool b) (as_bool c) (bool_like a) _ _ _ _ (λ y. f_hereᶜ k (r_and d)) (focus_likeᶜ a (k_and k d))
      focus_likeᶜ (c_equal a b) k =
          on_lit (as_like a) _ _ _ _ (λ o v q. on_lit (as_like b) _ _ _ _ (λ o' v' q'. f_hereᶜ k (r_equal q q')) (focus_like b (k_equal₂ k q)))
          (focus_like a (k_equal₁ k b))

      focus_likeᵃ : {ds es : Arguments} → Likeᵃ ω ds es → {K J : Context} → LikeContext ω K J → (m : ℕ) {os as' : List ℕ} → LikeValues ω os as'
          → LikeFocus ω (focusᵃ K m os ds) (focusᵃ J m as' es)
      focus_likeᵃ a_end k m l = f_here k (r_call l)
      focus_likeᵃ (a_arg a b) k m l = on_lit (as_like a) _ _ _ _ (λ o v q. focus_likeᵃ b k m (add_like l o v q)) (focus_like a (k_args k l b))

  -- ---- plugging

  lits_like : {os as' : List ℕ} → LikeValues ω os as' → {ds es : Arguments} → Likeᵃ ω ds es → Likeᵃ ω (literals os ds) (literals as' es)
  unfolding literals
  lits_like l_nil a = a
  lits_like (l_cons h l) a = a_arg (e_lit h) (lits_like l a)

  mutual
    unfolding plug

    pub plug_like : {K J : Context} → LikeContext ω K J → {d e : Expression} → Like ω d e → Like ω (plug K d) (plug J e)
    plug_like k_top a = a
    plug_like (k_read k) a = plug_like k (e_read a)
    plug_like (k_write₁ k b) a = plug_like k (e_write a b)
    plug_like (k_write₂ k h) a = plug_like k (e_write (e_lit h) a)
    plug_like (k_args k l b) a = plug_like k (e_call (lits_like l (a_arg a b)))
    plug_like (k_lets k b) a = plug_like k (e_lets a b)
    plug_like (k_synch k b) a = plug_like k (e_synch a b)
    plug_like (k_hold k h) a = plug_like k (e_hold h a)
    plug_like (k_join k) a = plug_like k (e_join a)
    plug_like (k_signal k n) a = plug_like k (e_signal n a)
    plug_like (k_equal₁ k b) a = plug_likeᶜ k (c_equal a b)
    plug_like (k_equal₂ k h) a = plug_likeᶜ k (c_equal (e_lit h) a)

    pub plug_likeᶜ : {K J : Contextᶜ} → LikeContextᶜ ω K J → {b c : Condition} → Likeᶜ ω b c → Like ω (plugᶜ K b) (plugᶜ J c)
    plug_likeᶜ (k_if k a b) c = plug_like k (e_if c a b)
    plug_likeᶜ (k_and k d) c = plug_likeᶜ k (c_and c d)
    plug_likeᶜ (k_not k) c = plug_likeᶜ k (c_not c)

  -- ---- depth

  mutual
    unfolding depth

    depth_like : {K J : Context} → LikeContext ω K J → depth K ≡ depth J
    depth_like k_top = refl
    depth_like (k_read k) = ap suc (depth_like k)
    depth_like (k_write₁ k b) = ap suc (depth_like k)
    depth_like (k_write₂ k h) = ap suc (depth_like k)
    depth_like (k_args k l b) = ap suc (depth_like k)
    depth_like (k_lets k b) = ap suc (depth_like k)
    depth_like (k_synch k b) = ap suc (depth_like k)
    depth_like (k_hold k h) = ap suc (depth_like k)
    depth_like (k_join k) = ap suc (depth_like k)
    depth_like (k_signal k n) = ap suc (depth_like k)
    depth_like (k_equal₁ k b) = ap suc (depth_likeᶜ k)
    depth_like (k_equal₂ k h) = ap suc (depth_likeᶜ k)

    depth_likeᶜ : {K J : Contextᶜ} → LikeContextᶜ ω K J → depthᶜ K ≡ depthᶜ J
    depth_likeᶜ (k_if k a b) = ap suc (depth_like k)
    depth_likeᶜ (k_and k d) = ap suc (depth_likeᶜ k)
    depth_likeᶜ (k_not k) = ap suc (depth_likeᶜ k)

  pub same_depth : {F G : Focus} → LikeFocus ω F G → depth_of F ≡ depth_of G
  unfolding depth_of
  same_depth (f_value h) = refl
  same_depth (f_here k x) = depth_like k
  same_depth (f_hereᶜ k x) = depth_likeᶜ k

  pub bool_itself : (b : Bool) → Likeᶜ ω (bool b) (bool b)
  unfolding bool
  bool_itself true = c_truth
  bool_itself false = c_not c_truth

  -- ---- what an expression like another moves next

  pub record Next (K : Context) (x : Redex) (F : Focus) : Type 0 where
    pub around : Context
    pub part : Redex
    pub found : F ≡ Focus.here around part
    pub around_like : LikeContext ω K around
    pub part_like : LikePart ω x part

  pub next : {K : Context} {x : Redex} {F : Focus} → LikeFocus ω (Focus.here K x) F → Next K x F
  next (f_here {J = J} {y = y} k r) = record { around = J; part = y; found = refl; around_like = k; part_like = r }

  pub record Nextᶜ (K : Contextᶜ) (x : Redexᶜ) (F : Focus) : Type 0 where
    pub around : Contextᶜ
    pub part : Redexᶜ
    pub found : F ≡ Focus.hereᶜ around part
    pub around_like : LikeContextᶜ ω K around
    pub part_like : LikePartᶜ ω x part

  pub nextᶜ : {K : Contextᶜ} {x : Redexᶜ} {F : Focus} → LikeFocus ω (Focus.hereᶜ K x) F → Nextᶜ K x F
  nextᶜ (f_hereᶜ {J = J} {y = y} k r) = record { around = J; part = y; found = refl; around_like = k; part_like = r }
